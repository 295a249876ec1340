-- The line of a word, as show_words prints it: its eight digits, and what it is in document 01's words ("Words").
use Rattle.std.specs.Prelude.{ℕ, Option, None, Some, is_some, Bool, ◌&&◌, not, List, [], ◌++◌, eqb, leb, if◌then◌else◌}
use Rattle.words.specs.Paper.{number_of}
use Rattle.words.specs.declared.Fault.{Fault}
use Rattle.words.specs.declared.Fault.TheVariants.{OutOfSequence, NotLaidOut}
use Rattle.words.specs.Field.{field, kind_of, content_of, source_function, target_function, target_negated}
use Rattle.words.specs.Kinds.{HEADER, PRICES, SOURCE, TARGET, RULE, GLUE, is_recipe}
use Rattle.recipe.specs.Fields.{source_of, target_of, from_scratch, vector_of, fields_of}
use Rattle.recipe.specs.declared.Fields.{Fields}
use Rattle.layout.specs.Layout as layout
use Rattle.sequence.specs.declared.File.TheVariants.{AsJob}
use Rattle.grammar.specs.Reading.{fits}
use Rattle.text.specs.Text.{bytes, name_of, digits, hexadecimal, labelled}
use Rattle.spelling.specs.Spelling.{spelling_of}
use Rattle.spelling.specs.declared.Codes.{Codes}
use Rattle.spelling.specs.declared.Codes.TheVariants.{Wiring, Carry, Main, CarryOut, Overflow, Comparison}

-- no line has more bytes
abbrev pub most_word_bytes : ℕ
most_word_bytes = 200

-- ---- a recipe

-- an output after its name; code 0 is none
unfoldable pub shown_as : List ℕ → Codes → ℕ → List ℕ
shown_as label codes code = if eqb code 0 then [] else label ++ spelling_of codes code

-- what the target's inputs are wired to
unfoldable pub inputs_text : Fields → List ℕ
inputs_text r =
    bytes ": left " ++ spelling_of Wiring r.left
    ++ bytes ", right " ++ spelling_of Wiring r.right
    ++ bytes ", carry " ++ spelling_of Carry r.carry

-- what its outputs give
unfoldable pub outputs_text : Fields → List ℕ
outputs_text r =
    shown_as (bytes ", main ") Main r.main
    ++ shown_as (bytes ", carry out ") CarryOut r.cout
    ++ shown_as (bytes ", overflow ") Overflow r.ovf
    ++ shown_as (bytes ", comparison ") Comparison r.code

-- "From scratch: .. bits 3..0 are a logic vector"
unfoldable pub scratch_text : ℕ → List ℕ
scratch_text w = bytes " from scratch: vector " ++ digits 2 4 (vector_of w)

unfoldable pub wired_text : ℕ → List ℕ
wired_text w = bytes " from " ++ name_of (target_of w) ++ inputs_text (fields_of w) ++ outputs_text (fields_of w)

unfoldable pub recipe_text : ℕ → List ℕ
recipe_text w = name_of (source_of w) ++ (if from_scratch w then scratch_text w else wired_text w)

-- ---- a word of any kind

-- request #101: "Header bit 7 of a job". Whether a word stands in a job, only its file tells
unfoldable pub header_text : ℕ → List ℕ
header_text w = labelled (bytes "header: width ") (field w 0 7) ++ (if eqb (field w 7 1) 1 then bytes ", with the book" else [])

unfoldable pub prices_text : ℕ → List ℕ
prices_text w =
    labelled (bytes "prices: inverter ") (field w 16 8)
    ++ labelled (bytes ", gate ") (field w 8 8)
    ++ labelled (bytes ", multiplexer ") (field w 0 8)

-- request #105: "Bit 5 of a target word marks it"
unfoldable pub target_text : ℕ → List ℕ
target_text w = bytes "target " ++ name_of (target_function w) ++ (if target_negated w then bytes ", negated" else [])

unfoldable pub word_text : ℕ → List ℕ
word_text w =
    if eqb (kind_of w) HEADER then header_text w
    else if eqb (kind_of w) PRICES then prices_text w
    else if eqb (kind_of w) SOURCE then bytes "source " ++ name_of (source_function w)
    else if eqb (kind_of w) TARGET then target_text w
    else if eqb (kind_of w) GLUE then labelled (bytes "glue count ") (content_of w)
    else if eqb (kind_of w) RULE then bytes "rule " ++ recipe_text w
    else bytes "binding " ++ recipe_text w

-- ---- the refusal of a word by itself, wherever it stands

-- 1 to 7
unfoldable pub is_kind : ℕ → Bool
is_kind kind = leb HEADER kind && leb kind GLUE

-- a kind that no word has: 2; a word against the layout: 3
unfoldable pub layout_fault : ℕ → Option Fault
layout_fault w = if not (is_kind (kind_of w)) then Some OutOfSequence else if not (fits AsJob w) then Some NotLaidOut else None

-- of a recipe that the layout allows: 5 and 6
unfoldable pub output_fault : ℕ → Option Fault
output_fault w = if not (is_recipe (kind_of w)) then None else layout.output_fault w

-- a refusal behind what stands before it, or nothing
unfoldable pub fault_text : List ℕ → Option Fault → List ℕ
fault_text before None = []
fault_text before (Some fault) = labelled (before ++ bytes "REFUSED ") (number_of fault)

-- a word that the layout does not allow has no meaning; one that is refused with 5 or 6 has one
unfoldable pub meaning_text : ℕ → List ℕ
meaning_text w =
    if is_some (layout_fault w) then fault_text [] (layout_fault w)
    else word_text w ++ fault_text (bytes ", ") (output_fault w)

unfoldable pub word_line : ℕ → List ℕ
word_line w = hexadecimal w ++ bytes " " ++ meaning_text w ++ bytes "\n"
