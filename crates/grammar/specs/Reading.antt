-- Document 01, "Refusals that come from the input": "word by word, 2 to 6 in each".
use Rattle.std.specs.Prelude.{ℕ, ◌+◌, ◌^◌, Bool, true, false, not, ◌&&◌, List, [], ◌∷◌, eqb, ltb, if◌then◌else◌, Option, Some, None, Result, Ok, Err}
use Rattle.words.specs.Field.{field, kind_of, content_of, source_function, target_function}
use Rattle.words.specs.Kinds.{HEADER, PRICES, SOURCE, TARGET, RULE, BINDING, GLUE, kind_named, is_recipe}
use Rattle.words.specs.declared.kind.WordKind.{WordKind}
use Rattle.words.specs.Paper.{unless_fault}
use Rattle.words.specs.declared.Fault.{Fault}
use Rattle.words.specs.declared.Fault.TheVariants.{OutOfSequence, NotLaidOut, NotRising}
use Rattle.alu.specs.Range.{is_function, is_width}
use Rattle.recipe.specs.Fields.{source_of}
use Rattle.layout.specs.Layout.{laid_out, output_fault}
use Rattle.sequence.specs.Sequence.{stage_of, function_of, in_sequence}
use Rattle.sequence.specs.declared.File.{File}
use Rattle.sequence.specs.declared.File.TheVariants.{AsJob, AsMapping}
use Rattle.sequence.specs.declared.State.{State}
use Rattle.sequence.specs.declared.Last.{Last}
use Rattle.words.specs.declared.Refusal.{Refusal}

-- ---- "3. A field, number or zero bit against the layout": what stands below the kind; "bits not named are zero"

-- "header: bits 6..0 width", and request #101: "Header bit 7 of a job, in a mapping still zero"
abbrev pub header_fits : File → ℕ → Bool
header_fits AsJob w = ltb (content_of w) (2 ^ 8) && is_width (field w 0 7)
header_fits AsMapping w = is_width (content_of w)

-- "prices, 0 to 255: bits 23..16 .., 15..8 .., 7..0"
abbrev pub prices_fit : ℕ → Bool
prices_fit w = ltb (content_of w) (2 ^ 24)

-- "source .. function: bits 4..0 number"
abbrev pub source_fits : ℕ → Bool
source_fits w = is_function (content_of w)

-- "target function: bits 4..0 number"; request #105: "Bit 5 of a target word marks it"
abbrev pub target_fits : ℕ → Bool
target_fits w = ltb (content_of w) (2 ^ 6) && is_function (target_function w)

-- "bits 27..0 glue count"
abbrev pub glue_fits : ℕ → Bool
glue_fits w = true

-- a word of any kind; "rule, binding: a recipe"
unfoldable pub fits : File → ℕ → Bool
fits file w =
    if eqb (kind_of w) HEADER then header_fits file w
    else if eqb (kind_of w) PRICES then prices_fit w
    else if eqb (kind_of w) SOURCE then source_fits w
    else if eqb (kind_of w) TARGET then target_fits w
    else if eqb (kind_of w) GLUE then glue_fits w
    else laid_out w

-- ---- "4. Function not above the one before."

-- the function by which a word rises; "source function for bindings"
abbrev pub function_in : ℕ → ℕ
function_in w =
    if eqb (kind_of w) SOURCE then source_function w
    else if eqb (kind_of w) TARGET then target_function w
    else source_of w

-- "Sources, targets and bindings rise strictly by function": above the word before, where that is of the same kind
unfoldable pub rises : State → ℕ → Bool
rises s w =
    if eqb (kind_of w) RULE then true
    else if eqb (stage_of s) (kind_of w) then ltb (function_of s) (function_in w)
    else true

-- ---- one word

-- the refusal of a word, 2 to 6 in this order, or none
unfoldable pub word_fault : File → State → ℕ → Option Fault
word_fault file s w =
    if not (in_sequence file s (kind_of w)) then Some OutOfSequence
    else if not (fits file w) then Some NotLaidOut
    else if not (rises s w) then Some NotRising
    else if not (is_recipe (kind_of w)) then None
    else output_fault w

-- before the first word
abbrev pub beginning : State
beginning = record { last = None; sources = 0; targets = 0; rules = 0; bindings = 0 }

abbrev pub raised : ℕ → Bool → ℕ
raised count true = count + 1
raised count false = count

-- the last word, of a kind and with a function
abbrev pub last_word : ℕ → Option WordKind → Option Last
last_word function None = None
last_word function (Some kind) = Some (record { kind = kind; function = function })

-- one more word of a kind
abbrev pub noted : ℕ → ℕ → State → State
noted kind function s =
    record {
      last = last_word function (kind_named kind);
      sources = raised s.sources (eqb kind SOURCE);
      targets = raised s.targets (eqb kind TARGET);
      rules = raised s.rules (eqb kind RULE);
      bindings = raised s.bindings (eqb kind BINDING);
    }

abbrev pub after : State → ℕ → State
after s w = noted (kind_of w) (function_in w) s

abbrev pub unless : Option Fault → State → Result State Fault
unless (Some fault) t = Err fault
unless None t = Ok t

abbrev pub step_of : File → State → ℕ → Result State Fault
step_of file s w = unless (word_fault file s w) (after s w)

-- ---- all words

-- the words from a place on: the state after them, or the number and place of the first that is refused
abbrev pub reading : File → State → ℕ → List ℕ → Result State Refusal
reading file s place [] = Ok s
reading file s place (w ∷ ws) = unless_fault (word_fault file s w) place (reading file (after s w) (place + 1) ws)
