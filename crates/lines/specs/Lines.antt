-- The lines of refusals: document 01, "A refusal prints only REFUSED, number and place in decimal".
use Rattle.std.specs.Prelude.{ℕ, List, ◌++◌}
use Rattle.words.specs.Paper.{number_of, port_number, refusal}
use Rattle.words.specs.declared.Refusal.{Refusal}
use Rattle.words.specs.declared.Witness.{Witness}
use Rattle.sequence.specs.declared.File.{File}
use Rattle.sequence.specs.declared.File.TheVariants.{AsJob, AsMapping}
use Rattle.bits.specs.Bits.{num}
use Rattle.text.specs.Text.{bytes, labelled}
use Rattle.words.specs.declared.Fault.TheVariants.{WrongRecipe}

-- no line has more bytes
abbrev pub most_line_bytes : ℕ
most_line_bytes = 160

-- nor has a refusal's number and place, or what is said of a wrong recipe
abbrev pub most_refusal_bytes : ℕ
most_refusal_bytes = 49

abbrev pub most_witness_bytes : ℕ
most_witness_bytes = 106

-- "REFUSED, number and place in decimal"
unfoldable pub refusal_text : Refusal → List ℕ
refusal_text r = labelled (bytes "REFUSED ") (number_of r.fault) ++ labelled (bytes " ") r.place

unfoldable pub refused_line : Refusal → List ℕ
refused_line r = refusal_text r ++ bytes "\n"

-- ---- the checker's lines: a refusal 1 to 6 says which file is meant, and 10 the port, the operands and the carry

abbrev pub file_name : File → List ℕ
file_name AsJob = bytes " JOB\n"
file_name AsMapping = bytes " MAPPING\n"

unfoldable pub refused_file_line : Refusal → File → List ℕ
refused_file_line r file = refusal_text r ++ file_name file

unfoldable pub witness_text : Witness → List ℕ
witness_text v =
    labelled (bytes " PORT ") (port_number v.port)
    ++ labelled (bytes " LEFT ") v.left
    ++ labelled (bytes " RIGHT ") v.right
    ++ labelled (bytes " CARRY ") (num v.carry)

unfoldable pub wrong_line : Witness → List ℕ
wrong_line v = refusal_text (refusal WrongRecipe v.function) ++ witness_text v ++ bytes "\n"
