-- Document 01, "Words" and refusals 1 to 6: the reading of a mapping.
use Rattle.std.specs.Prelude.{ℕ, ◌-◌, ◌≡◌, not, List, [], ◌∷◌, eqb, length, get_or, if◌then◌else◌, Result, Ok, Err}
use Rattle.words.specs.Field.{field}
use Rattle.words.specs.Kinds.{GLUE}
use Rattle.words.specs.Paper.{Paper, refusal, accepted, told}
use Rattle.sequence.specs.Sequence.{stage_of}
use Rattle.reader.specs.Words.{words_read}
use Rattle.sequence.specs.declared.File.TheVariants.{AsMapping}
use Rattle.sequence.specs.declared.State.{State}
use Rattle.words.specs.declared.Refusal.{Refusal}
use Rattle.reader.specs.declared.Mapping.{Mapping}
use Rattle.words.specs.declared.Fault.TheVariants.{OutOfSequence}

-- "bits 6..0 width", "bits 27..0 glue count", which is the last word
abbrev pub mapping_facts : ℕ → ℕ → State → Mapping
mapping_facts header last s = record { width = field header 0 7; bindings = s.bindings; glue = field last 0 28 }

-- the words passed one by one; "or file ended early (place: word count)": a mapping ends in its glue count
abbrev pub mapping_ended : List ℕ → Result State Refusal → Result Mapping Refusal
mapping_ended ws (Err r) = Err r
mapping_ended ws (Ok s) =
    if not (eqb (stage_of s) GLUE) then Err (refusal OutOfSequence (length ws))
    else Ok (mapping_facts (get_or ws 0 0) (get_or ws (length ws - 1) 0) s)

unfoldable pub mapping_of : List ℕ → Result Mapping Refusal
mapping_of ws = mapping_ended ws (words_read AsMapping ws)

-- "A .. mapping is well formed if none of 1 to 6 below holds of its words": it then says this
abbrev pub WellFormedMapping : List ℕ → Mapping → Type 0
WellFormedMapping ws mapping = mapping_of ws ≡ Ok mapping

-- the answer in document 01's numbers
abbrev pub paper_of : Result Mapping Refusal → Paper
paper_of (Ok mapping) = accepted (mapping.width ∷ mapping.bindings ∷ mapping.glue ∷ [])
paper_of (Err r) = told r
