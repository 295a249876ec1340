-- "2. Kind out of sequence or past its count": which kind of word may come next in a job and in a mapping.
use Rattle.std.specs.Prelude.{ℕ, Bool, false, ◌&&◌, ◌||◌, eqb, ltb, if◌then◌else◌, Option, Some, None}
use Rattle.words.specs.Kinds.{HEADER, PRICES, SOURCE, TARGET, RULE, BINDING, GLUE, kind_number}
use Rattle.sequence.specs.Limits.{most_sources, most_targets, most_rules, most_bindings}
use Rattle.sequence.specs.declared.File.{File}
use Rattle.sequence.specs.declared.File.TheVariants.{AsJob, AsMapping}
use Rattle.sequence.specs.declared.State.{State}
use Rattle.sequence.specs.declared.Last.{Last}

-- The stage of a file is the kind of its last word so far, or this one before the first.
abbrev pub START : ℕ
START = 0

abbrev pub stage_after : Option Last → ℕ
stage_after None = START
stage_after (Some last) = kind_number last.kind

abbrev pub stage_of : State → ℕ
stage_of s = stage_after s.last

-- the function of the last word so far
abbrev pub function_after : Option Last → ℕ
function_after None = 0
function_after (Some last) = last.function

abbrev pub function_of : State → ℕ
function_of s = function_after s.last

-- "A job: header, prices, 1 to 27 sources, 0 to 27 targets, 0 to 512 rules."
unfoldable pub job_sequence : State → ℕ → Bool
job_sequence s kind =
    if eqb kind HEADER then eqb (stage_of s) START
    else if eqb kind PRICES then eqb (stage_of s) HEADER
    else if eqb kind SOURCE then (eqb (stage_of s) PRICES || eqb (stage_of s) SOURCE) && ltb s.sources most_sources
    else if eqb kind TARGET then (eqb (stage_of s) SOURCE || eqb (stage_of s) TARGET) && ltb s.targets most_targets
    else if eqb kind RULE
    then (eqb (stage_of s) SOURCE || eqb (stage_of s) TARGET || eqb (stage_of s) RULE) && ltb s.rules most_rules
    else false

-- "A mapping: header, 0 to 27 bindings, glue count."
unfoldable pub mapping_sequence : State → ℕ → Bool
mapping_sequence s kind =
    if eqb kind HEADER then eqb (stage_of s) START
    else if eqb kind BINDING then (eqb (stage_of s) HEADER || eqb (stage_of s) BINDING) && ltb s.bindings most_bindings
    else if eqb kind GLUE then eqb (stage_of s) HEADER || eqb (stage_of s) BINDING
    else false

unfoldable pub in_sequence : File → State → ℕ → Bool
in_sequence AsJob s kind = job_sequence s kind
in_sequence AsMapping s kind = mapping_sequence s kind
