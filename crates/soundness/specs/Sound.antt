-- Document 01, "Mapper and bench", and request #103: when a bench is sound. A bench is a job's tables, for each source in table order an
-- entry for what is bound to it, and the count that it stores.
use Rattle.std.specs.Prelude.{ℕ, ◌+◌, ◌*◌, ◌^◌, Bool, true, false, not, ◌&&◌, List, [], ◌∷◌, ◌++◌, eqb, ltb, take, drop, if◌then◌else◌, Option, Some, is_some, Result, Ok, Err}
use Rattle.words.specs.Field.{kind_of, source_function, word_of}
use Rattle.words.specs.Kinds.{HEADER, PRICES, RULE}
use Rattle.words.specs.declared.Fault.{Fault}
use Rattle.words.specs.declared.Fault.TheVariants.{OutOfSequence}
use Rattle.words.specs.declared.Prices.{Prices}
use Rattle.alu.specs.Range.{is_width}
use Rattle.recipe.specs.Fields.{source_of}
use Rattle.layout.specs.Layout.{recipe_fault}
use Rattle.binding.specs.Right.{is_right}
use Rattle.sequence.specs.Limits.{most_sources, most_targets}
use Rattle.reader.specs.Job.{job_of}
use Rattle.reader.specs.declared.Job.{Job}
use Rattle.words.specs.declared.Refusal.{Refusal}
use Rattle.table.specs.Table.{has_target}
use Rattle.table.specs.Parts.{Terms}
use Rattle.claims.specs.Claim.{claim_in}
use Rattle.glue.specs.Glue.{glue}
use Rattle.soundness.specs.declared.Tables.{Tables}

-- ---- entries

-- what stands in an entry to which nothing is bound, and in those of a table past its words
abbrev pub nothing : ℕ
nothing = 0

-- entries in which nothing stands
unfoldable pub empty : List ℕ → Bool
empty [] = true
empty (w ∷ ws) = if not (eqb w nothing) then false else empty ws

-- what is bound, in table order
unfoldable pub filled : List ℕ → List ℕ
filled [] = []
filled (w ∷ ws) = if eqb w nothing then filled ws else w ∷ filled ws

abbrev pub sources_on : Tables → List ℕ
sources_on t = take t.nsources t.sources

abbrev pub targets_on : Tables → List ℕ
targets_on t = take t.ntargets t.targets

abbrev pub terms_on : Tables → Terms
terms_on t = record { width = t.width; prices = t.prices; sources = sources_on t; targets = targets_on t }

-- ---- the tables

-- the prices as a job's second word has them
abbrev pub prices_word : Prices → ℕ
prices_word p = word_of PRICES (p.inverter * 2 ^ 16 + p.gate * 2 ^ 8 + p.multiplexer)

-- the words of a job without rules that has these tables
abbrev pub table_words : Tables → List ℕ
table_words t = word_of HEADER t.width ∷ prices_word t.prices ∷ (sources_on t ++ targets_on t)

-- a job was accepted that has so many sources and targets
abbrev pub holds : ℕ → ℕ → Result Job Refusal → Bool
holds nsources ntargets (Err r) = false
holds nsources ntargets (Ok job) = eqb job.sources nsources && eqb job.targets ntargets

-- "values in range, at least one source, sources and targets that a job's tables could hold, their number and order included"
unfoldable pub tables_sound : Tables → Bool
tables_sound t =
    if not (is_width t.width) then false
    else if ltb most_sources t.nsources then false
    else if ltb most_targets t.ntargets then false
    else holds t.nsources t.ntargets (job_of (table_words t))

-- ---- what is bound

-- the refusal of a word as a rule: 2 for another kind, then 3, 5 and 6; or none
unfoldable pub rule_fault : ℕ → Option Fault
rule_fault w = if not (eqb (kind_of w) RULE) then Some OutOfSequence else recipe_fault w

-- "a right kind 5 recipe that passes 3, 5 and 6, whose source it is, .. from a target of the job or from scratch"
unfoldable pub bindable : ℕ → List ℕ → List ℕ → ℕ → ℕ → Bool
bindable n sources targets s w =
    if is_some (rule_fault w) then false
    else if not (eqb (source_of w) (source_function s)) then false
    else if not (has_target targets w) then false
    else is_right (claim_in sources targets w) n

-- "either nothing or" such a recipe
unfoldable pub entry_sound : ℕ → List ℕ → List ℕ → ℕ → ℕ → Bool
entry_sound n sources targets s w = if eqb w nothing then true else bindable n sources targets s w

-- "for each function .., that source being in the job": an entry for each of these sources, and nothing in those past them
unfoldable pub bound_sound : ℕ → List ℕ → List ℕ → List ℕ → List ℕ → Bool
bound_sound n sources targets [] bound = empty bound
bound_sound n sources targets (s ∷ ss) [] = true
bound_sound n sources targets (s ∷ ss) (w ∷ bound) =
    if not (entry_sound n sources targets s w) then false else bound_sound n sources targets ss bound

-- the glue count of what is bound
unfoldable pub glue_on : Tables → List ℕ → ℕ
glue_on t bound = glue t.width t.prices (filled bound)

-- ---- all three; "A stored count other than the one document 01 defines makes the bench not sound."

unfoldable pub is_sound : Tables → List ℕ → ℕ → Bool
is_sound t bound stored =
    if not (tables_sound t) then false
    else if not (empty (drop t.nsources t.sources)) then false
    else if not (empty (drop t.ntargets t.targets)) then false
    else if not (bound_sound t.width (sources_on t) (targets_on t) (sources_on t) bound) then false
    else eqb stored (glue_on t bound)
