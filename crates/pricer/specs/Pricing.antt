-- The glue count of a mapping under its job: document 01, "Glue count", after refusals 1 to 8. Neither the mapping's own glue word
-- nor whether it is complete or right has a part in it.
use Rattle.std.specs.Prelude.{ℕ, List, [], ◌∷◌, Result, Ok, Err, ⊤}
use Rattle.words.specs.Paper.{Paper, accepted, told, told_of_job, told_of_mapping}
use Rattle.reader.specs.declared.Job.{Job}
use Rattle.reader.specs.declared.Mapping.{Mapping}
use Rattle.table.specs.Parts.{Terms}
use Rattle.fitting.specs.Pairing.{Pairing, pairing_of}
use Rattle.fitting.specs.Fitting.{fit_of}
use Rattle.fitting.specs.declared.PairError.{PairError}
use Rattle.words.specs.declared.Refusal.{Refusal}
use Rattle.glue.specs.Glue.{glue}
use Rattle.fitting.specs.declared.PairError.TheVariants.{JobRefused, MappingRefused, Refused}

-- the glue count of bindings under a job
abbrev pub glue_of : Job → List ℕ → ℕ
glue_of job bindings = glue job.width job.prices bindings

abbrev pub counted : Result ⊤ Refusal → ℕ → Result ℕ PairError
counted (Err r) count = Err (Refused r)
counted (Ok tt) count = Ok count

-- a mapping that was read, under the terms of a job that was read
abbrev pub priced_under : Terms → Mapping → List ℕ → Result ℕ PairError
priced_under t mapping bindings = counted (fit_of t mapping bindings) (glue t.width t.prices bindings)

abbrev pub priced_pair : Result Pairing PairError → Result ℕ PairError
priced_pair (Err refused) = Err refused
priced_pair (Ok p) = priced_under p.terms p.mapping p.bindings

-- "1 first; then word by word, 2 to 6 in each; then 7 to 11"
unfoldable pub pricing_of : List ℕ → List ℕ → Result ℕ PairError
pricing_of job_words mapping_words = priced_pair (pairing_of job_words mapping_words)

-- the answer in document 01's numbers
abbrev pub paper_of : Result ℕ PairError → Paper
paper_of (Ok count) = accepted (count ∷ [])
paper_of (Err (JobRefused r)) = told_of_job r
paper_of (Err (MappingRefused r)) = told_of_mapping r
paper_of (Err (Refused r)) = told r
