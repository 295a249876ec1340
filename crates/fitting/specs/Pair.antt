-- Document 01, refusals 1 to 6 of a job and a mapping handed in together: "The job is read in full, its 1 included, before the
-- mapping, and the checker's 1 to 6 also say which of the two is meant."
use Rattle.std.specs.Prelude.{List, ℕ, Result, Ok, Err}
use Rattle.reader.specs.Job.{job_of}
use Rattle.reader.specs.Mapping.{mapping_of}
use Rattle.reader.specs.declared.Job.{Job}
use Rattle.fitting.specs.declared.PairError.{PairError}
use Rattle.reader.specs.declared.Mapping.{Mapping}
use Rattle.words.specs.declared.Refusal.{Refusal}
use Rattle.fitting.specs.declared.PairError.TheVariants.{JobRefused, MappingRefused}

abbrev pub with_mapping : Job → Result Mapping Refusal → Result (Job × Mapping) PairError
with_mapping j (Err r) = Err (MappingRefused r)
with_mapping j (Ok m) = Ok (j, m)

abbrev pub with_job : Result Job Refusal → Result Mapping Refusal → Result (Job × Mapping) PairError
with_job (Err r) m = Err (JobRefused r)
with_job (Ok j) m = with_mapping j m

unfoldable pub pair_of : List ℕ → List ℕ → Result (Job × Mapping) PairError
pair_of job_words mapping_words = with_job (job_of job_words) (mapping_of mapping_words)
