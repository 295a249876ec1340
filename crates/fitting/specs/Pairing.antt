-- A mapping that was read, with its bindings, under the terms of the job that was read with it: what refusals 7 to 11 speak of.
use Rattle.std.specs.Prelude.{List, ℕ, Result, Ok, Err}
use Rattle.reader.specs.declared.Job.{Job}
use Rattle.reader.specs.declared.Mapping.{Mapping}
use Rattle.table.specs.Parts.{Terms, terms_held, terms_of, bindings_of}
use Rattle.fitting.specs.Pair.{pair_of}
use Rattle.fitting.specs.declared.PairError.{PairError}
use Rattle.fitting.specs.declared.Pair.{Pair}

pub record Pairing : Type 0 where
  pub terms : Terms
  pub mapping : Mapping
  pub bindings : List ℕ

-- the pair that a value in the code holds
abbrev pub held : Pair → Pairing
held p = record { terms = terms_held p.terms; mapping = p.mapping; bindings = p.bindings.now }

abbrev pub held_of : Result Pair PairError → Result Pairing PairError
held_of (Err refused) = Err refused
held_of (Ok p) = Ok (held p)

-- a mapping's bindings under the terms of a job, both by their words
abbrev pub paired : List ℕ → List ℕ → Result (Job × Mapping) PairError → Result Pairing PairError
paired job_words mapping_words (Err refused) = Err refused
paired job_words mapping_words (Ok (job, mapping)) =
    Ok (record { terms = terms_of job_words job; mapping = mapping; bindings = bindings_of mapping_words mapping })

-- the pair that is read from the words of a job and of a mapping, or the first refusal, 1 to 6
abbrev pub pairing_of : List ℕ → List ℕ → Result Pairing PairError
pairing_of job_words mapping_words = paired job_words mapping_words (pair_of job_words mapping_words)
