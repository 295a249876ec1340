-- The parts of a job and of a mapping. "A job: header, prices, 1 to 27 sources, 0 to 27 targets, 0 to 512 rules. A mapping: header, 0 to
-- 27 bindings, glue count."
use Rattle.std.specs.Prelude.{ℕ, List, take, drop}
use Rattle.words.specs.declared.Prices.{Prices}
use Rattle.reader.specs.Starts.{sources_start, targets_start, rules_start, bindings_start}
use Rattle.reader.specs.declared.Job.{Job}
use Rattle.reader.specs.declared.Mapping.{Mapping}
use Rattle.table.specs.declared.terms.Terms as held

abbrev pub sources_of : List ℕ → Job → List ℕ
sources_of ws job = take job.sources (drop sources_start ws)

abbrev pub targets_of : List ℕ → Job → List ℕ
targets_of ws job = take job.targets (drop (targets_start job) ws)

-- "The rules, a part of the job that begins after its tables"
abbrev pub rules_of : List ℕ → Job → List ℕ
rules_of ws job = drop (rules_start job) ws

abbrev pub bindings_of : List ℕ → Mapping → List ℕ
bindings_of ws mapping = take mapping.bindings (drop bindings_start ws)

-- The terms of a job, by which rules and bindings are judged and priced: its width, its prices, and its source and target words.
pub record Terms : Type 0 where
  pub width : ℕ
  pub prices : Prices
  pub sources : List ℕ
  pub targets : List ℕ

-- the terms that a value in the code holds
abbrev pub terms_held : held.Terms → Terms
terms_held t = record { width = t.width.n; prices = t.prices; sources = t.sources.now; targets = t.targets.now }

abbrev pub terms_with : Job → List ℕ → List ℕ → Terms
terms_with job sources targets = record { width = job.width; prices = job.prices; sources = sources; targets = targets }

abbrev pub terms_of : List ℕ → Job → Terms
terms_of ws job = terms_with job (sources_of ws job) (targets_of ws job)
