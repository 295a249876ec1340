-- Document 01, "Mapper and bench": the tables that open gives a bench.
use Rattle.std.specs.Prelude.{ℕ, ◌-◌, false, List, ◌++◌, length, replicate}
use Rattle.sequence.specs.Limits.{most_sources, most_targets}
use Rattle.reader.specs.declared.Job.{Job}
use Rattle.table.specs.Parts.{sources_of, targets_of}
use Rattle.soundness.specs.Sound.{nothing}
use Rattle.soundness.specs.declared.Tables.{Tables}

-- a table's words, and nothing in the entries past them
unfoldable pub table_of : ℕ → List ℕ → List ℕ
table_of most ws = ws ++ replicate (most - length ws) nothing

-- the tables of a job, with these words in the entries for its sources and targets
abbrev pub tables_with : Job → List ℕ → List ℕ → Tables
tables_with job sources targets =
    record {
      width = job.width;
      prices = job.prices;
      sources = sources;
      nsources = job.sources;
      targets = targets;
      ntargets = job.targets;
    }

abbrev pub tables_in : List ℕ → Job → Tables
tables_in ws job = tables_with job (table_of most_sources (sources_of ws job)) (table_of most_targets (targets_of ws job))

-- "one of zeros only": what a job of zeros would be
abbrev pub no_job : Job
no_job =
    record {
      width = 0;
      prices = record { inverter = 0; gate = 0; multiplexer = 0 };
      sources = 0;
      targets = 0;
      rules = 0;
      book = false;
    }

abbrev pub tables_of_zeros : Tables
tables_of_zeros = tables_with no_job (replicate most_sources 0) (replicate most_targets 0)
