-- The tables of a job that was read.
use mathlib.Core.Path.{◌≡◌, ap, ◌∙◌}
use mathlib.Core.List.{List}
use Prim.Native.Nat.{ℕ, ◌≤◌}
use native.Mathlib.Omega.{arith}
use lib.ListN.{length, drop, length-take}
use Rattle.sequence.specs.Limits.{most_sources, most_targets}
use Rattle.reader.specs.Starts.{sources_start, targets_start}
use Rattle.reader.specs.Job.{WellFormedJob}
use Rattle.reader.specs.declared.Job.{Job}
use Rattle.wellformed.proofs.JobWords.{well_formed}
use Rattle.table.specs.declared.terms.Terms as held
use Rattle.table.specs.Parts.{Terms, terms_held, terms_of}
use Rattle.soundness.specs.declared.Tables.{Tables}
use Rattle.opening.specs.Opening.{table_of, tables_with, tables_in}

module _ (ws : List ℕ) (job : Job) (t : held.Terms) (et : terms_held t ≡ terms_of ws job) where
  pub few_sources : WellFormedJob ws job → length t.sources.now ≤ most_sources
  few_sources e =
      omega
      (arith, ap (λ (x : Terms). length x.sources) et, length-take job.sources (drop sources_start ws), (well_formed ws job e).sources_most)

  pub few_targets : WellFormedJob ws job → length t.targets.now ≤ most_targets
  few_targets e =
      omega
      (arith, ap (λ (x : Terms). length x.targets) et, length-take job.targets (drop (targets_start job) ws), (well_formed ws job e).targets_most)

  pub job_tables : (s u : List ℕ) (b : Tables) → s ≡ table_of most_sources t.sources.now → u ≡ table_of most_targets t.targets.now
      → b ≡ tables_with job s u → b ≡ tables_in ws job
  job_tables s u b es eu e =
      e ∙ (λ i. tables_with job (es i) (eu i))
      ∙ ap (λ (x : Terms). tables_with job (table_of most_sources x.sources) (table_of most_targets x.targets)) et
