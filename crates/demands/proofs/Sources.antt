-- The sources of a job rise; so the first without a usable rule is the lowest.
use mathlib.Core.Path.{◌≡◌, sym, ap, subst, ◌∙◌}
use mathlib.Core.List.{List, []}
use Prim.Native.Nat.{ℕ, ◌<◌}
use native.Mathlib.Decide.{dec_lt}
use native.Mathlib.Omega.{arith}
use lib.ListN.{get_or}
use Rattle.words.specs.Field.{content_of, source_function}
use Rattle.words.specs.Paper.{source_place}
use Rattle.reader.specs.Job.{WellFormedJob}
use Rattle.reader.specs.Starts.{sources_start}
use Rattle.reader.specs.declared.Job.{Job}
use Rattle.wellformed.proofs.JobWords.{well_formed}
use Rattle.table.specs.Parts.{sources_of, terms_of}
use Rattle.std.specs.Prelude.{Err}
use Rattle.mapper.specs.Mapping.{rules_for, choice_of}
use Rattle.mapper.proofs.Answering.{sources_length}
use Rattle.demands.specs.Mapped.{source_at}
use Rattle.demands.specs.Choice.{Served, ServedAt, LowestUnserved}
use Rattle.demands.proofs.Parts.{rises, rises_to, source_at_lem}
use Rattle.demands.proofs.Choice.{unmappable_unserved}

module _ (ws : List ℕ) (job : Job) where
  -- said of the list of sources, and of the words of the job
  pub served_at : (k : ℕ) → k < job.sources → Served (terms_of ws job) (source_function (get_or (sources_of ws job) k 0)) (rules_for ws job)
      → ServedAt ws job k
  served_at k h s = subst (λ (f : ℕ). Served (terms_of ws job) f (rules_for ws job)) (source_at_lem ws job k h) s

  pub at_served : (k : ℕ) → k < job.sources → ServedAt ws job k
      → Served (terms_of ws job) (source_function (get_or (sources_of ws job) k 0)) (rules_for ws job)
  at_served k h s = subst (λ (f : ℕ). Served (terms_of ws job) f (rules_for ws job)) (sym (source_at_lem ws job k h)) s

  module _ (e : WellFormedJob ws job) where
    pub sources_rise : (i k : ℕ) → i < k → k < job.sources → source_at ws i < source_at ws k
    sources_rise i k l h = rises ws sources_start job.sources content_of (well_formed ws job e).sources_rise i k l h

    pub unmappable_lowest : (place : ℕ) → choice_of ws job ≡ Err place → LowestUnserved ws job place
    unmappable_lowest place c =
        let u = unmappable_unserved (terms_of ws job) (rules_for ws job) (sources_of ws job) [] place c in
        let n = sources_length ws job e in
        let within : u.index < job.sources = omega (arith, u.within) in
        let earlier : (i : ℕ) → i < u.index → ServedAt ws job i = λ i l. served_at i (omega arith) (u.earlier_served i l) in
        record {
          index = u.index;
          within = within;
          is_place = ap source_place (sym (source_at_lem ws job u.index within)) ∙ u.is_place;
          unserved = λ s. u.unserved (at_served u.index within s);
          earlier_served = earlier;
          lowest =
              λ k h none.
              elim (dec_lt k u.index) [
                | yes l ↦ absurd (none (earlier k l))
                | no l ↦
                    rises_to ws sources_start job.sources content_of (well_formed ws job e).sources_rise u.index k (omega arith) h
              ];
        }
