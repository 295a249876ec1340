-- The benches of a job: what the calls come to from opening it on, each of them sound; and what one with every source bound holds.
use mathlib.Core.Path.{◌≡◌, sym, ap, ap₂, subst, ◌∙◌}
use mathlib.Core.Bool.{true}
use mathlib.Core.List.{List}
use Prim.Native.Nat.{ℕ, ◌-◌, ◌≤◌, ◌<◌}
use native.Mathlib.Omega.{arith}
use lib.ListN.{length, get_or, replicate, length-append, length-replicate, length-set}
use Rattle.words.specs.Field.{source_function}
use Rattle.sequence.specs.Limits.{most_sources, most_targets}
use Rattle.reader.specs.Job.{WellFormedJob}
use Rattle.reader.specs.declared.Job.{Job}
use Rattle.std.specs.Prelude.{None, Result, ⊤}
use Rattle.words.specs.declared.Refusal.{Refusal}
use Rattle.wellformed.proofs.JobWords.{JobFacts, well_formed}
use Rattle.table.specs.Parts.{sources_of, targets_of}
use Rattle.table.specs.Table.{has_target}
use Rattle.soundness.specs.Sound.{sources_on, targets_on}
use Rattle.opening.specs.Opening.{table_of, tables_in}
use Rattle.bench.specs.Calls.{bench_with, sound_bench, holding, bindings_on, opened, open_for, open_of, release_of, price_of, unbound_on, finish_of}
use Rattle.bench.specs.Shape.{Shaped}
use Rattle.bench.specs.declared.Bench.{Bench}
use Rattle.bench.specs.declared.After.{After}
use Rattle.binding.specs.Right.{is_right}
use Rattle.claims.specs.Claim.{claim_in}
use Rattle.demands.specs.Benches.{Reached, opening, binding, releasing, pricing, finishing, BenchOf}
use Rattle.mapper.proofs.Answering.{sources_length}
use Rattle.demands.proofs.Parts.{source_at_lem}
use Rattle.demands.proofs.Written.{Bindable}
use Rattle.demands.proofs.OpenedSound.{zeros-count, table_words_lem, target_count, opened_sound}
use Rattle.demands.proofs.Keeping.{bind_keeps_sound}
use Rattle.demands.proofs.Allowed.{Outcome, Bound, Unchanged, outcome, bound_on}
use Rattle.demands.proofs.Releasing.{Release, Released, Kept, released_on, release, released_sound}
use Rattle.demands.proofs.Finished.{BoundRecipe, rule_recipe, binding_number, binding_of}

module _ (ws : List ℕ) (job : Job) where
  pub bound_of_job : (b : Bench) (w : ℕ) → BenchOf ws job b → sound_bench (bound_on b w) ≡ true → BenchOf ws job (bound_on b w)
  bound_of_job b w o s =
      record {
        as_opened = ap (λ (x : Bench). holding x (bound_on b w).bound) o.as_opened;
        entries = length-set b.bound _ w ∙ o.entries;
        sound = s;
      }

  released_of_job : (b : Bench) (f : ℕ) → BenchOf ws job b → Release b f → BenchOf ws job (release_of b f).bench
  released_of_job b f o (Released s u e) =
      subst (λ (x : After ⊤). BenchOf ws job x.bench) (sym e)
      (record {
        as_opened = ap (λ (x : Bench). holding x (released_on b f).bound) o.as_opened;
        entries = length-set b.bound _ 0 ∙ o.entries;
        sound = released_sound b f s;
      })
  released_of_job b f o (Kept _ e) = subst (BenchOf ws job) (sym e) o

  after-bind : (b : Bench) (w : ℕ) (r : After ⊤) → BenchOf ws job b → sound_bench r.bench ≡ true → Outcome b w r → BenchOf ws job r.bench
  after-bind b w r o s (Bound a e) =
      let q : r.bench ≡ bound_on b w = ap (λ (x : After ⊤). x.bench) e in
      subst (BenchOf ws job) (sym q) (bound_of_job b w o (ap sound_bench (sym q) ∙ s))
  after-bind b w r o s (Unchanged _ q) = subst (BenchOf ws job) (sym q) o

  module _ (e : WellFormedJob ws job) where
    stores_none : opened ws job ≡ holding (opened ws job) (opened ws job).bound
    stores_none = ap (bench_with (tables_in ws job) (replicate most_sources 0)) (sym (zeros-count (tables_in ws job) most_sources))

    pub opened_of_job : BenchOf ws job (opened ws job)
    opened_of_job = record { as_opened = stores_none; entries = length-replicate {A = ℕ} most_sources 0; sound = opened_sound ws job e }

    pub opens : (open_of ws).bench ≡ opened ws job
    unfolding open_of
    opens = ap (λ (x : Result Job Refusal). (open_for ws x).bench) e

    pub reached_of_job : (b : Bench) → Reached ws b → BenchOf ws job b
    unfolding price_of finish_of
    reached_of_job b opening = subst (BenchOf ws job) (sym opens) opened_of_job
    reached_of_job b (binding {b = c} w r q a) =
        let o = reached_of_job c q in
        after-bind c w r o (bind_keeps_sound c w r a o.sound) (outcome c w r a)
    reached_of_job b (releasing {b = c} f q) = released_of_job c f (reached_of_job c q) (release c f)
    reached_of_job b (pricing {b = c} q) = reached_of_job c q
    reached_of_job b (finishing {b = c} lent q) = reached_of_job c q

-- ---- the parts of a job's bench

table_length : (most : ℕ) (ws : List ℕ) → length ws ≤ most → length (table_of most ws) ≡ most
unfolding table_of
table_length most ws h =
    omega (arith, length-append ws (replicate (most - length ws) 0), length-replicate {A = ℕ} (most - length ws) 0)

module _ (ws : List ℕ) (job : Job) (e : WellFormedJob ws job) where
  facts : JobFacts ws job
  facts = well_formed ws job e

  pub same_sources : sources_on (tables_in ws job) ≡ sources_of ws job
  same_sources = table_words_lem most_sources (sources_of ws job) job.sources (sources_length ws job e)

  pub same_targets : targets_on (tables_in ws job) ≡ targets_of ws job
  same_targets = table_words_lem most_targets (targets_of ws job) job.targets (target_count ws job e)

  pub shaped : (bound : List ℕ) → length bound ≡ most_sources → Shaped (holding (opened ws job) bound)
  shaped bound n =
      record {
        tables_shaped = record {
          sources_entries = table_length most_sources (sources_of ws job) (omega (arith, sources_length ws job e, facts.sources_most));
          targets_entries = table_length most_targets (targets_of ws job) (omega (arith, target_count ws job e, facts.targets_most));
          inverter_fits = facts.inverter_most;
          gate_fits = facts.gate_most;
          multiplexer_fits = facts.multiplexer_most;
        };
        bound_entries = n;
      }

  -- what is bound, where every source is, is one usable rule for each source
  pub all_bindable : (b : Bench) → BenchOf ws job b → unbound_on b ≡ None → Bindable ws job (bindings_on b)
  all_bindable b o u =
      subst (λ (x : Bench). Bindable ws job (bindings_on x)) (sym o.as_opened)
      (bindable b.bound o.entries (ap sound_bench (sym o.as_opened) ∙ o.sound) (ap unbound_on (sym o.as_opened) ∙ u))
    where
      bindable : (bound : List ℕ) → length bound ≡ most_sources → sound_bench (holding (opened ws job) bound) ≡ true
          → unbound_on (holding (opened ws job) bound) ≡ None → Bindable ws job (bindings_on (holding (opened ws job) bound))
      bindable bound n s u =
          let b = holding (opened ws job) bound in
          let one = binding_number b (shaped bound n) s u in
          let at : (k : ℕ) → k < length (bindings_on b)
          → BoundRecipe job.width (sources_on (tables_in ws job)) (targets_on (tables_in ws job)) (get_or (sources_on (tables_in ws job)) k 0)
          (get_or (bindings_on b) k 0) =
          λ k h. binding_of b (shaped bound n) s u k (omega arith) in
          record {
            one_each = one;
            its_source =
                λ k h.
                (at k h).its_source ∙ ap (λ (l : List ℕ). source_function (get_or l k 0)) same_sources
                ∙ source_at_lem ws job k (omega arith);
            faultless = λ k h. rule_recipe (get_or (bindings_on b) k 0) (at k h).a_rule;
            target_there =
                λ k h.
                ap (λ (l : List ℕ). has_target l (get_or (bindings_on b) k 0)) (sym same_targets) ∙ (at k h).target_there;
            is_right_lem =
                λ k h.
                ap₂ (λ (x y : List ℕ). is_right (claim_in x y (get_or (bindings_on b) k 0)) job.width) (sym same_sources) (sym same_targets)
                ∙ (at k h).is_right_lem;
          }
