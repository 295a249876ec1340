-- Request #103, as theorems of the contract: "store the count in the bench and keep it true through open, bind and release. A stored
-- count other than the one document 01 defines makes the bench not sound. Price and finish use the stored one." What finish writes reads
-- back to the stored count by Values.antt; that a release takes back a bind, count included, is in Releases.antt; that the mapper's
-- choice ends with the mapper's count is in Demands.antt.
use mathlib.Core.Path.{◌≡◌, refl, sym, ap, subst}
use mathlib.Core.Bool.{Bool, true, false}
use mathlib.Core.List.{List, [], ◌∷◌}
use Prim.Native.Nat.{ℕ}
use Rattle.words.specs.Paper.{accepted}
use Rattle.sequence.specs.Limits.{most_sources}
use Rattle.reader.specs.Job.{job_of}
use Rattle.std.specs.Prelude.{Result, Ok, Err, ⊤}
use Rattle.reader.specs.declared.Job.{Job}
use Rattle.words.specs.declared.Refusal.{Refusal}
use Rattle.glue.specs.Glue.{glue}
use Rattle.soundness.specs.Sound.{glue_on}
use Rattle.soundness.proofs.Soundness.{sound_holds}
use Rattle.opening.specs.Opening.{tables_in, tables_of_zeros}
use Rattle.bench.specs.Calls.{sound_bench, bindings_on, open_of, open_for, bind_check, bind_of, release_of, price_of, finish_of, paper_of, number_paper_of}
use Rattle.bench.specs.declared.Bench.{Bench}
use Rattle.bench.specs.declared.After.{After}
use Rattle.demands.specs.Benches.{Reached, opening, binding, releasing, pricing, finishing, RefusesAll}
use Rattle.demands.proofs.OpenedSound.{zeros-count}
use Rattle.demands.proofs.Allowed.{Outcome, Bound, Unchanged, outcome}
use Rattle.demands.proofs.Releasing.{Release, Released, Kept, release}

-- ---- "keep it true through open, bind and release"

-- the stored count is that of what is bound
abbrev CountIsTrue : Bench → Type 0
CountIsTrue b = b.glue ≡ glue_on b.tables b.bound

opened_true : (ws : List ℕ) (r : Result Job Refusal) → CountIsTrue (open_for ws r).bench
opened_true ws (Err r) = sym (zeros-count tables_of_zeros most_sources)
opened_true ws (Ok job) = sym (zeros-count (tables_in ws job) most_sources)

bound_true : (b : Bench) (w : ℕ) (r : After ⊤) → CountIsTrue b → Outcome b w r → CountIsTrue r.bench
bound_true b w r t (Bound _ e) = subst (λ (x : After ⊤). CountIsTrue x.bench) (sym e) refl
bound_true b w r t (Unchanged _ e) = subst CountIsTrue (sym e) t

released_true : (b : Bench) (f : ℕ) → CountIsTrue b → Release b f → CountIsTrue (release_of b f).bench
released_true b f t (Released _ _ e) = subst (λ (x : After ⊤). CountIsTrue x.bench) (sym e) refl
released_true b f t (Kept _ e) = subst CountIsTrue (sym e) t

reached_true : (ws : List ℕ) (b : Bench) → Reached ws b → CountIsTrue b
unfolding open_of price_of finish_of
reached_true ws b opening = opened_true ws (job_of ws)
reached_true ws b (binding {b = c} w r q a) = bound_true c w r (reached_true ws c q) (outcome c w r a)
reached_true ws b (releasing {b = c} f q) = released_true c f (reached_true ws c q) (release c f)
reached_true ws b (pricing {b = c} q) = reached_true ws c q
reached_true ws b (finishing {b = c} lent q) = reached_true ws c q

-- every bench that calls come to stores the glue count of its bindings, whatever words were opened: the bench of zeros too
pub every-count_is_true : (ws : List ℕ) (b : Bench) → Reached ws b → b.glue ≡ glue b.tables.width b.tables.prices (bindings_on b)
unfolding glue_on
every-count_is_true ws b q = reached_true ws b q

-- ---- "A stored count other than the one document 01 defines makes the bench not sound."

pub sound_count_is_true : (b : Bench) → sound_bench b ≡ true → b.glue ≡ glue b.tables.width b.tables.prices (bindings_on b)
unfolding glue_on
sound_count_is_true b s = (sound_holds b.tables b.bound b.glue s).count

unsound_refuses : (b : Bench) → sound_bench b ≡ false → RefusesAll b
unfolding bind_of bind_check release_of price_of finish_of
unsound_refuses b s =
    record {
      binds = λ w r answer. ap (λ (x : After ⊤). paper_of x.answer) (rw s at answer);
      releases = λ f. rw s refl;
      prices = rw s refl;
      finishes = λ lent. rw s refl;
    }

-- 20 in every call
pub other_count_is_refused : (b : Bench) → (b.glue ≡ glue b.tables.width b.tables.prices (bindings_on b) → ⊥) → RefusesAll b
other_count_is_refused b other = by_soundness (sound_bench b) refl
  where
    by_soundness : (p : Bool) → sound_bench b ≡ p → RefusesAll b
    by_soundness true s = absurd (other (sound_count_is_true b s))
    by_soundness false s = unsound_refuses b s

-- ---- "Price and finish use the stored one."

pub price_is_the_stored_count : (b : Bench) → sound_bench b ≡ true → number_paper_of (price_of b).answer ≡ accepted (b.glue ∷ [])
unfolding price_of
price_is_the_stored_count b s = rw s refl
