-- A release: when it is accepted, what the bench is afterwards, and that it is sound.
use mathlib.Core.Path.{◌≡◌, refl, sym, ap, ◌∙◌}
use mathlib.Core.Bool.{Bool, true, false}
use mathlib.Core.List.{List, [], ◌∷◌}
use Prim.Native.Nat.{ℕ, zero, suc}
use native.Mathlib.Omega.{arith}
use lib.Dec.{eqb}
use lib.ListN.{set}
use Rattle.std.specs.Prelude.{Ok, ⊤}
use Rattle.words.specs.Paper.{Paper, number_of, refusal, accepted}
use Rattle.soundness.specs.Sound.{nothing, empty, sources_on, targets_on, entry_sound, bound_sound}
use Rattle.soundness.proofs.Soundness.{sound_holds, sound_when}
use Rattle.bench.specs.Calls.{sound_bench, holding, has_binding, gives, refuses, release_of, paper_of}
use Rattle.bench.specs.declared.Bench.{Bench}
use Rattle.bench.specs.declared.After.{After}
use Rattle.bench.proofs.Binds.{place_for, at_place}
use Rattle.demands.proofs.Keeping.{both}
use Rattle.words.specs.declared.Fault.{Fault}
use Rattle.words.specs.declared.Fault.TheVariants.{NotBound, NotSound}

-- the bench after a function is released
abbrev pub released_on : Bench → ℕ → Bench
released_on b f = holding b (set b.bound (place_for b f) nothing)

-- ---- the answer

module _ (b : Bench) (f : ℕ) where
  unsound_refused : sound_bench b ≡ false → release_of b f ≡ refuses b (refusal NotSound 0)
  unfolding release_of
  unsound_refused s = rw s refl

  pub unbound_refused : sound_bench b ≡ true → has_binding b f ≡ false → release_of b f ≡ refuses b (refusal NotBound f)
  unfolding release_of
  unbound_refused s u = rw s (rw u refl)

  pub releases : sound_bench b ≡ true → has_binding b f ≡ true → release_of b f ≡ gives (released_on b f) (Ok tt)
  unfolding release_of
  releases s u =
      rw s
      (rw u (ap (λ (x : Bench). gives x (Ok tt)) (at_place b f nothing)))

-- the answer's paper tells which it was; refused, the bench is as it was
pub data Release (b : Bench) (f : ℕ) : Type 0 where
  Released : sound_bench b ≡ true → has_binding b f ≡ true → release_of b f ≡ gives (released_on b f) (Ok tt) → Release b f
  Kept : (paper_of (release_of b f).answer ≡ accepted [] → ⊥) → (release_of b f).bench ≡ b → Release b f

pub release : (b : Bench) (f : ℕ) → Release b f
release b f = by_tests (sound_bench b) refl (has_binding b f) refl
  where
    kept : (fault : Fault) (place : ℕ) → (number_of fault ≡ 0 → ⊥) → release_of b f ≡ refuses b (refusal fault place) → Release b f
    kept fault place some e =
        Kept
        (λ a. some (sym (ap (λ (x : After ⊤). (paper_of x.answer).number) e) ∙ ap (λ (x : Paper). x.number) a))
        (ap (λ (x : After ⊤). x.bench) e)

    by_tests : (s : Bool) → sound_bench b ≡ s → (h : Bool) → has_binding b f ≡ h → Release b f
    by_tests false s h u = kept NotSound 0 (λ z. omega arith) (unsound_refused b f s)
    by_tests true s false u = kept NotBound f (λ z. omega arith) (unbound_refused b f s u)
    by_tests true s true u = Released s u (releases b f s u)

-- ---- sound afterwards

emptied : (bs : List ℕ) (i : ℕ) → empty bs ≡ true → empty (set bs i 0) ≡ true
unfolding empty
emptied [] i e = refl
emptied (w ∷ bs) zero e = (both (eqb w 0) (empty bs) e).1
emptied (w ∷ bs) (suc i) e = let t = both (eqb w 0) (empty bs) e in rw t.0 (emptied bs i t.1)

nothing-sound : (n : ℕ) (all ts : List ℕ) (s : ℕ) → entry_sound n all ts s 0 ≡ true
unfolding entry_sound
nothing-sound n all ts s = refl

entries_emptied : (n : ℕ) (all ts ss bs : List ℕ) (i : ℕ) → bound_sound n all ts ss bs ≡ true → bound_sound n all ts ss (set bs i 0) ≡ true
unfolding bound_sound
entries_emptied n all ts [] bs i e = emptied bs i e
entries_emptied n all ts (s ∷ ss) [] i e = refl
entries_emptied n all ts (s ∷ ss) (w ∷ bs) zero e =
    rw (nothing-sound n all ts s) (both (entry_sound n all ts s w) (bound_sound n all ts ss bs) e).1
entries_emptied n all ts (s ∷ ss) (w ∷ bs) (suc i) e =
    let t = both (entry_sound n all ts s w) (bound_sound n all ts ss bs) e in
    rw t.0 (entries_emptied n all ts ss bs i t.1)

pub released_sound : (b : Bench) (f : ℕ) → sound_bench b ≡ true → sound_bench (released_on b f) ≡ true
released_sound b f s =
    let h = sound_holds b.tables b.bound b.glue s in
    let ss = sources_on b.tables in
    let ts = targets_on b.tables in
    sound_when b.tables (set b.bound (place_for b f) 0) _
    (record {
      tables = h.tables;
      past_sources = h.past_sources;
      past_targets = h.past_targets;
      entries = entries_emptied b.tables.width ss ts ss b.bound (place_for b f) h.entries;
      count = refl;
    })

-- after any release, accepted or refused
pub release_keeps_sound : (b : Bench) (f : ℕ) → sound_bench b ≡ true → sound_bench (release_of b f).bench ≡ true
release_keeps_sound b f s = by_outcome (release b f)
  where
    by_outcome : Release b f → sound_bench (release_of b f).bench ≡ true
    by_outcome (Released _ _ e) = ap (λ (x : After ⊤). sound_bench x.bench) e ∙ released_sound b f s
    by_outcome (Kept _ e) = ap sound_bench e ∙ s
