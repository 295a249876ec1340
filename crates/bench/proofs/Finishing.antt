-- Finishing a bench.
use mathlib.Core.Path.{◌≡◌, refl, sym, ap, ◌∙◌}
use mathlib.Core.Bool.{Bool, true, false, not, false≢true, true≢false}
use mathlib.Core.List.{List, [], ◌∷◌}
use Prim.Native.Nat.{ℕ, ◌^◌, ◌≤◌, ◌<◌}
use native.Mathlib.Omega.{arith}
use lib.Dec.{eqb}
use lib.ListN.{length, take}
use lib.Seq.{length-take-le}
use Rattle.std.specs.Prelude.{if◌then◌else◌, is_some, Option, None, Some}
use Rattle.sequence.specs.Limits.{most_sources}
use Rattle.words.specs.Field.{source_function}
use Rattle.glue.proofs.Bounds.{glue_fits_lem}
use Rattle.writer.specs.Write.{mapping_words, lent_after}
use Rattle.soundness.specs.Sound.{sources_on, targets_on, filled, empty, entry_sound, bound_sound, glue_on}
use Rattle.soundness.proofs.Soundness.{sound_holds, sound_sources, sound_width}
use Rattle.bench.specs.Calls.{sound_bench, bindings_on, unbound_on, mapping_on}
use Rattle.entries.specs.Entries.{first_empty}
use Rattle.bench.specs.Held.{bench_held}
use Rattle.bench.specs.Shape.{Shaped}
use Rattle.bench.specs.declared.Bench.{Bench}
use Rattle.bench.specs.declared.sound.SoundBench.{SoundBench}
use Rattle.bench.proofs.Shapes.{sources_taken}

-- ---- every source bound: the bindings are the first entries

nothing-filled : (bs : List ℕ) → empty bs ≡ true → filled bs ≡ []
unfolding empty filled
nothing-filled [] e = refl
nothing-filled (w ∷ bs) e = go (eqb w 0) (nothing-filled bs) e
  where
    go : (c : Bool) → (empty bs ≡ true → filled bs ≡ []) → (if not c then false else empty bs) ≡ true
        → ◌≡◌ {A = List ℕ} (if c then filled bs else w ∷ filled bs) []
    go true h u = h u
    go false h u = absurd (false≢true u)

some-none : {f : ℕ} → ◌≡◌ {A = Option ℕ} (Some f) None → ⊥
some-none e = absurd (true≢false (ap is_some e))

pub all_filled : (n : ℕ) (all ts ss bs : List ℕ) → bound_sound n all ts ss bs ≡ true → first_empty ss bs ≡ None → take (length ss) bs ≡ filled bs
unfolding bound_sound first_empty filled
all_filled n all ts [] bs s u = sym (nothing-filled bs s)
all_filled n all ts (x ∷ ss) [] s u = refl
all_filled n all ts (x ∷ ss) (w ∷ bs) s u = go (entry_sound n all ts x w) (eqb w 0) (all_filled n all ts ss bs) s u
  where
    go : (p c : Bool) → (bound_sound n all ts ss bs ≡ true → first_empty ss bs ≡ None → take (length ss) bs ≡ filled bs)
        → (if not p then false else bound_sound n all ts ss bs) ≡ true
        → (if c then Some (source_function x) else first_empty ss bs) ≡ None
        → ◌≡◌ {A = List ℕ} (w ∷ take (length ss) bs) (if c then filled bs else w ∷ filled bs)
    go false c k s u = absurd (false≢true s)
    go true true k s u = absurd (some-none u)
    go true false k s u = ap (λ (l : List ℕ). w ∷ l) (k s u)

module _ (b : Bench) (h : Shaped b) (s : sound_bench b ≡ true) where
  module _ (u : unbound_on b ≡ None) where
    pub all_bound : take b.tables.nsources b.bound ≡ bindings_on b
    all_bound =
        ap (λ (x : ℕ). take x b.bound) (sources_taken b h s)
        ∙ all_filled b.tables.width (sources_on b.tables) (targets_on b.tables) (sources_on b.tables) b.bound (sound_holds b.tables b.bound b.glue s).entries u

  pub bound_fit : b.tables.nsources ≤ length b.bound
  bound_fit = omega (arith, h.bound_entries, sound_sources b.tables b.bound b.glue s)

  pub bound_taken : b.tables.nsources ≡ length (take b.tables.nsources b.bound)
  bound_taken = sym (length-take-le b.tables.nsources b.bound bound_fit)

  -- the stored count is a glue count, so it fits
  stored_fits : b.glue < 2 ^ 28
  unfolding glue_on
  stored_fits =
      let q = h.tables_shaped in
      let most : glue_on b.tables b.bound < 2 ^ 28
      = glue_fits_lem b.tables.width b.tables.prices (bindings_on b) (sound_width b.tables b.bound b.glue s).most
      (record { inverter_fits = q.inverter_fits; gate_fits = q.gate_fits; multiplexer_fits = q.multiplexer_fits }) in
      omega (arith, (sound_holds b.tables b.bound b.glue s).count, most)

-- ---- the writing

module _ (s : SoundBench) (h : Shaped (bench_held s)) where
  pub entries_fit : s.held.tables.tables.nsources ≤ length s.held.bound
  entries_fit = bound_fit (bench_held s) h s.sound

  pub entries_taken : s.held.tables.tables.nsources ≡ length (take s.held.tables.tables.nsources s.held.bound)
  entries_taken = bound_taken (bench_held s) h s.sound

  pub held_width : s.held.tables.tables.width ≤ 64
  held_width = (sound_width s.held.tables.tables s.held.bound s.glue s.sound).most

  pub held_count : s.glue < 2 ^ 28
  held_count = stored_fits (bench_held s) h s.sound

  pub held_few : length (take s.held.tables.tables.nsources s.held.bound) ≤ most_sources
  held_few = omega (arith, entries_taken, sound_sources s.held.tables.tables s.held.bound s.glue s.sound)

  pub mapping_laid : unbound_on (bench_held s) ≡ None → (lent m : List ℕ)
      → m ≡ lent_after (mapping_words s.held.tables.tables.width (take s.held.tables.tables.nsources s.held.bound) s.glue) lent
      → m ≡ lent_after (mapping_on (bench_held s)) lent
  mapping_laid u lent m e = e ∙ (λ i. lent_after (mapping_words s.held.tables.tables.width (all_bound (bench_held s) h s.sound u i) s.glue) lent)
