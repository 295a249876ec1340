-- The lines that are left of a bench's entries, by the next one and at their end; and the room for them.
use mathlib.Core.Path.{◌≡◌, refl, sym, ap, ◌∙◌}
use mathlib.Core.List.{List, [], ◌∷◌, ◌++◌, append-nil}
use Prim.Native.Nat.{ℕ, ◌+◌, ◌≤◌, ◌<◌, min}
use native.Mathlib.Omega.{arith}
use lib.ListN.{length}
use lib.Seq.{take_all}
use Rattle.sequence.specs.Limits.{most_sources}
use Rattle.soundness.specs.Sound.{sources_on}
use Rattle.soundness.proofs.Shapes.{sources_fit, sources_taken}
use Rattle.bench.specs.Shape.{Shaped}
use Rattle.bench.specs.declared.Bench.{Bench}
use Rattle.bench_answers.specs.Answers.{entry_line, entry_lines, bench_text}
use Rattle.bench_answers.specs.Asked.{most_text_bytes, EntryRoom}

-- ---- all of them

pub entry_first : (sources bound ss ws : List ℕ) (s w : ℕ) → sources ≡ s ∷ ss → bound ≡ w ∷ ws
    → entry_lines sources bound ≡ entry_line s w ++ entry_lines ss ws
unfolding entry_lines
entry_first sources bound ss ws s w e f = rw (e, f) refl

pub no_entries : (text sources bound : List ℕ) → min (length sources) (length bound) ≤ 0 → text ++ entry_lines sources bound ≡ text
unfolding entry_lines
no_entries text [] bound h = append-nil text
no_entries text (s ∷ sources) [] h = append-nil text
no_entries text (s ∷ sources) (w ∷ bound) h = absurd (omega arith)

-- ---- a bench

module _ (b : Bench) (h : Shaped b) (text : List ℕ) where
  pub full_room : (room : ℕ) → length text + most_text_bytes ≤ room → EntryRoom room b.tables.sources text
  full_room room r = omega (arith, h.tables_shaped.sources_entries)

  -- a table that is full
  pub full_table : (new : List ℕ) → most_sources < b.tables.nsources → new ≡ text ++ entry_lines b.tables.sources b.bound → new ≡ text ++ bench_text b
  full_table new l p =
      p ∙ ap (λ (s : List ℕ). text ++ entry_lines s b.bound)
      (sym (take_all b.tables.nsources b.tables.sources (omega (arith, h.tables_shaped.sources_entries))))

  module _ (few : b.tables.nsources ≤ most_sources) where
    pub few_fit : b.tables.nsources ≤ length b.tables.sources
    few_fit = sources_fit b.tables h.tables_shaped few

    pub few_taken : b.tables.nsources ≡ length (sources_on b.tables)
    few_taken = sources_taken b.tables h.tables_shaped few

    pub few_room : (room : ℕ) → length text + most_text_bytes ≤ room → EntryRoom room (sources_on b.tables) text
    few_room room r = omega (arith, few_taken)
