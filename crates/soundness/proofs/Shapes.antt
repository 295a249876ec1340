-- What the types of the tables' fields say of any tables: so many entries in each, prices of 8 bits.
use mathlib.Core.Path.{◌≡◌, sym}
use mathlib.Core.List.{List}
use Prim.Native.Nat.{ℕ, ◌-◌, ◌≤◌}
use native.Mathlib.Omega.{arith}
use lib.ListN.{length, take, drop}
use lib.Seq.{length-take-le}
use mir.Val.{Val}
use denote.Laws.{Is}
use denote.Struct.Declared.{row}
use Rattle.words.proofs.Lists.{part_from}
use Rattle.sequence.specs.Limits.{most_sources}
use Rattle.soundness.specs.Shape.{TablesShaped}
use Rattle.soundness.specs.Sound.{sources_on}
use Rattle.soundness.specs.declared.Tables.{Tables}
use Rattle.soundness.specs.contracts.Tables.{the_type}
use Rattle.soundness.specs.declared.sound.SoundTables.{SoundTables}
use Rattle.soundness.specs.contracts.sound.SoundTables as sound
use Rattle.soundness.specs.declared.sound.BoundTables.{BoundTables}
use Rattle.soundness.specs.contracts.sound.BoundTables as held

pub tables_shaped : (t : Tables) (vs : List Val) → Is (row the_type) t vs → TablesShaped t
tables_shaped t vs g =
    record {
      sources_entries = g.1.1.1.1.0.1.0.1;
      targets_entries = g.1.1.1.1.1.1.0.1.0.1;
      inverter_fits = omega (arith, g.1.1.1.0.1.1.0);
      gate_fits = omega (arith, g.1.1.1.0.1.1.1.0);
      multiplexer_fits = omega (arith, g.1.1.1.0.1.1.1.1.0);
    }

pub sound_shaped : (t : SoundTables) (vs : List Val) → Is (row sound.the_type) t vs → TablesShaped t.tables
sound_shaped t vs g = tables_shaped t.tables _ g.1.1.0

pub held_shaped : (h : BoundTables) (vs : List Val) → Is (row held.the_type) h vs → TablesShaped h.tables.tables
held_shaped h vs g = sound_shaped h.tables _ g.1.1.0

-- so many entries are there
pub held_entries : (h : BoundTables) (vs : List Val) → Is (row held.the_type) h vs → length h.bound ≡ most_sources
held_entries h vs g = g.1.1.1.0.1.0.1

-- the entries from one on
pub rest_of : (l : List ℕ) (n most : ℕ) → length l ≡ most → take (most - n) (drop n l) ≡ drop n l
rest_of l n most e = rw (← e) (part_from n l)

-- ---- so many source words are there

module _ (t : Tables) (h : TablesShaped t) (few : t.nsources ≤ most_sources) where
  pub sources_fit : t.nsources ≤ length t.sources
  sources_fit = omega (arith, h.sources_entries)

  pub sources_taken : t.nsources ≡ length (sources_on t)
  sources_taken = sym (length-take-le t.nsources t.sources sources_fit)

  pub sources_few : length (sources_on t) ≤ most_sources
  sources_few = omega (arith, sources_taken)
