-- What the types of a bench's fields say of any bench.
use mathlib.Core.Path.{◌≡◌}
use mathlib.Core.Bool.{true}
use mathlib.Core.List.{List}
use lib.ListN.{length}
use mir.Val.{Val}
use denote.Laws.{Is}
use denote.Struct.Declared.{row}
use Rattle.soundness.specs.Sound.{sources_on}
use Rattle.soundness.proofs.Shapes as tables
use Rattle.soundness.proofs.Soundness.{sound_sources}
use Rattle.bench.specs.Calls.{sound_bench}
use Rattle.bench.specs.Shape.{Shaped}
use Rattle.bench.specs.declared.Bench.{Bench}
use Rattle.bench.specs.contracts.Bench.{the_type}
use Rattle.bench.specs.Held.{bench_held}
use Rattle.bench.specs.declared.sound.SoundBench.{SoundBench}
use Rattle.bench.specs.contracts.sound.SoundBench as sound

pub shaped : (b : Bench) (vs : List Val) → Is (row the_type) b vs → Shaped b
shaped b vs g =
    record {
      tables_shaped = tables.tables_shaped b.tables _ g.1.1.0;
      bound_entries = g.1.1.1.0.1.0.1;
    }

pub held_shaped : (s : SoundBench) (vs : List Val) → Is (row sound.the_type) s vs → Shaped (bench_held s)
held_shaped s vs g =
    record {
      tables_shaped = tables.held_shaped s.held _ g.1.1.0;
      bound_entries = tables.held_entries s.held _ g.1.1.0;
    }

-- ---- so many sources of a sound bench are there

module _ (b : Bench) (h : Shaped b) (s : sound_bench b ≡ true) where
  pub sources_taken : b.tables.nsources ≡ length (sources_on b.tables)
  sources_taken = tables.sources_taken b.tables h.tables_shaped (sound_sources b.tables b.bound b.glue s)
