-- What the types of a bench's fields say of any bench: so many entries in each table, prices of 8 bits. A bench that the code holds is
-- always so; the definitions speak of lists of any length.
use Rattle.std.specs.Prelude.{◌≡◌, length}
use Rattle.sequence.specs.Limits.{most_sources}
use Rattle.soundness.specs.Shape.{TablesShaped}
use Rattle.bench.specs.declared.Bench.{Bench}

pub record Shaped (b : Bench) : Type 0 where
  pub tables_shaped : TablesShaped b.tables
  pub bound_entries : length b.bound ≡ most_sources
