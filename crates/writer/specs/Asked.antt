-- What functions below the calls ask of their callers. Nobody has to believe this: each caller proves it.
use Rattle.std.specs.Prelude.{ℕ, ◌^◌, ◌≤◌, ◌<◌, List, length}
use Rattle.sequence.specs.Limits.{most_bindings}

pub record Writable (width glue : ℕ) (bound : List ℕ) : Type 0 where
  pub width_fits : width ≤ 64
  pub glue_fits : glue < 2 ^ 28
  pub few_bound : length bound ≤ most_bindings
