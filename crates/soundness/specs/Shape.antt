-- What the types of the tables' fields say of any tables. Nobody has to believe this: the code's types say it.
use Rattle.std.specs.Prelude.{◌≡◌, ◌≤◌, length}
use Rattle.sequence.specs.Limits.{most_sources, most_targets}
use Rattle.soundness.specs.declared.Tables.{Tables}

pub record TablesShaped (t : Tables) : Type 0 where
  pub sources_entries : length t.sources ≡ most_sources
  pub targets_entries : length t.targets ≡ most_targets
  pub inverter_fits : t.prices.inverter ≤ 255
  pub gate_fits : t.prices.gate ≤ 255
  pub multiplexer_fits : t.prices.multiplexer ≤ 255
