-- What functions below the calls ask of their callers. Nobody has to believe this: each caller proves it.
use Rattle.std.specs.Prelude.{◌≤◌}
use Rattle.words.specs.declared.Prices.{Prices}

-- "prices, 0 to 255"
pub record InRange (p : Prices) : Type 0 where
  pub inverter_fits : p.inverter ≤ 255
  pub gate_fits : p.gate ≤ 255
  pub multiplexer_fits : p.multiplexer ≤ 255
