-- What widths and operands are. Nobody has to believe this: each function that makes one proves it.
use Rattle.std.specs.Prelude.{ℕ, ◌^◌, ◌<◌, ◌≤◌}

pub record Width (n : ℕ) : Type 0 where
  pub least : 1 ≤ n
  pub most : n ≤ 64

pub record Operands (n left right : ℕ) : Type 0 where
  pub least : 1 ≤ n
  pub most : n ≤ 64
  pub left_fits : left < 2 ^ n
  pub right_fits : right < 2 ^ n
