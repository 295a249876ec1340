-- How the code splits a sum. Nobody has to believe this: Sum.antt's `sum` is what the ports are.
use Rattle.std.specs.Prelude.{ℕ, ◌%◌, ◌^◌, nat_le}
use Rattle.bits.specs.declared.adder.CutSum.{CutSum}

-- a sum cut to n bits, and whether it reaches 2 ^ n
abbrev pub cut : ℕ → ℕ → CutSum
cut n t = record { word = t % 2 ^ n; carry = nat_le (2 ^ n) t }
