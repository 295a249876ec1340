-- Document 01, "Functions": the ports of a sum.
use Rattle.std.specs.Prelude.{ℕ, ◌+◌, ◌-◌, ◌%◌, ◌^◌, Bool, false, ◌||◌, ℤ, pos, ◌+ℤ◌, neg_ℤ, int_le, int_lt, nat_le}
use Rattle.bits.specs.Bits.{num, value}
use Rattle.bits.specs.declared.Ports.{Ports}

-- "the exact sum of the two's complement values, with ICIN where it is added"
abbrev pub exact_sum : ℕ → ℕ → ℕ → Bool → ℤ
exact_sum n a b c = value n a +ℤ value n b +ℤ pos (num c)

-- "OVF is 1 if [it] is outside −2^(n−1) to 2^(n−1)−1"
unfoldable pub overflows : ℕ → ℕ → ℕ → Bool → Bool
overflows n a b c =
    int_lt (exact_sum n a b c) (neg_ℤ (pos (2 ^ (n - 1)))) || int_le (pos (2 ^ (n - 1))) (exact_sum n a b c)

-- "O0 is the sum modulo 2^n ... OCOUT is 1 if the unsigned sum reaches 2^n."
unfoldable pub sum : ℕ → ℕ → ℕ → Bool → Ports
sum n a b c =
    record {
      o0 = (a + b + num c) % 2 ^ n;
      ocout = nat_le (2 ^ n) (a + b + num c);
      ovf = overflows n a b c;
      o1 = false;
    }
