-- Bits and words. A bit is a Bool, true for 1. A word of n bits is a number below 2 ^ n.
use Rattle.std.specs.Prelude.{ℕ, zero, suc, ◌+◌, ◌-◌, ◌*◌, ◌/◌, ◌%◌, ◌^◌, Bool, true, false, not, ℤ, ◌==◌}
use Rattle.std.proofs.Math.IntN.{sub_ℕ}

-- a bit as a number
abbrev pub num : Bool → ℕ
num true = 1
num false = 0

abbrev pub exor : Bool → Bool → Bool
exor true b = not b
exor false b = b

-- bit i of a
unfoldable pub bit : ℕ → ℕ → Bool
bit a i = a / 2 ^ i % 2 == 1

-- the top bit of a word of n bits
unfoldable pub top : ℕ → ℕ → Bool
top n a = bit a (n - 1)

-- the word whose bit i, for each i below n, is f i
unfoldable pub word : ℕ → (ℕ → Bool) → ℕ
word zero f = 0
word (suc i) f = word i f + num (f i) * 2 ^ i

-- The two's complement value of a word of n bits.
unfoldable pub value : ℕ → ℕ → ℤ
value n a = sub_ℕ a (num (top n a) * 2 ^ n)
