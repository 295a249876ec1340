-- Document 01, "Functions": what a logic vector gives.
use Rattle.std.specs.Prelude.{ℕ, Bool, if◌then◌else◌}
use Rattle.bits.specs.Bits.{bit, word}

-- "bit 3 for NOT I0 AND NOT I1, bit 2 for NOT I0 AND I1, bit 1 for I0 AND NOT I1, bit 0 for I0 AND I1"
abbrev pub minterm : ℕ → Bool → Bool → Bool
minterm vector x y = bit vector (if x then (if y then 0 else 1) else (if y then 2 else 3))

-- the vector at each place
abbrev pub logic_word : ℕ → ℕ → ℕ → ℕ → ℕ
logic_word n vector left right = word n (λ i. minterm vector (bit left i) (bit right i))
