-- What a wiring code and a carry code give. Document 01, "Words": "0 zeros, 1 ones, 2 SI0, 3 NOT SI0, 4 SI1, 5 NOT SI1; 6 and 7
-- invalid", "carry in (0, 1, 2 SICIN, 3 NOT SICIN)"; and "What a binding shows": "zeros is 0, ones is 2^n−1, NOT complements all
-- n bits, or the one bit". The arithmetic functions choose what they add by the same codes, of their own inputs.
use Rattle.std.specs.Prelude.{ℕ, ◌-◌, ◌^◌, Bool, true, false, not, [], ◌∷◌, slice_index, slice_index_or}

-- all n bits of a word complemented
abbrev pub complement : ℕ → ℕ → ℕ
complement n a = 2 ^ n - 1 - a

-- the word that a wiring code gives of a left and a right word; an invalid code is refused before it comes here
abbrev pub wired : ℕ → ℕ → ℕ → ℕ → ℕ
wired n code left right =
    slice_index (0 ∷ (2 ^ n - 1) ∷ left ∷ complement n left ∷ right ∷ complement n right ∷ []) code

-- the bit that a carry code gives of a carry
abbrev pub carried : ℕ → Bool → Bool
carried code carry = slice_index_or (false ∷ true ∷ carry ∷ not carry ∷ []) code false

-- the codes by name
abbrev pub zeros : ℕ
zeros = 0

abbrev pub ones : ℕ
ones = 1

abbrev pub I0 : ℕ
I0 = 2

abbrev pub NOT-I0 : ℕ
NOT-I0 = 3

abbrev pub I1 : ℕ
I1 = 4

abbrev pub NOT-I1 : ℕ
NOT-I1 = 5

-- and of the carry: "carry in (0, 1, 2 SICIN, 3 NOT SICIN)"
abbrev pub carry_zero : ℕ
carry_zero = 0

abbrev pub carry_one : ℕ
carry_one = 1

abbrev pub ICIN : ℕ
ICIN = 2

abbrev pub NOT-ICIN : ℕ
NOT-ICIN = 3
