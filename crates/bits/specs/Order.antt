-- Document 01, "Functions": what a comparison shows.
use Rattle.std.specs.Prelude.{ℕ, Bool, int_lt, if◌then◌else◌}
use Rattle.bits.specs.Bits.{value}

-- "Comparisons are of two's complement values."
unfoldable pub below : ℕ → ℕ → ℕ → Bool
below n a b = int_lt (value n a) (value n b)

abbrev pub compared : ℕ → Bool → Bool → Bool → ℕ → ℕ → Bool
compared n less equal greater left right =
    if below n left right then less else if below n right left then greater else equal
