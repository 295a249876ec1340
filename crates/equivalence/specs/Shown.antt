-- What a side shows at a place through output codes, and the numbers of what is remembered and of pairs of bits.
-- Nothing here has to be believed: the proofs show that what is found is what Verdicts.antt of the crate verdict says.
use Rattle.std.specs.Prelude.{ℕ, ◌+◌, ◌*◌, ◌/◌, Bool, List, [], ◌∷◌}
use Rattle.bits.specs.Bits.{num, word}
use Rattle.output.specs.Output.{shown_bit, shown_comparison}
use Rattle.output.specs.declared.Outputs.{Outputs}
use Rattle.automaton.specs.Machine.{low_bit}
use Rattle.automaton.specs.declared.Cell.{Cell}
use Rattle.automaton.specs.declared.Ripple.{Ripple}
use Rattle.equivalence.specs.declared.shown.Shown.{Shown}

-- Of a number below 4 the high bit, beside its `low_bit`: of a pair of bits left and right are the high one and the low one, and of the four
-- states that differ in any and all alone any is the low one and all the high one.
abbrev pub high : ℕ → Bool
high k = low_bit (k / 2)

-- what a side remembers, below 4, and back
abbrev pub memory : Ripple → ℕ
memory r = num r.lo + 2 * num r.hi

abbrev pub ripple_of : ℕ → Ripple
ripple_of m = record { lo = low_bit m; hi = high m }

-- what both sides remember, as one number: a group has the four states that share it
abbrev pub group_of : ℕ → ℕ → ℕ
group_of p q = 4 * p + q

-- what a comparison code shows where any and all are the bits of k
unfoldable pub orders : ℕ → Bool → Bool → Bool → ℕ
orders code to1 s tovf = word 4 (λ k. shown_comparison code to1 (low_bit k) (high k) s tovf)

-- the same as a table
unfoldable pub order_table : List ℕ
order_table =
    0x00000000 ∷ 0xF0F0F0F0 ∷ 0x0F0F0F0F ∷ 0xAAAAAAAA ∷ 0x55555555 ∷ 0xCCCCCCCC ∷ 0x33333333 ∷ 0xFF00FF00 ∷
    0x00FF00FF ∷ 0xFF55FF55 ∷ 0x00AA00AA ∷ 0x00550055 ∷ 0x00FFFF00 ∷ 0xFF0000FF ∷ 0x55FFFF55 ∷ 0xAA0000AA ∷ []

abbrev pub shown_of : Outputs → Cell → Shown
shown_of o q =
    record {
      memory = memory q.ripple;
      bit = q.bit;
      main = shown_bit o.main q.bit;
      cout = shown_bit o.cout q.carry;
      ovf = shown_bit o.ovf q.overflow;
      orders = orders o.code q.order q.bit q.overflow;
    }

-- output codes that show all as it is
abbrev pub whole : Outputs
whole = record { main = 1; cout = 1; ovf = 1; code = 1 }
