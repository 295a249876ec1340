-- How the code keeps what bindings use: as one number whose bits are a set. Nobody has to believe this: Glue.antt of the crate glue
-- says what is in use and what it costs, and proofs/Joining.antt of the crate tally shows that counting this set gives the same.
use Rattle.std.specs.Prelude.{ℕ, ◌+◌, ◌*◌, ◌^◌, List, [], ◌∷◌, if◌then◌else◌}
use Rattle.std.specs.Int.Bits.{bit_or}
use Rattle.bits.specs.Wiring.{complement}
use Rattle.recipe.specs.Fields.{from_scratch, vector_of, fields_of}
use Rattle.recipe.specs.declared.Fields.{Fields}

-- A port has a bit for each value of its field: left from 0 on, right 8, carry in 16, main 20, carry out 24, comparison 28. LO is
-- bit 44. The minterms that a vector has are from 45 on, and those that it lacks from 49 on: so sets joined know what some vector lacks,
-- and with it what every vector has.

-- the set that holds one code of a port, whose bits begin at `from`
abbrev pub code_bit : ℕ → ℕ → ℕ
code_bit from code = 2 ^ (from + code)

-- the codes of a binding with a target
unfoldable pub target_usage : Fields → ℕ
target_usage r =
    code_bit 28 r.code + code_bit 24 r.cout + code_bit 20 r.main + code_bit 16 r.carry + code_bit 8 r.right
    + code_bit 0 r.left

-- LO, the minterms of a binding from scratch and those that it lacks
unfoldable pub scratch_usage : ℕ → ℕ
scratch_usage vector = complement 4 vector * 2 ^ 49 + vector * 2 ^ 45 + code_bit 44 0

unfoldable pub usage_of : ℕ → ℕ
usage_of w = if from_scratch w then scratch_usage (vector_of w) else target_usage (fields_of w)

-- the set of some bindings
unfoldable pub usage : List ℕ → ℕ
usage [] = 0
usage (w ∷ ws) = bit_or (usage_of w) (usage ws)
