-- How the code counts a set: it takes the set apart, a port a part. Nobody has to believe this: Glue.antt of the crate glue says what the count is, and
-- proofs/Joining.antt shows that the count of the set that some bindings use is that count.
use Rattle.std.specs.Prelude.{ℕ, not, ◌&&◌}
use Rattle.words.specs.Field.{field}
use Rattle.words.specs.declared.Prices.{Prices}
use Rattle.bits.specs.Bits.{bit}
use Rattle.glue.specs.Glue.{InUse, count_of}
use Rattle.tally.specs.declared.Parts.{Parts}

-- the bits of each port, of LO, of the minterms that vectors have and of those that they lack, as the crate usage keeps them
abbrev pub parts_of : ℕ → Parts
parts_of s =
    record {
      left = field s 0 8;
      right = field s 8 8;
      carry = field s 16 4;
      main = field s 20 4;
      cout = field s 24 4;
      code = field s 28 16;
      scratch = field s 44 1;
      minterms = field s 45 4;
      lacking = field s 49 4;
    }

-- what the parts say is in use
abbrev pub used : Parts → InUse
used q =
    record {
      left = bit q.left;
      right = bit q.right;
      carry = bit q.carry;
      main = bit q.main;
      cout = bit q.cout;
      code = bit q.code;
      LO = bit q.scratch 0;
      minterm = bit q.minterms;
      common = λ i. bit q.minterms i && not (bit q.lacking i);
    }

-- the count of a set
unfoldable pub set_count : ℕ → Prices → ℕ → ℕ
set_count n p s = count_of n p (used (parts_of s))
