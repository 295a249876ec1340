-- The gates of the minterms: a minterm that no vector lacks has no control gate.
use mathlib.Core.Path.{◌≡◌, refl, ap}
use mathlib.Core.Bool.{Bool, true, false, not, ◌&&◌}
use mathlib.Core.List.{List, [], ◌∷◌}
use Prim.Native.Nat.{ℕ, ◌+◌, ◌-◌, ◌≤◌}
use native.Mathlib.Omega.{arith}
use lib.Bits.{bit_and}
use Rattle.bits.specs.Bits.{num, bit}
use Rattle.usage.proofs.Bits.{and_bit}
use Rattle.glue.specs.Codes.{codes}
use Rattle.glue.specs.Glue.{distinct, minterms, gates}
use Rattle.tally.specs.Parts.{used}
use Rattle.tally.specs.declared.Parts.{Parts}

either_way : (x y : Bool) → num (x && y) + num (x && not y) ≡ num x
either_way true true = refl
either_way true false = refl
either_way false y = refl

module _ (q : Parts) where
  -- the minterms that vectors have are those that some vector lacks and those that none lacks
  lacked_or_not : (ks : List ℕ) → distinct (bit (bit_and q.minterms q.lacking)) ks + distinct (used q).common ks
      ≡ distinct (used q).minterm ks
  unfolding distinct
  lacked_or_not [] = refl
  lacked_or_not (k ∷ ks) =
      let rest = lacked_or_not ks in
      let one = either_way (bit q.minterms k) (bit q.lacking k) in
      let lacked = ap num (and_bit q.minterms q.lacking k) in
      omega arith

  pub gates_are : (t controlled : ℕ) → (t ≡ distinct (bit q.minterms) (codes 0 4)) × (1 ≤ t) × (t ≤ 4)
      → (controlled ≡ distinct (bit (bit_and q.minterms q.lacking)) (codes 0 4)) × (controlled ≤ 4)
      → (t + controlled + (t - 1) ≡ gates (used q)) × (t + controlled + (t - 1) ≤ 11)
  gates_are t controlled et ec = let parted = lacked_or_not minterms in (omega (arith, et, ec), omega (arith, et, ec))
