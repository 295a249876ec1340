-- `equivalence::witness::failing_pair` meets its contract.
use mathlib.Core.Path.{◌≡◌}
use mathlib.Core.Bool.{false}
use Prim.Native.Nat.{ℕ, ◌<◌}
use Rattle.equivalence.specs.States.{state_of}
use Rattle.equivalence.specs.Sets.{recipe, fails}
use Rattle.equivalence.proofs.witness.failing_pair.Given as goal

abbrev pub invariant-loop-pair : goal.invariant-loop-pair
invariant-loop-pair l = (k : ℕ) → k < l.pair → fails l.sides.source.side (recipe l.sides) l.above (state_of l.i) k ≡ false
