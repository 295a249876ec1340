-- `equivalence::rounds::round` meets its contract.
use mathlib.Core.Path.{◌≡◌}
use Prim.Native.Nat.{◌*◌}
use Rattle.bits.specs.Bits.{word}
use Rattle.equivalence.specs.Sets.{member, recipe}
use Rattle.equivalence.proofs.rounds.round.Given as goal

abbrev pub invariant-loop-p : goal.invariant-loop-p
invariant-loop-p l = l.failing ≡ word (16 * l.p) (member l.sides.source.side (recipe l.sides) l.above)
