-- `equivalence::rounds::row` meets its contract.
use mathlib.Core.Path.{◌≡◌}
use Prim.Native.Nat.{◌*◌}
use Rattle.bits.specs.Bits.{word}
use Rattle.equivalence.specs.Sets.{recipe, of_row}
use Rattle.equivalence.proofs.rounds.row.Given as goal

abbrev pub invariant-loop-q : goal.invariant-loop-q
invariant-loop-q l = l.failing ≡ word (4 * l.q) (of_row l.sides.source.side (recipe l.sides) l.above l.fn.p)
