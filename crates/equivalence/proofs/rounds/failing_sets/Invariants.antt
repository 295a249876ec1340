-- `equivalence::rounds::failing_sets` meets its contract.
use mathlib.Core.Path.{◌≡◌}
use Prim.Native.Nat.{ℕ, ◌+◌, ◌<◌}
use lib.ListN.{length, get_or}
use Rattle.equivalence.specs.Sets.{failing, recipe}
use Rattle.equivalence.proofs.rounds.failing_sets.Given as goal

abbrev pub invariant-loop-j : goal.invariant-loop-j
invariant-loop-j l =
    let s = l.sides.source.side in
    (l.rounds.last ≡ l.k) × (length l.rounds.sets ≡ 64) × (l.set ≡ failing s (recipe l.sides) l.j) × ((m : ℕ) → m < l.j + 1 → get_or l.rounds.sets m 0 ≡ failing s (recipe l.sides) m)
