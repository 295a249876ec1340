-- `equivalence::showing::filled` meets its contract.
use mathlib.Core.Path.{◌≡◌}
use Prim.Native.Nat.{ℕ, ◌/◌, ◌%◌, ◌<◌}
use lib.ListN.{length, get_or}
use Rattle.equivalence.specs.States.{shown_at, nothing}
use Rattle.equivalence.proofs.showing.filled.Given as goal

abbrev pub invariant-loop-c : goal.invariant-loop-c
invariant-loop-c l = (length l.shown ≡ 16) × ((k : ℕ) → k < l.c → get_or l.shown k nothing ≡ shown_at l.fn.outputs l.fn.side (k / 4) (k % 4))
