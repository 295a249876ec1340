-- `examples::read_full` meets its contract.
use Rattle.std.proofs.Common.{◌-◌, ◌≤◌, length}
use Rattle.examples.proofs.read_full.Given as goal

abbrev pub invariant-loop-done : goal.invariant-loop-done
invariant-loop-done l = l.done ≤ length l.bytes

abbrev pub decreases-loop-done : goal.decreases-loop-done
decreases-loop-done l = length l.initial.bytes - l.done
