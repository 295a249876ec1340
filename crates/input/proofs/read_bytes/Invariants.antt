-- `input::read_bytes` meets its contract.
use Rattle.input.specs.Kept.{Keeps}
use Prim.Native.Nat.{◌-◌, ◌^◌}
use Rattle.input.proofs.read_bytes.Given as goal

abbrev pub invariant-loop-bytes : goal.invariant-loop-bytes
invariant-loop-bytes g l = Keeps l.initial.kept l.kept l.bytes

abbrev pub decreases-loop-bytes : goal.decreases-loop-bytes
decreases-loop-bytes g l = 2 ^ 62 - l.bytes
