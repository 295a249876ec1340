-- `fitting::all_in_job` meets its contract.
use Rattle.std.proofs.Common.{◌≡◌, ◌+◌, drop}
use Rattle.reader.specs.Starts.{bindings_start}
use Rattle.fitting.specs.Fitting.{all_in_job}
use Rattle.fitting.proofs.all_in_job.Given as goal

abbrev pub invariant-loop-i : goal.invariant-loop-i
invariant-loop-i l = all_in_job l.sources l.targets (bindings_start + l.i) (drop l.i l.bindings) ≡ all_in_job l.sources l.targets bindings_start l.bindings
