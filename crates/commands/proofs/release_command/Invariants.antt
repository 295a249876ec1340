-- `commands::release_command` meets its contract.
use mathlib.Core.Path.{◌≡◌}
use Prim.Native.Nat.{◌^◌, ◌<◌}
use lib.ListN.{drop}
use Rattle.commands.specs.Commands.{digits_release, release_command}
use Rattle.commands.proofs.release_command.Given as goal

abbrev pub invariant-loop-byte : goal.invariant-loop-byte
invariant-loop-byte l = (l.function < 2 ^ 32) × (digits_release l.function (drop l.byte-index l.digits) ≡ release_command l.digits)
