-- `hexadecimal::step_in` meets its contract.
use mathlib.Core.Path.{◌≡◌}
use mathlib.Core.Bool.{false}
use lib.ListN.{drop}
use Rattle.hexadecimal.specs.Hex.{between, digits_left}
use Rattle.hexadecimal.proofs.step_in.Given as goal

abbrev pub invariant-loop-byte : goal.invariant-loop-byte
invariant-loop-byte l = digits_left l.hex (drop l.byte-index l.text) ≡ digits_left (between false) l.text
