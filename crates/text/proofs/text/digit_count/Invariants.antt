-- `text::text::digit_count` meets its contract.
use Prim.Native.Nat.{◌+◌, ◌-◌}
use Rattle.text.specs.Text.{digits_in}
use mathlib.Core.Path.{◌≡◌}
use Rattle.text.proofs.text.digit_count.Given as goal

abbrev pub invariant-loop-i : goal.invariant-loop-i
invariant-loop-i l = l.i + digits_in (20 - l.i) l.rest ≡ digits_in 20 l.n
