-- `glue::codes_count` meets its contract.
use Prim.Native.Nat.{◌-◌, ◌+◌}
use mathlib.Core.Path.{◌≡◌}
use Rattle.bits.specs.Bits.{bit}
use Rattle.glue.specs.Glue.{codes_count, code_price, comparison_codes}
use Rattle.glue.specs.Codes.{codes}
use Rattle.glue.proofs.codes_count.Given as goal

abbrev pub invariant-loop-code : goal.invariant-loop-code
invariant-loop-code l =
    l.total + codes_count (code_price l.width.n l.prices) (bit l.part) (codes l.code (16 - l.code)) ≡ codes_count (code_price l.width.n l.prices) (bit l.part) comparison_codes
