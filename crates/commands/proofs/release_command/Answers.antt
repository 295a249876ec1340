-- `commands::release_command` meets its contract.
use Rattle.std.proofs.Common.{rules}
use mathlib.Core.Path.{◌∙◌}
use native.Mathlib.Omega.{arith}
use Rattle.commands.proofs.Release.{no_digit, too_large}
use Rattle.commands.proofs.release_command.Goals as goal

pub returns-in_err-digit : goal.returns-in_err-digit
returns-in_err-digit c = search (rules, no_digit)

pub returns-in_err-checked_mul : goal.returns-in_err-checked_mul
returns-in_err-checked_mul c =
    c.from_residual-in_err-checked_mul.ensures
    ∙ too_large c.args.digits.now c.loop-byte.byte-index c.loop-byte.function _ c.loop-byte.invariant.1 c.loop-byte-test.true c.in_ok-digit.digit
    (search rules) (omega (arith, c.in_ok-digit.ensures.value)) (omega (arith, c.in_err-checked_mul.ensures))

pub returns-in_err-function : goal.returns-in_err-function
returns-in_err-function c =
    c.from_residual-in_err-function.ensures
    ∙ too_large c.args.digits.now c.loop-byte.byte-index c.loop-byte.function _ c.loop-byte.invariant.1 c.loop-byte-test.true c.in_ok-digit.digit
    (search rules) (omega (arith, c.in_ok-digit.ensures.value)) (omega (arith, c.in_ok-checked_mul.ensures, c.in_err-function.ensures))
