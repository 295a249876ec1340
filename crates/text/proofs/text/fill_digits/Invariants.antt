-- `text::text::fill_digits` meets its contract.
use Rattle.text.proofs.Digits.{Filling}
use Rattle.text.proofs.text.fill_digits.Given as goal

abbrev pub invariant-loop-i : goal.invariant-loop-i
invariant-loop-i l = Filling l.base l.n l.count l.i l.rest l.places
