-- `rightness::first_wrong` meets its contract.
use lib.ListN.{drop}
use mathlib.Core.Path.{◌≡◌}
use Rattle.table.specs.Parts.{terms_held}
use Rattle.verdict.specs.Verdicts.{Gives}
use Rattle.rightness.specs.Rightness.{unless_wrong}
use Rattle.verdict.specs.declared.Verdict.TheVariants.{Right}
use Rattle.rightness.proofs.first_wrong.Given as goal

abbrev pub invariant-loop-word : goal.invariant-loop-word
invariant-loop-word l = unless_wrong (terms_held l.terms) (drop l.word-index l.bindings) (Gives Right) ≡ unless_wrong (terms_held l.terms) l.bindings (Gives Right)
