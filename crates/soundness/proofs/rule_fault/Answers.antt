-- `soundness::rule_fault` meets its contract.
use mathlib.Core.Path.{sym, ◌∙◌}
use Rattle.soundness.proofs.Soundness.{other_named}
use Rattle.soundness.proofs.rule_fault.Goals as goal

pub returns-in_default-kind : goal.returns-in_default-kind
returns-in_default-kind c = other_named _ _ (sym c.of.ensures ∙ c.in-Some.is) c.in_default-kind.not-Rule
