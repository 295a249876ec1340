-- `choice::choose` meets its contract.
use borrow.Author.Rules.{rules}
use mathlib.Core.Path.{sym, ◌∙◌}
use mathlib.Core.List.{◌++◌}
use native.Mathlib.Omega.{arith}
use Rattle.table.specs.Parts.{terms_held}
use Rattle.choice.proofs.Choosing.{no_rule_left, source_bound}
use Rattle.choice.proofs.choose.Goals as goal

-- no rule is left, so the best so far is the best
pub sources-preserved : goal.sources-preserved
sources-preserved c =
    let v = c.sources.invariant in
    let best = sym c.loop-j.invariant.2 ∙ (no_rule_left _ _ _ _ c.args.rules.now c.args.book.now _ c.if-count-j.true ∙ c.in-Some.is) in
    let b =
    source_bound (terms_held c.args.terms.now) (c.args.rules.now ++ c.args.book.now) _ _ _ _ _ v.2 c.source_function-function.ensures
    c.sources-test.true c.in-Some.found best (omega arith)
    in (search rules, search rules, rw c.usage_of-used.ensures (sym b.1), b.0 ∙ v.3)
