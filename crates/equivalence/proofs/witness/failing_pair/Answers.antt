-- `equivalence::witness::failing_pair` meets its contract.
use Rattle.std.proofs.Common.{rules, arith}
use Rattle.equivalence.specs.States.{state_of}
use Rattle.equivalence.specs.Sets.{recipe, fails}
use Rattle.equivalence.proofs.Walks.{one_more, member_fails, fourth_fails}
use Rattle.equivalence.proofs.witness.failing_pair.Goals as goal

pub loop-pair-preserved : goal.loop-pair-preserved
loop-pair-preserved c = one_more _ _ c.loop-pair.invariant (search rules)

pub returns : goal.returns
returns c =
    let a = c.args in
    let s = a.sides.now.source.side in
    let t = recipe a.sides.now in
    (omega arith, fourth_fails (fails s t a.above (state_of a.i)) (member_fails s t a.above a.i c.requires.1) (λ k l. c.loop-pair.invariant k (search rules)))
