-- `equivalence::witness::step_from` meets its contract.
use Rattle.equivalence.proofs.Walks.{fails_here, can_be_here, steps_at_top, steps_below}
use Rattle.equivalence.proofs.witness.step_from.Goals as goal

pub failing_pair-pair-requires : goal.failing_pair-pair-requires
failing_pair-pair-requires c = (c.requires.state, fails_here _ _ _ _ _ _ c.requires c.above_at.ensures)

pub leads-leads-requires : goal.leads-leads-requires
leads-leads-requires c = (c.requires.state, can_be_here _ _ _ _ _ c.requires, c.failing_pair-pair.ensures.0)

pub returns-then-j-eq0 : goal.returns-then-j-eq0
returns-then-j-eq0 c =
    steps_at_top _ _ _ _ _ c.failing_pair-pair.ensures.0 _ _ c.requires (search c.if-j-eq0) c.above_at.ensures c.failing_pair-pair.ensures.1

pub returns : goal.returns
returns c =
    steps_below _ _ _ _ _ c.failing_pair-pair.ensures.0 _ _ _ _ c.requires (search c.if-j-eq0) c.above_at.ensures c.failing_pair-pair.ensures.1 c.leads-leads.ensures c.places_of.ensures
