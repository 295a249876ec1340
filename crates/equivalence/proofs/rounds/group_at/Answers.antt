-- `equivalence::rounds::group_at` meets its contract.
use Rattle.equivalence.proofs.Sets.{some_pair, group_lt}
use Rattle.equivalence.proofs.rounds.group_at.Goals as goal

pub returns : goal.returns
returns c =
    let e = some_pair _ _ _ _ _ _ _ _ c.requires.1 c.group_by_pair.ensures.0 c.group_by_pair-2.ensures.0 c.group_by_pair-3.ensures.0 c.group_by_pair-4.ensures.0 in
    (e, rw e (group_lt _ _ _ _))
