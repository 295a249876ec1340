-- `equivalence::rounds::row` meets its contract.
use Rattle.std.proofs.Common.{rules}
use Rattle.equivalence.proofs.Sets.{row_done, row_lt}
use Rattle.equivalence.proofs.rounds.row.Goals as goal

pub returns : goal.returns
returns c =
    let e = row_done _ _ _ _ _ _ c.loop-q.invariant (search rules) in
    (e, rw e (row_lt _ _ _ _))
