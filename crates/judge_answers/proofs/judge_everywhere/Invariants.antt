-- `judge_answers::judge_everywhere` meets its contract.
use Rattle.judge_answers.specs.Everywhere.{RightBelow}
use Rattle.judge_answers.proofs.judge_everywhere.Given as goal

abbrev pub invariant-loop-width : goal.invariant-loop-width
invariant-loop-width l = RightBelow l.word l.mark l.width
