-- `judge_rule::judge_all` meets its contract.
use Prim.Native.Nat.{◌-◌, ◌^◌}
use Rattle.judge_rule.proofs.judge_all.Given as goal

abbrev pub decreases-loop-word : goal.decreases-loop-word
decreases-loop-word l = 2 ^ 61 - l.text.at
