-- `equivalence::showing::filled` meets its contract.
use Rattle.std.proofs.Common.{rules, ℕ, ◌/◌, ◌%◌}
use Rattle.equivalence.specs.States.{shown_at, nothing}
use Rattle.equivalence.proofs.Filled.{filled}
use Rattle.equivalence.proofs.Memories.{made}
use Rattle.equivalence.proofs.showing.filled.Goals as goal

pub loop-c-preserved : goal.loop-c-preserved
loop-c-preserved c = let l = c.loop-c in
    (search rules, filled nothing (λ (k : ℕ). shown_at c.args.outputs c.args.side (k / 4) (k % 4)) l.shown l.c _ (search rules) c.shown_at.ensures l.invariant.1)

pub invariant_of-result : goal.invariant_of-result
invariant_of-result c = record { made = made _ _ _ _ _ c.requires (search rules) c.loop-c.invariant.1 }
