-- `equivalence::witness::walk` calls itself with fewer places to go.
use Rattle.equivalence.proofs.witness.+walk.Given as goal

abbrev pub decreases-walk : goal.decreases-walk
decreases-walk l = l.j
