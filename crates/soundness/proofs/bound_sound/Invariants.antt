-- `soundness::bound_sound` meets its contract.
use lib.ListN.{length, drop}
use mathlib.Core.Path.{◌≡◌}
use Rattle.soundness.specs.Sound.{bound_sound}
use Rattle.soundness.proofs.bound_sound.Given as goal

abbrev pub invariant-loop-source : goal.invariant-loop-source
invariant-loop-source l =
    let ss = l.source-iterator.a.rest.now in let bs = l.source-iterator.b.rest.now in
    (bound_sound l.terms.width.n l.terms.sources.now l.terms.targets.now ss bs
    ≡ bound_sound l.terms.width.n l.terms.sources.now l.terms.targets.now l.terms.sources.now l.bound)
    × (drop (length ss) bs ≡ drop (length l.terms.sources.now) l.bound)
