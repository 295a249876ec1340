-- `soundness::bound_sound` meets its contract.
use mathlib.Core.Path.{sym, ◌∙◌}
use Rattle.soundness.proofs.Soundness.{unsound_entry}
use Rattle.soundness.proofs.bound_sound.Goals as goal

pub returns-then-not-entry_sound : goal.returns-then-not-entry_sound
returns-then-not-entry_sound c =
    let rest = c.in-Some.ensures.steps in
    sym (unsound_entry _ _ _ _ _ _ _ _ _ rest.0 rest.1 _ c.entry_sound.ensures c.if-not-entry_sound.true) ∙ c.loop-source.invariant.0
