-- `entries::lookup::first_empty` meets its contract.
use mathlib.Core.Path.{sym, ◌∙◌}
use Rattle.entries.proofs.Searching.{unbound_found}
use Rattle.entries.proofs.lookup.first_empty.Goals as goal

pub returns-then-word-eq-NOTHING : goal.returns-then-word-eq-NOTHING
returns-then-word-eq-NOTHING c =
    let rest = c.in-Some.ensures.steps in
    sym (unbound_found _ _ _ _ _ _ rest.0 rest.1 _ c.if-word-eq-NOTHING.true c.source_function.ensures) ∙ c.loop-source.invariant
