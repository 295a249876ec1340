-- `entries::lookup::first_empty` meets its contract.
use mathlib.Core.Path.{◌≡◌}
use Rattle.entries.specs.Entries.{first_empty}
use Rattle.entries.proofs.lookup.first_empty.Given as goal

abbrev pub invariant-loop-source : goal.invariant-loop-source
invariant-loop-source l =
    first_empty l.source-iterator.a.rest.now l.source-iterator.b.rest.now ≡ first_empty l.sources l.bound
