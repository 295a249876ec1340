-- `choice::choose` meets its contract.
use Prim.Native.Nat.{◌-◌, ◌≤◌}
use lib.ListN.{drop, take, length}
use mathlib.Core.List.{[], ◌++◌}
use mathlib.Core.Path.{◌≡◌}
use Rattle.sequence.specs.Limits.{most_sources}
use Rattle.table.specs.Parts.{terms_held}
use Rattle.usage.specs.Sets.{usage}
use Rattle.choice.specs.Choose.{choose}
use Rattle.best.specs.Best.{best_of}
use Rattle.std.specs.Prelude.{None}
use Rattle.best.specs.Beside.{besides}
use Rattle.choice.proofs.choose.Given as goal

abbrev pub invariant-loop-j : goal.invariant-loop-j
invariant-loop-j l = (l.j ≤ l.count) × (l.unmappable ≡ l.initial.unmappable) × (best_of (besides l.terms.width.n l.terms.prices l.used) (terms_held l.terms) l.function l.best (drop l.j (l.rules ++ l.book)) ≡ best_of (besides l.terms.width.n l.terms.prices l.used) (terms_held l.terms) l.function None (l.rules ++ l.book))

abbrev pub decreases-loop-j : goal.decreases-loop-j
decreases-loop-j l = l.count - l.j

abbrev pub invariant-sources : goal.invariant-sources
invariant-sources l = (length l.bound ≡ most_sources) × (l.unmappable ≡ None) × (l.used ≡ usage (take l.i l.bound)) × (choose (terms_held l.terms) (l.rules ++ l.book) (take l.i l.bound) (drop l.i l.terms.sources.now) ≡ choose (terms_held l.terms) (l.rules ++ l.book) [] l.terms.sources.now)
