-- `bench_answers::put_entries` meets its contract.
use mathlib.Core.Path.{◌≡◌}
use mathlib.Core.List.{◌++◌}
use Prim.Native.Nat.{◌+◌, ◌*◌, ◌≤◌}
use Rattle.bench_answers.specs.Answers.{entry_lines}
use Rattle.listing.specs.Listing.{most_binding_bytes}
use lib.ListN.{length}
use Rattle.bench_answers.proofs.put_entries.Given as goal

abbrev pub invariant-loop-source : goal.invariant-loop-source
invariant-loop-source g l =
    (l.text ++ entry_lines l.source-iterator.a.rest.now l.source-iterator.b.rest.now ≡ l.initial.text ++ entry_lines l.sources l.bound)
    × (length l.text + most_binding_bytes * length l.source-iterator.a.rest.now ≤ length l.initial.text + most_binding_bytes * length l.sources)
