-- `listing::put_mapping` meets its contract.
use Prim.Native.Nat.{◌+◌, ◌*◌, ◌≤◌}
use mathlib.Core.Path.{◌≡◌}
use mathlib.Core.List.{◌++◌}
use lib.ListN.{length, drop}
use Rattle.reader.specs.Starts.{bindings_start}
use Rattle.listing.specs.Listing.{most_binding_bytes, mapped_lines, mapped_text}
use Rattle.listing.proofs.put_mapping.Given as goal

abbrev pub invariant-loop-binding : goal.invariant-loop-binding
invariant-loop-binding g l =
    (l.text ++ mapped_lines (drop (bindings_start + l.binding-index) l.words) ≡ l.initial.text ++ mapped_text l.words)
    × (length l.text ≤ length l.initial.text + most_binding_bytes * l.binding-index)
