-- Tables of texts: none that stands there is longer than the longest.
use mathlib.Core.List.{List, [], ◌∷◌}
use Prim.Native.Nat.{ℕ, zero, suc, ◌≤◌, ◌<◌}
use native.Mathlib.Omega.{arith}
use lib.ListN.{length, get_or, length-append}
use Rattle.std.specs.Borrow.{Bor}
use Rattle.text.specs.Text.{texts, longest}

pub no_longer : (table : List (Bor (List ℕ))) (i : ℕ) (d : Bor (List ℕ)) → i < length table
    → length (get_or table i d).now ≤ longest (texts table)
no_longer [] i d h = absurd (omega arith)
no_longer (t ∷ ts) zero d h = omega arith
no_longer (t ∷ ts) (suc i) d h = omega (arith, no_longer ts i d (omega arith))

pub ruleset entries = (no_longer, length-append)
