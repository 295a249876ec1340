-- A list from an index on: what a loop over a slice, and a part of a slice handed on, ask for.
use mathlib.Core.Path.{◌≡◌, refl, sym}
use mathlib.Core.List.{List, [], ◌∷◌}
use Prim.Native.Nat.{ℕ, zero, suc, ◌+◌, ◌-◌, ◌<◌, ◌≤◌}
use native.Mathlib.Numerals.{add-one}
use native.Mathlib.Omega.{arith}
use lib.ListN.{length, take, drop, get_or, length-drop}
use lib.Seq.{drop-cons, take_all, length-take-le}

-- the code's `i + 1` is the definitions' next index
pub drop-next : (ws : List ℕ) (i : ℕ) → i < length ws → drop i ws ≡ get_or ws i 0 ∷ drop (i + 1) ws
drop-next ws i h = rw (add-one, drop-cons ws i 0)

-- what `&words[k..]` hands on
pub part_from : (k : ℕ) (ws : List ℕ) → take (length ws - k) (drop k ws) ≡ drop k ws
part_from k ws = take_all (length ws - k) (drop k ws) (omega (arith, length-drop k ws))

-- what `&words[..n]` hands on has n words
pub start_length : (ws : List ℕ) (n : ℕ) → n ≤ length ws → n ≡ length (take n ws)
start_length ws n h = sym (length-take-le n ws h)

-- within a list it does not matter what stands past its end
pub get_or-within : {A : Type 0} (l : List A) (i : ℕ) (d e : A) → i < length l → get_or l i d ≡ get_or l i e
get_or-within [] i d e h = absurd (omega arith)
get_or-within (x ∷ l) zero d e h = refl
get_or-within (x ∷ l) (suc i) d e h = get_or-within l i d e (omega arith)
