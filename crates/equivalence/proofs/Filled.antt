-- An array that is filled from its start.
use mathlib.Core.Path.{◌≡◌, ◌∙◌}
use Prim.Native.Nat.{ℕ, ◌+◌, ◌<◌}
use native.Mathlib.Omega.{arith}
use native.Mathlib.Decide.{dec_lt}
use mathlib.Core.List.{List}
use lib.ListN.{get_or, length, set}
use lib.Seq.{get_or-set_same, get_or-set_other}

pub filled : {A : Type 0} (d : A) (F : ℕ → A) (l : List A) (i : ℕ) (e : A) → i < length l → e ≡ F i
    → ((k : ℕ) → k < i → get_or l k d ≡ F k) → (k : ℕ) → k < i + 1 → get_or (set l i e) k d ≡ F k
filled d F l i e h u below k b =
    elim (dec_lt k i) [
      | yes v ↦ get_or-set_other l i k e d (λ w. omega arith) ∙ below k v
      | no v ↦ let w : k ≡ i = omega arith in rw w (get_or-set_same l i e d h ∙ u)
    ]
