-- A table: words copied into entries in which nothing stands.
use mathlib.Core.Path.{◌≡◌, refl, ap, ◌∙◌}
use mathlib.Core.List.{List, ◌++◌}
use Prim.Native.Nat.{ℕ, zero, suc, ◌-◌, ◌≤◌}
use native.Mathlib.Nat.{zero-add}
use native.Mathlib.Omega.{arith}
use lib.ListN.{length, drop, replicate, length-replicate}
use lib.Seq.{sets, sets-eq}
use Rattle.opening.specs.Opening.{table_of}

drop-replicate : (i n a : ℕ) → drop i (replicate n a) ≡ replicate (n - i) a
drop-replicate zero n a = let z : n - 0 ≡ n = omega arith in rw z refl
drop-replicate (suc i) zero a = let z : 0 - suc i ≡ 0 = omega arith in rw z refl
drop-replicate (suc i) (suc n) a = let z : suc n - suc i ≡ n - i = omega arith in rw z (drop-replicate i n a)

pub table_filled : (most : ℕ) (ws t : List ℕ) → length ws ≤ most → t ≡ sets (replicate most 0) 0 ws → t ≡ table_of most ws
unfolding table_of
table_filled most ws t h e =
    e ∙ sets-eq ws (replicate most 0) 0 (omega (arith, length-replicate {A = ℕ} most 0))
    ∙ ap (λ (l : List ℕ). ws ++ l) (rw zero-add (drop-replicate (length ws) most 0))
