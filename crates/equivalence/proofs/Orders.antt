-- The table of comparison codes.
use mathlib.Core.Path.{◌≡◌, refl, sym, ap, ◌∙◌}
use Prim.Native.Nat.{ℕ, ◌+◌, ◌*◌, ◌/◌, ◌%◌, ◌^◌, ◌≤◌, ◌<◌}
use native.Mathlib.Nat.{zero-div}
use native.Mathlib.Omega.{arith}
use native.Mathlib.Decide.{dec_lt}
use mathlib.Core.Bool.{Bool, true, false}
use lib.Dec.{eqb}
use lib.ListN.{get_or, get_or-eq_default}
use borrow.Author.Tests.{eqb-true}
use Rattle.bits.specs.Bits.{num, word}
use Rattle.bits.proofs.Words.{word-ext, word-zeros}
use Rattle.automaton.specs.Machine.{low_bit}
use Rattle.output.specs.Output.{shown_comparison}
use Rattle.binding.specs.Right.{every}
use Rattle.binding.proofs.Tests.{every-at}
use Rattle.equivalence.specs.Shown.{high, orders, order_table}

-- the entry of a code at a number of TO1, S and TOVF
abbrev right_at : ℕ → ℕ → Bool
right_at code m = eqb (get_or order_table code 0 / 2 ^ (4 * m) % 16) (orders code (low_bit m) (high m) (low_bit (m / 4)))

right_table : every 16 (λ code. every 8 (right_at code)) ≡ true
unfolding every orders word order_table
right_table = refl

in_table : (code m : ℕ) → code < 16 → m < 8 → get_or order_table code 0 / 2 ^ (4 * m) % 16 ≡ orders code (low_bit m) (high m) (low_bit (m / 4))
in_table code m h l = eqb-true _ _ (every-at 8 (right_at code) (every-at 16 (λ code. every 8 (right_at code)) right_table code h) m l)

-- no code is past the sixteen
unshown : (code : ℕ) (to1 gor gand s tovf : Bool) → 16 ≤ code → shown_comparison code to1 gor gand s tovf ≡ false
unshown code to1 gor gand s tovf h = search get_or-eq_default

none : (code m : ℕ) (to1 s tovf : Bool) → 16 ≤ code → get_or order_table code 0 / 2 ^ (4 * m) % 16 ≡ orders code to1 s tovf
unfolding orders order_table
none code m to1 s tovf h =
    rw (get_or-eq_default order_table 0 {n = code} h) (ap (λ (x : ℕ). x % 16) (zero-div (2 ^ (4 * m))))
    ∙ sym (word-zeros 4)
    ∙ word-ext 4 (λ k. false) (λ k. shown_comparison code to1 (low_bit k) (high k) s tovf) (λ k l. sym (unshown code to1 (low_bit k) (high k) s tovf h))

module _ (code : ℕ) where
  there : (m : ℕ) → m < 8 → get_or order_table code 0 / 2 ^ (4 * m) % 16 ≡ orders code (low_bit m) (high m) (low_bit (m / 4))
  there m l =
      elim (dec_lt code 16) [
        | yes h ↦ in_table code m h l
        | no h ↦ none code m (low_bit m) (high m) (low_bit (m / 4)) (omega arith)
      ]

  pub orders_there : (to1 s tovf : Bool) → get_or order_table code 0 / 2 ^ (4 * (num to1 + 2 * num s + 4 * num tovf)) % 16 ≡ orders code to1 s tovf
  orders_there false false false = there 0 (omega arith)
  orders_there true false false = there 1 (omega arith)
  orders_there false true false = there 2 (omega arith)
  orders_there true true false = there 3 (omega arith)
  orders_there false false true = there 4 (omega arith)
  orders_there true false true = there 5 (omega arith)
  orders_there false true true = there 6 (omega arith)
  orders_there true true true = there 7 (omega arith)
