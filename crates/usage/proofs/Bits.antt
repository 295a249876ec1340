-- The bits of a joined set, of what two sets share, and of the set of one bit.
use mathlib.Core.Path.{◌≡◌, refl, sym, ap, ◌∙◌}
use Prim.Native.Nat.{ℕ, zero, suc, ◌*◌, ◌/◌, ◌%◌, ◌^◌, ◌≤◌, ◌<◌}
use native.Mathlib.Nat.{div-eq_of_lt, zero-lt-suc, zero-div, pow-suc, mul-div_cancel, one-mul}
use native.Mathlib.Numerals.{one-add}
use native.Mathlib.Omega.{arith}
use mathlib.Core.Bool.{Bool, true, false, ◌&&◌, ◌||◌}
use lib.Bits.{bit_or, or_shr, or_mod, bit_and, and_shr, and_mod}
use lib.Dec.{eqb, eqb-zero-suc, eqb-suc-zero, eqb-suc-suc}
use lib.Pow.{shr-shr, shl_exact, pow_mono}
use Rattle.words.specs.Field.{field}
use Rattle.bits.specs.Bits.{num, bit}
use Rattle.bits.proofs.Words.{num-bit}

-- a bit of two numbers taken together digit by digit
module _ (op : ℕ → ℕ → ℕ) (shr : (a b k : ℕ) → op a b / 2 ^ k ≡ op (a / 2 ^ k) (b / 2 ^ k))
    (rest : (a b k : ℕ) → op a b % 2 ^ k ≡ op (a % 2 ^ k) (b % 2 ^ k)) where
  bit_by : (by : Bool → Bool → Bool) → ((x y : Bool) → eqb (op (num x) (num y)) 1 ≡ by x y) → (a b k : ℕ)
      → bit (op a b) k ≡ by (bit a k) (bit b k)
  unfolding bit
  bit_by by digits a b k =
      ap (λ (x : ℕ). eqb (x % 2) 1) (shr a b k)
      ∙ ap (λ (x : ℕ). eqb x 1) (rest (a / 2 ^ k) (b / 2 ^ k) 1)
      ∙ (λ i. eqb (op (sym (num-bit a k) i) (sym (num-bit b k) i)) 1)
      ∙ digits (bit a k) (bit b k)

pub or_bit : (a b k : ℕ) → bit (bit_or a b) k ≡ bit a k || bit b k
or_bit = bit_by bit_or or_shr or_mod (λ x y. x || y) digits
  where
    digits : (x y : Bool) → eqb (bit_or (num x) (num y)) 1 ≡ x || y
    digits true true = refl
    digits true false = refl
    digits false true = refl
    digits false false = refl

pub and_bit : (a b k : ℕ) → bit (bit_and a b) k ≡ bit a k && bit b k
and_bit = bit_by bit_and and_shr and_mod (λ x y. x && y) digits
  where
    digits : (x y : Bool) → eqb (bit_and (num x) (num y)) 1 ≡ x && y
    digits true true = refl
    digits true false = refl
    digits false y = refl

pub or_field : (a b at size : ℕ) → field (bit_or a b) at size ≡ bit_or (field a at size) (field b at size)
or_field a b at size = ap (λ (x : ℕ). x % 2 ^ size) (or_shr a b at) ∙ or_mod (a / 2 ^ at) (b / 2 ^ at) size

pub bit-zero : (k : ℕ) → bit 0 k ≡ false
unfolding bit
bit-zero k = ap (λ (x : ℕ). eqb (x % 2) 1) (zero-div (2 ^ k))

pub bit_past : (a n k : ℕ) → a < 2 ^ n → n ≤ k → bit a k ≡ false
unfolding bit
bit_past a n k h l = let p : 2 ^ n ≤ 2 ^ k = pow_mono l in ap (λ (x : ℕ). eqb (x % 2) 1) (div-eq_of_lt (omega arith))

-- the next bit is the half's bit
bit-half : (a k : ℕ) → bit a (suc k) ≡ bit (a / 2) k
unfolding bit
bit-half a k = ap (λ (x : ℕ). eqb (x % 2) 1) (ap (λ (x : ℕ). a / 2 ^ x) (sym (one-add k)) ∙ sym (shr-shr a 1 k))

half_pow : (j : ℕ) → 2 ^ suc j / 2 ≡ 2 ^ j
half_pow j = ap (λ (x : ℕ). x / 2) (pow-suc 2 j) ∙ mul-div_cancel (2 ^ j) (zero-lt-suc 1)

even : (j : ℕ) → bit (2 ^ suc j) 0 ≡ false
unfolding bit
even j = let e : 2 ^ suc j / 1 % 2 ≡ 0 = omega arith in ap (λ (x : ℕ). eqb x 1) e

low : bit 1 0 ≡ true
unfolding bit
low = refl

-- the set of one bit
pub pow_bit : (j k : ℕ) → bit (2 ^ j) k ≡ eqb j k
pow_bit zero zero = low
pow_bit zero (suc k) = bit-half 1 k ∙ bit-zero k ∙ sym (eqb-zero-suc k)
pow_bit (suc j) zero = even j ∙ sym (eqb-suc-zero j)
pow_bit (suc j) (suc k) = bit-half (2 ^ suc j) k ∙ ap (λ (x : ℕ). bit x k) (half_pow j) ∙ pow_bit j k ∙ sym (eqb-suc-suc j k)

-- the code's `1 << k`
pub one_shifted : (k size : ℕ) → k < size → 1 * 2 ^ k % 2 ^ size ≡ 2 ^ k
one_shifted k size h = shl_exact {a = 1} 1 k size (omega arith) (omega arith) ∙ one-mul (2 ^ k)
