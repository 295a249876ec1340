-- Words put together from words: digit by digit, and one above another.
use mathlib.Core.Path.{◌≡◌, refl, sym, ap, ap₂, ◌∙◌}
use Prim.Native.Nat.{ℕ, zero, suc, ◌+◌, ◌*◌, ◌^◌, ◌≤◌, ◌<◌}
use native.Mathlib.Nat.{add_comm, add-zero, add-suc, add-mul, mul_assoc, mul_comm}
use native.Mathlib.Omega.{arith}
use mathlib.Core.Bool.{Bool, true, false, ◌||◌}
use lib.Bits.{bit_or, or_block, bit_xor, xor_block}
use lib.Pow.{pow-add}
use Rattle.bits.specs.Bits.{num, exor, word}
use Rattle.bits.proofs.Words.{word_lt, word-ext, word-zeros}

module _ (op : ℕ → ℕ → ℕ) (block : (k a b r s : ℕ) → r < 2 ^ k → s < 2 ^ k → op (a * 2 ^ k + r) (b * 2 ^ k + s) ≡ op a b * 2 ^ k + op r s)
    (by : Bool → Bool → Bool) (digits : (x y : Bool) → op (num x) (num y) ≡ num (by x y)) where
  by_word : (n : ℕ) (f g : ℕ → Bool) → op 0 0 ≡ 0 → op (word n f) (word n g) ≡ word n (λ i. by (f i) (g i))
  unfolding word
  by_word zero f g z = z
  by_word (suc n) f g z =
      ap₂ op (add_comm (word n f) (num (f n) * 2 ^ n)) (add_comm (word n g) (num (g n) * 2 ^ n))
      ∙ block n (num (f n)) (num (g n)) (word n f) (word n g) (word_lt n f) (word_lt n g)
      ∙ ap₂ (λ (x y : ℕ). x * 2 ^ n + y) (digits (f n) (g n)) (by_word n f g z)
      ∙ add_comm (num (by (f n) (g n)) * 2 ^ n) (word n (λ i. by (f i) (g i)))

pub or_word : (n : ℕ) (f g : ℕ → Bool) → bit_or (word n f) (word n g) ≡ word n (λ i. f i || g i)
or_word n f g = by_word bit_or or_block (λ x y. x || y) digits n f g refl
  where
    digits : (x y : Bool) → bit_or (num x) (num y) ≡ num (x || y)
    digits true true = refl
    digits true false = refl
    digits false true = refl
    digits false false = refl

pub xor_word : (n : ℕ) (f g : ℕ → Bool) → bit_xor (word n f) (word n g) ≡ word n (λ i. exor (f i) (g i))
xor_word n f g = by_word bit_xor xor_block exor digits n f g refl
  where
    digits : (x y : Bool) → bit_xor (num x) (num y) ≡ num (exor x y)
    digits true true = refl
    digits true false = refl
    digits false true = refl
    digits false false = refl

-- n bits above m bits
pub above_word : (m n : ℕ) (f : ℕ → Bool) → word m f + word n (λ i. f (m + i)) * 2 ^ m ≡ word (m + n) f
unfolding word
above_word m zero f = rw add-zero (omega arith)
above_word m (suc n) f =
    let e = above_word m n f in
    let p : num (f (m + n)) * 2 ^ n * 2 ^ m ≡ num (f (m + n)) * 2 ^ (m + n) =
    mul_assoc (num (f (m + n))) (2 ^ n) (2 ^ m) ∙ ap (λ (x : ℕ). num (f (m + n)) * x) (mul_comm (2 ^ n) (2 ^ m) ∙ sym (pow-add 2 m n)) in
    rw (add-suc m n) (rw (add-mul (word n (λ i. f (m + i))) (num (f (m + n)) * 2 ^ n) (2 ^ m)) (omega arith))

-- a word whose bits from m on are 0 is its m low_bit bits
pub cut_word : (m n : ℕ) (f : ℕ → Bool) → ((i : ℕ) → m ≤ i → i < m + n → f i ≡ false) → word m f ≡ word (m + n) f
cut_word m n f h =
    let z : word n (λ i. f (m + i)) ≡ 0 = word-ext n (λ i. f (m + i)) (λ i. false) (λ i l. h (m + i) (omega arith) (omega arith)) ∙ word-zeros n in
    let e : word m f ≡ word m f + 0 * 2 ^ m = omega arith in
    e ∙ ap (λ (x : ℕ). word m f + x * 2 ^ m) (sym z) ∙ above_word m n f
