-- Laws of `word` and `bit`: a word is taken apart at its top bit.
use Rattle.std.proofs.Common.{◌≡◌, ℕ, zero, suc, ◌+◌, ◌-◌, ◌*◌, ◌/◌, ◌%◌, ◌^◌, ◌<◌, ◌≤◌, Bool, true, false, not, ◌&&◌, eqb, ltb, sym, refl, ap, ◌∙◌, ap₂, mod-lt, mod-eq_of_lt, zero-lt-suc, add_comm, pow-suc, one-add, arith, le-ltb, lt-ltb}
use native.Mathlib.Nat.{mod-one}
use native.Mathlib.Decide.{dec_lt}
use mathlib.Core.Bool.{beq}
use lib.Pow.{high, mod-pow-add, ones_split, ones_lt}
use Rattle.words.proofs.Choices.{and_split, and_join, beq-true, beq-refl}
use Rattle.bits.specs.Bits.{num, bit, top, word}
use Rattle.bits.specs.Wiring.{complement}

-- 2 ^ suc k, for omega
pub pow2 : (k : ℕ) → 2 ^ suc k ≡ 2 ^ k + 2 ^ k
pow2 k = let e = pow-suc 2 k in omega (arith, e)

pub word_lt : (n : ℕ) (f : ℕ → Bool) → word n f < 2 ^ n
unfolding word
word_lt zero f = omega arith
word_lt (suc n) f = go (f n) (word_lt n f)
  where
    go : (x : Bool) → word n f < 2 ^ n → word n f + num x * 2 ^ n < 2 ^ suc n
    go true h = omega (arith, pow2 n)
    go false h = omega (arith, pow2 n)

-- pointwise equal below n
pub word-ext : (n : ℕ) (f g : ℕ → Bool) → ((i : ℕ) → i < n → f i ≡ g i) → word n f ≡ word n g
unfolding word
word-ext zero f g h = refl
word-ext (suc n) f g h =
    ap₂ (λ (a : ℕ) (x : Bool). a + num x * 2 ^ n) (word-ext n f g (λ i l. h i (omega arith))) (h n (omega arith))

pub num-bit : (a i : ℕ) → num (bit a i) ≡ a / 2 ^ i % 2
unfolding bit
num-bit a i = go (a / 2 ^ i % 2) (mod-lt (a / 2 ^ i) (zero-lt-suc 1))
  where
    go : (d : ℕ) → d < 2 → num (eqb d 1) ≡ d
    go zero h = refl
    go (suc zero) h = refl
    go (suc (suc d)) h = absurd (omega arith)

pub word_mod : (n a : ℕ) → word n (bit a) ≡ a % 2 ^ n
unfolding word
word_mod zero a = sym (mod-one a)
word_mod (suc n) a =
    let m : a % 2 ^ suc n ≡ a / 2 ^ n % 2 * 2 ^ n + a % 2 ^ n = rw one-add at (mod-pow-add a 1 n) in
    ap₂ (λ (x y : ℕ). x + y * 2 ^ n) (word_mod n a) (num-bit a n) ∙ add_comm (a % 2 ^ n) (a / 2 ^ n % 2 * 2 ^ n) ∙ sym m

pub word-bits : (n a : ℕ) → a < 2 ^ n → word n (bit a) ≡ a
word-bits n a h = word_mod n a ∙ mod-eq_of_lt h

-- equal tops and equal rests
peel : (x y : Bool) (a b p : ℕ) → a < p → b < p → a + num x * p ≡ b + num y * p → (x ≡ y) × (a ≡ b)
peel true true a b p ha hb e = (refl, omega arith)
peel true false a b p ha hb e = absurd (omega arith)
peel false true a b p ha hb e = absurd (omega arith)
peel false false a b p ha hb e = (refl, omega arith)

-- two streams agree on the bits below n
unfoldable pub same : ℕ → (ℕ → Bool) → (ℕ → Bool) → Bool
same zero f g = true
same (suc n) f g = same n f g && beq (f n) (g n)

pub same_word : (n : ℕ) (f g : ℕ → Bool) → same n f g ≡ true → word n f ≡ word n g
unfolding same word
same_word zero f g h = refl
same_word (suc n) f g h =
    let p = and_split (same n f g) (beq (f n) (g n)) h in
    ap₂ (λ (a : ℕ) (x : Bool). a + num x * 2 ^ n) (same_word n f g p.0) (beq-true (f n) (g n) p.1)

pub word_same : (n : ℕ) (f g : ℕ → Bool) → word n f ≡ word n g → same n f g ≡ true
unfolding same word
word_same zero f g h = refl
word_same (suc n) f g h =
    let p = peel (f n) (g n) (word n f) (word n g) (2 ^ n) (word_lt n f) (word_lt n g) h in
    and_join (word_same n f g p.1) (beq-refl (f n) (g n) p.0)

at_or_below : (n i : ℕ) (f g : ℕ → Bool) → i ≤ n → f n ≡ g n → (i < n → f i ≡ g i) → f i ≡ g i
at_or_below n i f g h e k = elim (dec_lt i n) [ yes l ↦ k l | no l ↦ let q : i ≡ n = omega arith in rw q e ]

pub word-inj : (n : ℕ) (f g : ℕ → Bool) → word n f ≡ word n g → (i : ℕ) → i < n → f i ≡ g i
unfolding word
word-inj zero f g e i h = absurd (omega arith)
word-inj (suc n) f g e i h =
    let p = peel (f n) (g n) (word n f) (word n g) (2 ^ n) (word_lt n f) (word_lt n g) e in
    at_or_below n i f g (omega arith) p.0 (λ l. word-inj n f g p.1 i l)

pub bit_word : (n : ℕ) (f : ℕ → Bool) (i : ℕ) → i < n → bit (word n f) i ≡ f i
bit_word n f i h = word-inj n (bit (word n f)) f (word-bits n (word n f) (word_lt n f)) i h

-- a word of k + 1 bits as its k low bits and its top bit
pub top_split : (k a : ℕ) → a < 2 ^ suc k → a ≡ word k (bit a) + num (bit a k) * 2 ^ k
unfolding word
top_split k a h = sym (word-bits (suc k) a h)

pub suc-sub_one : (k : ℕ) → suc k - 1 ≡ k
suc-sub_one k = omega arith

pub top-word : (k : ℕ) (f : ℕ → Bool) → top (suc k) (word (suc k) f) ≡ f k
unfolding top
top-word k f = rw suc-sub_one (bit_word (suc k) f k (omega arith))

-- ---- words of one bit throughout, and complements

pub word-zeros : (n : ℕ) → word n (λ i. false) ≡ 0
unfolding word
word-zeros zero = refl
word-zeros (suc n) = let e = word-zeros n in omega arith

pub word-not : (n : ℕ) (f : ℕ → Bool) → word n (λ i. not (f i)) ≡ 2 ^ n - 1 - word n f
unfolding word
word-not zero f = refl
word-not (suc n) f = go (f n) (word-not n f) (word_lt n f)
  where
    go : (x : Bool) → word n (λ i. not (f i)) ≡ 2 ^ n - 1 - word n f → word n f < 2 ^ n
        → word n (λ i. not (f i)) + num (not x) * 2 ^ n ≡ 2 ^ suc n - 1 - (word n f + num x * 2 ^ n)
    go true e h = omega (arith, pow2 n)
    go false e h = omega (arith, pow2 n)

pub not_bit : (n a k : ℕ) → a < 2 ^ n → k < n → bit (complement n a) k ≡ not (bit a k)
not_bit n a k h l =
    ap (λ (x : ℕ). bit (2 ^ n - 1 - x) k) (sym (word-bits n a h))
    ∙ ap (λ (x : ℕ). bit x k) (sym (word-not n (bit a)))
    ∙ bit_word n (λ i. not (bit a i)) k l

pub word_ones : (n : ℕ) → word n (λ i. true) ≡ 2 ^ n - 1
word_ones n = word-not n (λ i. false) ∙ ap (λ (x : ℕ). 2 ^ n - 1 - x) (word-zeros n) ∙ omega arith

-- the word of n ones, by a shift
pub ones_shift : (n : ℕ) → n ≤ 64 → (2 ^ 64 - 1) / 2 ^ (64 - n) ≡ 2 ^ n - 1
ones_shift n h =
    let e : n + (64 - n) ≡ 64 = omega arith in
    ap (λ (x : ℕ). (2 ^ x - 1) / 2 ^ (64 - n)) (sym e)
    ∙ ap (λ (x : ℕ). x / 2 ^ (64 - n)) (ones_split n (64 - n))
    ∙ high (2 ^ n - 1) (64 - n) (ones_lt (64 - n))

-- the top bit, by a test against the middle of the range
half_test : (x : Bool) (a w p q : ℕ) → w < p → q ≡ p + p → a ≡ w + num x * p → ltb ((q - 1) / 2) a ≡ x
half_test true a w p q h e u = lt-ltb ((q - 1) / 2) a (omega arith)
half_test false a w p q h e u = le-ltb ((q - 1) / 2) a (omega arith)

pub top_test : (n a m : ℕ) → 1 ≤ n → a < 2 ^ n → m ≡ 2 ^ n - 1 → ltb (m / 2) a ≡ top n a
unfolding top
top_test zero a m h l e = absurd (omega arith)
top_test (suc k) a m h l e =
    rw (e, suc-sub_one) (half_test (bit a k) a (word k (bit a)) (2 ^ k) (2 ^ suc k) (word_lt k (bit a)) (pow2 k) (top_split k a l))
