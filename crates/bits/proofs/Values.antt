-- Two's complement values and their sums, in natural numbers: what would be taken off one side of a comparison is added to the other.
use Rattle.std.proofs.Common.{◌≡◌, ℕ, zero, suc, ◌+◌, ◌-◌, ◌*◌, ◌^◌, ◌<◌, ◌≤◌, Bool, ◌||◌, ltb, leb, ℤ, pos, negsuc, ◌+ℤ◌, neg_ℤ, sym, refl, ap, ◌∙◌, ap₂, add-zero, zero-add, arith, le-ltb, lt-ltb, le-leb}
use native.Mathlib.Decide.{dec_lt, dec_le}
use lib.IntN.{sub_ℕ}
use lib.Signed.{lt_z, le_z}
use borrow.Author.Tests.{lt-leb}
use Rattle.bits.specs.Bits.{num, top, value}
use Rattle.bits.specs.Sum.{overflows}
use Rattle.bits.specs.Order.{below}

-- z is a - d
abbrev Is : ℤ → ℕ → ℕ → Type 0
Is (pos n) a d = n + d ≡ a
Is (negsuc n) a d = a + suc n ≡ d

sub_is : (a d : ℕ) → Is (sub_ℕ a d) a d
sub_is a d =
    elim (dec_lt a d) [
      | yes h ↦ rw (lt-ltb a d h) (omega arith)
      | no h ↦ let l : d ≤ a = omega arith in rw (le-ltb a d l) (omega arith)
    ]

shift : (z : ℤ) (a d a' d' : ℕ) → Is z a d → a + d' ≡ a' + d → Is z a' d'
shift (pos n) a d a' d' h e = omega arith
shift (negsuc n) a d a' d' h e = omega arith

add_is : (z w : ℤ) (a d b e : ℕ) → Is z a d → Is w b e → Is (z +ℤ w) (a + b) (d + e)
add_is (pos m) (pos n) a d b e h k = omega arith
add_is (pos m) (negsuc n) a d b e h k = shift (sub_ℕ m (suc n)) m (suc n) (a + b) (d + e) (sub_is m (suc n)) (omega arith)
add_is (negsuc m) (pos n) a d b e h k = shift (sub_ℕ n (suc m)) n (suc m) (a + b) (d + e) (sub_is n (suc m)) (omega arith)
add_is (negsuc m) (negsuc n) a d b e h k = omega arith

pub ltb_iff : (a b a' b' : ℕ) → (a < b → a' < b') → (b ≤ a → b' ≤ a') → ltb a' b' ≡ ltb a b
ltb_iff a b a' b' p q =
    elim (dec_lt a b)
    [ yes h ↦ lt-ltb a' b' (p h) ∙ sym (lt-ltb a b h) | no h ↦ let l : b ≤ a = omega arith in le-ltb a' b' (q l) ∙ sym (le-ltb a b l) ]

leb_iff : (a b a' b' : ℕ) → (a ≤ b → a' ≤ b') → (b < a → b' < a') → leb a b ≡ leb a' b'
leb_iff a b a' b' p q =
    elim (dec_le a b)
    [ yes h ↦ le-leb a b h ∙ sym (le-leb a' b' (p h)) | no h ↦ let l : b < a = omega arith in lt-leb a b l ∙ sym (lt-leb a' b' (q l)) ]

lt_is : (z w : ℤ) (a d b e : ℕ) → Is z a d → Is w b e → lt_z z w ≡ ltb (a + e) (b + d)
lt_is (pos m) (pos n) a d b e h k = ltb_iff (a + e) (b + d) m n (λ l. omega arith) (λ l. omega arith)
lt_is (pos m) (negsuc n) a d b e h k = sym (le-ltb (a + e) (b + d) (omega arith))
lt_is (negsuc m) (pos n) a d b e h k = sym (lt-ltb (a + e) (b + d) (omega arith))
lt_is (negsuc m) (negsuc n) a d b e h k = ltb_iff (a + e) (b + d) n m (λ l. omega arith) (λ l. omega arith)

le_is : (z w : ℤ) (a d b e : ℕ) → Is z a d → Is w b e → le_z z w ≡ leb (a + e) (b + d)
le_is (pos m) (pos n) a d b e h k = leb_iff m n (a + e) (b + d) (λ l. omega arith) (λ l. omega arith)
le_is (pos m) (negsuc n) a d b e h k = sym (lt-leb (a + e) (b + d) (omega arith))
le_is (negsuc m) (pos n) a d b e h k = sym (le-leb (a + e) (b + d) (omega arith))
le_is (negsuc m) (negsuc n) a d b e h k = leb_iff n m (a + e) (b + d) (λ l. omega arith) (λ l. omega arith)

neg_is : (p : ℕ) → Is (neg_ℤ (pos p)) 0 p
neg_is zero = refl
neg_is (suc p) = omega arith

-- by what the value of a falls short of a
abbrev pub debt : ℕ → ℕ → ℕ
debt n a = num (top n a) * 2 ^ n

pub below_nat : (n a b : ℕ) → below n a b ≡ ltb (a + debt n b) (b + debt n a)
unfolding below value
below_nat n a b = lt_is (sub_ℕ a (debt n a)) (sub_ℕ b (debt n b)) a (debt n a) b (debt n b) (sub_is a (debt n a)) (sub_is b (debt n b))

pub overflows-nat : (n a b : ℕ) (c : Bool)
    → overflows n a b c
    ≡ ltb (a + b + num c + 2 ^ (n - 1)) (debt n a + debt n b) || leb (2 ^ (n - 1) + (debt n a + debt n b)) (a + b + num c)
unfolding overflows value
overflows-nat n a b c =
    let z : ℤ = sub_ℕ a (debt n a) +ℤ sub_ℕ b (debt n b) +ℤ pos (num c) in
    let k : Is z (a + b + num c) (debt n a + debt n b + 0) =
    add_is (sub_ℕ a (debt n a) +ℤ sub_ℕ b (debt n b)) (pos (num c)) (a + b) (debt n a + debt n b) (num c) 0
    (add_is (sub_ℕ a (debt n a)) (sub_ℕ b (debt n b)) a (debt n a) b (debt n b) (sub_is a (debt n a)) (sub_is b (debt n b))) (omega arith) in
    let j : Is z (a + b + num c) (debt n a + debt n b) = shift z (a + b + num c) (debt n a + debt n b + 0) (a + b + num c) (debt n a + debt n b) k (omega arith) in
    ap₂ ◌||◌
    (lt_is z (neg_ℤ (pos (2 ^ (n - 1)))) (a + b + num c) (debt n a + debt n b) 0 (2 ^ (n - 1)) j (neg_is (2 ^ (n - 1)))
    ∙ ap (ltb (a + b + num c + 2 ^ (n - 1))) (zero-add (debt n a + debt n b)))
    (le_is (pos (2 ^ (n - 1))) z (2 ^ (n - 1)) 0 (a + b + num c) (debt n a + debt n b) (omega arith) j
    ∙ ap (leb (2 ^ (n - 1) + (debt n a + debt n b))) (add-zero (a + b + num c)))
