-- How many digits a number has, and places filled with them.
use mathlib.Core.Path.{◌≡◌, refl, sym, ◌∙◌}
use mathlib.Core.List.{List, [], ◌∷◌, ◌++◌, append_assoc, append-nil}
use Prim.Native.Nat.{ℕ, zero, suc, ◌+◌, ◌-◌, ◌/◌, ◌%◌, ◌≤◌, ◌<◌}
use native.Mathlib.Omega.{arith}
use lib.ListN.{length, drop, set, length-append, drop_of_length-le}
use Rattle.std.proofs.lemmas.List.{drop-set}
use borrow.Author.Tests.{lt-ltb, le-ltb}
use Rattle.text.specs.Text.{glyph, digits, digits_in}

-- ---- how many digits

module _ (n i rest whole : ℕ) (e : i + digits_in (20 - i) rest ≡ whole) (h : i < 20) where
  one_of : (k : ℕ) → 20 - i ≡ suc k → rest < 10 → i + 1 ≡ whole
  unfolding digits_in
  one_of k p l = rw (p, lt-ltb rest 10 l) at e

  more_of : (k : ℕ) → 20 - i ≡ suc k → 10 ≤ rest → i + 1 + digits_in k (rest / 10) ≡ whole
  unfolding digits_in
  more_of k p l = let q = rw (p, le-ltb rest 10 l) at e in omega arith

  pub count_ends : rest < 10 → i + 1 ≡ whole
  count_ends l = one_of (20 - (i + 1)) (omega arith) l

  pub count_goes_on : 10 ≤ rest → i + 1 + digits_in (20 - (i + 1)) (rest / 10) ≡ whole
  count_goes_on l = more_of (20 - (i + 1)) (omega arith) l

pub count_full : (i rest whole : ℕ) → i + digits_in (20 - i) rest ≡ whole → 20 ≤ i → i ≤ 20 → 20 ≡ whole
unfolding digits_in
count_full i rest whole e h l =
    let p : 20 - i ≡ 0 = omega arith in let q = rw p at e in omega arith

-- ---- digits

pub digits_length : (base k n : ℕ) → length (digits base k n) ≡ k
unfolding digits
digits_length base zero n = refl
digits_length base (suc k) n =
    length-append (digits base k (n / base)) (glyph (n % base) ∷ []) ∙ rw (digits_length base k (n / base)) (omega arith)

-- of k digits i stand already, those of the last places
unfoldable pub Filling : ℕ → ℕ → ℕ → ℕ → ℕ → List ℕ → Type 0
Filling base n k i rest places = digits base (k - i) rest ++ drop (k - i) places ≡ digits base k n

pub no_digit_yet : (base n : ℕ) (places : List ℕ) → Filling base n (length places) 0 n places
unfolding Filling
no_digit_yet base n places =
    let z : length places - 0 ≡ length places = omega arith in
    let h : length places ≤ length places = omega arith in
    rw (z, drop_of_length-le places h) (append-nil (digits base (length places) n))

next_digit : (base rest j i x : ℕ) (places whole : List ℕ) → j < length places → i ≡ suc j
    → digits base i rest ++ drop i places ≡ whole → x ≡ glyph (rest % base)
    → digits base j (rest / base) ++ drop j (set places j x) ≡ whole
unfolding digits
next_digit base rest j i x places whole h q e u =
    let m : j + 1 ≡ suc j = omega arith in
    let d : drop j (set places j x) ≡ x ∷ drop (suc j) places = rw m at (drop-set places j x h) in
    let f = rw q at e in
    rw (d, u) (sym (append_assoc (digits base j (rest / base)) (glyph (rest % base) ∷ []) (drop (suc j) places)) ∙ f)

pub one_digit : (base n k i rest x : ℕ) (places : List ℕ) → Filling base n k i rest places → i < k → length places ≡ k
    → x ≡ glyph (rest % base) → Filling base n k (i + 1) (rest / base) (set places (k - 1 - i) x)
unfolding Filling
one_digit base n k i rest x places f h l u =
    let q : k - (i + 1) ≡ k - 1 - i = omega arith in
    rw q (next_digit base rest (k - 1 - i) (k - i) x places (digits base k n) (omega arith) (omega arith) f u)

pub all_digits : (base n k i rest : ℕ) (places : List ℕ) → Filling base n k i rest places → k ≤ i → places ≡ digits base k n
unfolding digits Filling
all_digits base n k i rest places f h = let q : k - i ≡ 0 = omega arith in rw q at f
