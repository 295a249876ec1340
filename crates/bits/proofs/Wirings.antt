-- What wiring and carry codes give, by arithmetic. Codes 2j and 2j + 1 are complements: the rest of a code chooses the word or bit, and
-- its low bit goes into an exclusive or. Said once for all codes, and over the width.
use Rattle.std.proofs.Common.{◌≡◌, ℕ, zero, suc, ◌+◌, ◌-◌, ◌*◌, ◌/◌, ◌%◌, ◌^◌, ◌<◌, ◌≤◌, Bool, true, false, not, eqb, List, [], ◌∷◌, length, get_or, sym, refl, ap, ◌∙◌, mod-lt, mod-eq_of_lt, zero-lt-suc, one-mul, zero-mul, arith, pow_pos, pow_mono}
use native.Mathlib.Nat.{sub-zero}
use mathlib.Core.Bool.{beq}
use lib.Bits.{bit_and, bit_xor, and_mask, and_comm, xor_zero_r, xor_add_and, xor_lt}
use Rattle.std.specs.Prelude.{if◌then◌else◌}
use Rattle.bits.specs.Wiring.{wired, carried, complement}

-- ---- codes in pairs

-- each of a list, and after it its complement
abbrev pub pairs : {A : Type 0} → (A → A) → List A → List A
pairs f [] = []
pairs f (z ∷ zs) = z ∷ f z ∷ pairs f zs

pub of_pair : {A : Type 0} (f : A → A) (d : A) (zs : List A) (code : ℕ) → code / 2 < length zs
    → (if eqb (code % 2) 1 then f (get_or zs (code / 2) d) else get_or zs (code / 2) d) ≡ get_or (pairs f zs) code d
of_pair f d [] code h = absurd (omega arith)
of_pair f d (z ∷ zs) zero h = refl
of_pair f d (z ∷ zs) (suc zero) h = refl
of_pair f d (z ∷ zs) (suc (suc code)) h =
    let q : suc (suc code) / 2 ≡ suc (code / 2) = omega arith in
    let m : suc (suc code) % 2 ≡ code % 2 = omega arith in
    rw (q, m) (of_pair f d zs code (omega arith))

-- ---- a word

-- the low bit, 0 or 1, taken off 0 and cut to the width
pub cut_mask : (n b s m : ℕ) → n ≤ 64 → b < 2 → s < 2 ^ 64 → (s + b) % 2 ^ 64 ≡ 0 → m ≡ 2 ^ n - 1 → bit_and s m ≡ b * (2 ^ n - 1)
cut_mask n zero s m h k l e u =
    let z : s ≡ 0 = omega arith in rw z (sym (zero-mul (2 ^ n - 1)))
cut_mask n (suc zero) s m h k l e u =
    let z : s ≡ 2 ^ 64 - 1 = omega arith in
    let p = pow_mono h in
    and_comm s m ∙ ap (bit_and m) z ∙ and_mask m 64 ∙ mod-eq_of_lt (omega arith) ∙ u ∙ sym (one-mul (2 ^ n - 1))
cut_mask n (suc (suc b)) s m h k l e u = absurd (omega arith)

-- the exclusive or with n ones complements, with zeros it changes nothing
xor_mask : (n a b : ℕ) → b < 2 → a < 2 ^ n → bit_xor a (b * (2 ^ n - 1)) ≡ (if eqb b 1 then complement n a else a)
xor_mask n a zero k h = rw (zero-mul (2 ^ n - 1)) (xor_zero_r a)
xor_mask n a (suc zero) k h =
    let s = xor_add_and a (2 ^ n - 1) in
    let m : bit_and a (2 ^ n - 1) ≡ a = and_mask a n ∙ mod-eq_of_lt h in
    rw (one-mul (2 ^ n - 1)) (omega arith)
xor_mask n a (suc (suc b)) k h = absurd (omega arith)

module _ (n code l r m : ℕ) (hl : l < 2 ^ n) (hr : r < 2 ^ n) (e : m ≡ code % 2 * (2 ^ n - 1)) where
  -- what the rest of the code chooses
  abbrev chosen : ℕ
  chosen = get_or (0 ∷ l ∷ r ∷ []) (code / 2) 0

  chosen_lt : chosen < 2 ^ n
  chosen_lt = go (code / 2)
    where
      go : (j : ℕ) → get_or (0 ∷ l ∷ r ∷ []) j 0 < 2 ^ n
      go zero = pow_pos n
      go (suc zero) = hl
      go (suc (suc zero)) = hr
      go (suc (suc (suc j))) = pow_pos n

  pub wired-by_low_bit : code < 6 → bit_xor (get_or (0 ∷ l ∷ r ∷ []) (code / 2) 0) m ≡ wired n code l r
  wired-by_low_bit h =
      ap (bit_xor chosen) e ∙ xor_mask n chosen (code % 2) (mod-lt code (zero-lt-suc 1)) chosen_lt
      ∙ of_pair (complement n) 0 (0 ∷ l ∷ r ∷ []) code (omega arith)
      ∙ ap (λ (z : ℕ). get_or (0 ∷ z ∷ l ∷ complement n l ∷ r ∷ complement n r ∷ []) code 0) (sub-zero (2 ^ n - 1))

  pub wired-by_low_bit_lt : bit_xor (get_or (0 ∷ l ∷ r ∷ []) (code / 2) 0) m < 2 ^ n
  wired-by_low_bit_lt = xor_lt n chosen m chosen_lt (go (code % 2) (mod-lt code (zero-lt-suc 1)) e)
    where
      go : (b : ℕ) → b < 2 → m ≡ b * (2 ^ n - 1) → m < 2 ^ n
      go zero k u = let p = pow_pos n in omega arith
      go (suc zero) k u = let p = pow_pos n in omega arith
      go (suc (suc b)) k u = absurd (omega arith)

-- ---- a bit

xor_bit : (x b : Bool) → not (beq x b) ≡ (if b then not x else x)
xor_bit true true = refl
xor_bit true false = refl
xor_bit false true = refl
xor_bit false false = refl

pub bit-of_pair : (xs : List Bool) (code : ℕ) → code / 2 < length xs
    → not (beq (get_or xs (code / 2) false) (eqb (code % 2) 1)) ≡ get_or (pairs not xs) code false
bit-of_pair xs code h = xor_bit (get_or xs (code / 2) false) (eqb (code % 2) 1) ∙ of_pair not false xs code h

pub carried-by_low_bit : (code : ℕ) (c : Bool) → code < 4
    → not (beq (get_or (false ∷ c ∷ []) (code / 2) false) (eqb (code % 2) 1)) ≡ carried code c
carried-by_low_bit code c h = bit-of_pair (false ∷ c ∷ []) code (omega arith)

-- the law of `carried`, by a name without a dash: an attribute reads no other
pub ruleset carried_codes = (carried-by_low_bit)
