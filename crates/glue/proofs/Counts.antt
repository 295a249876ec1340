-- What the code of the count rests on: codes counted by their bits, and amounts that fit.
use mathlib.Core.Path.{◌≡◌, refl, sym, ap, ap₂, ◌∙◌}
use mathlib.Core.Bool.{Bool}
use mathlib.Core.List.{[], ◌∷◌}
use Prim.Native.Nat.{ℕ, zero, suc, ◌+◌, ◌-◌, ◌*◌, ◌/◌, ◌%◌, ◌^◌, ◌≤◌, ◌<◌}
use native.Mathlib.Nat.{mod-one}
use native.Mathlib.Numerals.{add-one}
use native.Mathlib.Omega.{arith}
use mir.Val.{Fits}
use mir.Syntax.{w32}
use lib.Count.{ones, ones_step}
use lib.ListN.{length, get_or}
use lib.Pow.{shr-shr, mod-mod-pow, field as cut-Shr}
use Rattle.std.specs.Prelude.{if◌then◌else◌}
use Rattle.words.specs.declared.Prices.{Prices}
use Rattle.bits.specs.Bits.{bit}
use Rattle.bits.specs.Asked.{Width}
use Rattle.bits.proofs.Words.{num-bit}
use Rattle.usage.proofs.Bits.{one_shifted}
use Rattle.glue.specs.Glue.{distinct, code_price, codes_count, comparison_codes}
use Rattle.glue.specs.Asked.{InRange}
use Rattle.glue.specs.Codes.{codes}
use Rattle.glue.proofs.Bounds.{distinct-most, codes_count-most}

-- ---- codes counted by their bits

module _ (x from size : ℕ) where
  low_code : x / 2 ^ from % 2 ^ suc size % 2 ≡ x / 2 ^ from % 2
  low_code = ap (λ (z : ℕ). x / 2 ^ from % 2 ^ z % 2) (sym (add-one size)) ∙ mod-mod-pow (x / 2 ^ from) size 1

  codes-above : x / 2 ^ from % 2 ^ suc size / 2 ≡ x / 2 ^ suc from % 2 ^ size
  codes-above =
      ap (λ (z : ℕ). x / 2 ^ from % 2 ^ z / 2) (sym (add-one size))
      ∙ cut-Shr (x / 2 ^ from) size 1
      ∙ ap (λ (z : ℕ). z % 2 ^ size) (shr-shr x from 1 ∙ ap (λ (z : ℕ). x / 2 ^ z) (add-one from))

pub ones-codes : (x from size : ℕ) → ones (x / 2 ^ from % 2 ^ size) ≡ distinct (bit x) (codes from size)
unfolding distinct ones
ones-codes x from zero = ap ones (mod-one (x / 2 ^ from))
ones-codes x from (suc size) =
    ones_step (x / 2 ^ from % 2 ^ suc size)
    ∙ ap₂ (λ (a b : ℕ). a + ones b) (low_code x from size) (codes-above x from size)
    ∙ ap₂ (λ (a b : ℕ). a + b) (sym (num-bit x from)) (ones-codes x (suc from) size)

length-codes : (from size : ℕ) → length (codes from size) ≡ size
length-codes from zero = refl
length-codes from (suc size) = ap suc (length-codes (suc from) size)

-- the code's `1 << size`
size_shifted : (size : ℕ) → size ≤ 15 → 1 * 2 ^ size % 2 ^ 64 ≡ 2 ^ size
size_shifted size h = one_shifted size 64 (omega arith)

module _ (x from size : ℕ) (h : size ≤ 15) where
  pub counted : ones (x / 2 ^ from % (1 * 2 ^ size % 2 ^ 64)) ≡ distinct (bit x) (codes from size)
  counted = ap (λ (z : ℕ). ones (x / 2 ^ from % z)) (size_shifted size h) ∙ ones-codes x from size

  pub counted_most : ones (x / 2 ^ from % (1 * 2 ^ size % 2 ^ 64)) ≤ size
  counted_most = omega (arith, counted, distinct-most (bit x) (codes from size), length-codes from size)

-- ---- the prices of the comparison codes

module _ (n : ℕ) (p : Prices) where
  -- the code's table
  pub code_table : (x y z : ℕ) → (x ≡ (n - 1) * p.gate) × (x ≤ 1044480) → (y ≡ n * p.gate) × (y ≤ 1044480)
      → (z ≡ (n + 1) * p.gate) × (z ≤ 1044480) → (k : ℕ) →
      get_or
      (0 ∷ 0 ∷ p.inverter ∷ x ∷ (x + p.inverter) ∷ x ∷ (x + p.inverter) ∷ 0 ∷ p.inverter ∷ (y + p.inverter)
      ∷ (y + p.inverter) ∷ (y + 2 * p.inverter) ∷ p.gate ∷ (p.gate + p.inverter) ∷ (z + p.inverter)
      ∷ (z + 2 * p.inverter) ∷ []) k 0 ≡ code_price n p k
  unfolding code_price
  code_table x y z ex ey ez k = rw (ex.0, ey.0, ez.0) refl

-- ---- the loop over the comparison codes: what is passed, and the codes from k on, make the whole

codes-next : (k : ℕ) → k < 16 → codes k (16 - k) ≡ k ∷ codes (k + 1) (16 - (k + 1))
codes-next k h =
    let e : 16 - k ≡ suc (16 - (k + 1)) = omega arith in
    ap (codes k) e ∙ ap (λ (x : ℕ). k ∷ codes x (16 - (k + 1))) (sym (add-one k))

module _ (n : ℕ) (p : Prices) (part k t : ℕ) where
  abbrev from : ℕ → ℕ
  from j = codes_count (code_price n p) (bit part) (codes j (16 - j))

  module _ (whole : ℕ) (e : t + from k ≡ whole) where
    pub next_code : (b : Bool) (x y : ℕ) → k < 16 → b ≡ bit part k → x ≡ code_price n p k → (y ≡ (if b then x else 0)) × (y ≤ x)
        → t + y + from (k + 1) ≡ whole
    unfolding codes_count
    next_code b x y h eb ex ey =
        let z : y ≡ (if bit part k then code_price n p k else 0) = ey.0 ∙ (λ i. if eb i then ex i else 0) in
        let o : t + ((if bit part k then code_price n p k else 0) + from (k + 1)) ≡ whole = rw (codes-next k h) at e in
        omega arith

    pub all_codes : 16 ≤ k → t ≡ whole
    unfolding codes_count
    all_codes h =
        let z : 16 - k ≡ 0 = omega arith in
        let o : t + 0 ≡ whole = rw z at e in
        omega arith

  pub codes-most : 16 ≤ k → t + from k ≡ codes_count (code_price n p) (bit part) comparison_codes → Width n → InRange p → t ≤ 149940
  codes-most h e w g =
      omega (arith, all_codes (codes_count (code_price n p) (bit part) comparison_codes) e h, codes_count-most p g n w.most (bit part))

  pub codes-fit : (b : Bool) (x y : ℕ) → k < 16 → b ≡ bit part k → x ≡ code_price n p k → (y ≡ (if b then x else 0)) × (y ≤ x)
      → t + from k ≡ codes_count (code_price n p) (bit part) comparison_codes → Width n → InRange p → Fits w32 (t + y)
  codes-fit b x y h eb ex ey e w g =
      omega (
        arith,
        next_code (codes_count (code_price n p) (bit part) comparison_codes) e b x y h eb ex ey,
        codes_count-most p g n w.most (bit part),
      )
