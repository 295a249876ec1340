-- The parts of one binding's set, a port a part: what a binding has at a port is what its set has in the port's part.
use mathlib.Core.Path.{◌≡◌, refl, sym, ap, ◌∙◌}
use Prim.Native.Nat.{ℕ, ◌+◌, ◌-◌, ◌*◌, ◌%◌, ◌^◌, ◌<◌}
use native.Mathlib.Omega.{arith}
use mathlib.Core.Bool.{Bool, true, false, not, ◌&&◌}
use lib.Bits.{bit_or}
use lib.Dec.{eqb}
use lib.Pow.{pow-add, pow-lt}
use Rattle.std.specs.Prelude.{if◌then◌else◌}
use Rattle.words.specs.Field.{field}
use Rattle.words.proofs.Fields.{field_lt, onto}
use Rattle.bits.specs.Bits.{bit}
use Rattle.bits.specs.Wiring.{complement}
use Rattle.recipe.specs.Fields.{from_scratch, vector_of, fields_of}
use Rattle.recipe.specs.declared.Fields.{Fields}
use Rattle.usage.specs.Sets.{code_bit, target_usage, scratch_usage, usage_of}
use Rattle.bits.proofs.Words.{not_bit}
use Rattle.usage.proofs.Bits.{bit-zero, pow_bit}

-- parts laid side by side
abbrev laid : ℕ → ℕ → ℕ → ℕ → ℕ → ℕ → ℕ
laid l r k m o c = 2 ^ 28 * c + 2 ^ 24 * o + 2 ^ 20 * m + 2 ^ 16 * k + 2 ^ 8 * r + 2 ^ 0 * l

record Fit (l r k m o c : ℕ) : Type 0 where
  left_fits : l < 256
  right_fits : r < 256
  carry_fits : k < 16
  main_fits : m < 16
  cout_fits : o < 16
  code_fits : c < 65536

-- the parts read back
module _ (l r k m o c : ℕ) (fit : Fit l r k m o c) where
  left_part : field (laid l r k m o c) 0 8 ≡ l
  left_part = omega arith

  right_part : field (laid l r k m o c) 8 8 ≡ r
  right_part = omega arith

  carry_part : field (laid l r k m o c) 16 4 ≡ k
  carry_part = omega arith

  main_part : field (laid l r k m o c) 20 4 ≡ m
  main_part = omega arith

  cout_part : field (laid l r k m o c) 24 4 ≡ o
  cout_part = omega arith

  code_part : field (laid l r k m o c) 28 16 ≡ c
  code_part = omega arith

  no_LO : field (laid l r k m o c) 44 1 ≡ 0
  no_LO = omega arith

  no_minterms : field (laid l r k m o c) 45 4 ≡ 0
  no_minterms = omega arith

  none_lacking : field (laid l r k m o c) 49 4 ≡ 0
  none_lacking = omega arith

  -- joined one after the other, they add up
  side_by_side : bit_or (bit_or (bit_or (bit_or (bit_or (2 ^ 28 * c) (2 ^ 24 * o)) (2 ^ 20 * m)) (2 ^ 16 * k)) (2 ^ 8 * r)) (2 ^ 0 * l)
      ≡ laid l r k m o c
  side_by_side =
      let s1 = onto {n = 2 ^ 28 * c} 28 (2 ^ 24 * o) refl (omega arith) (omega arith) in
      let s2 = onto 24 (2 ^ 20 * m) s1 (omega arith) (omega arith) in
      let s3 = onto 20 (2 ^ 16 * k) s2 (omega arith) (omega arith) in
      let s4 = onto 16 (2 ^ 8 * r) s3 (omega arith) (omega arith) in
      onto 8 (2 ^ 0 * l) s4 (omega arith) (omega arith)

module _ (w : ℕ) where
  abbrev target_laid : ℕ
  target_laid =
      laid (2 ^ field w 15 3) (2 ^ field w 12 3) (2 ^ field w 10 2) (2 ^ field w 8 2) (2 ^ field w 6 2) (2 ^ field w 0 4)

  target_parts : target_usage (fields_of w) ≡ target_laid
  unfolding target_usage
  target_parts = simp pow-add

  target_fit : Fit (2 ^ field w 15 3) (2 ^ field w 12 3) (2 ^ field w 10 2) (2 ^ field w 8 2) (2 ^ field w 6 2) (2 ^ field w 0 4)
  target_fit =
      record {
        left_fits = pow-lt (field_lt w 15 3);
        right_fits = pow-lt (field_lt w 12 3);
        carry_fits = pow-lt (field_lt w 10 2);
        main_fits = pow-lt (field_lt w 8 2);
        cout_fits = pow-lt (field_lt w 6 2);
        code_fits = pow-lt (field_lt w 0 4);
      }

  -- only a binding with a target has a code at a port
  module _ (at size x : ℕ) (s : field (scratch_usage (vector_of w)) at size ≡ 0) (t : field target_laid at size ≡ 2 ^ x) where
    coded : (k : ℕ) → bit (field (usage_of w) at size) k ≡ not (from_scratch w) && eqb x k
    unfolding usage_of
    coded k = go (from_scratch w)
      where
        go : (b : Bool) → bit (field (if b then scratch_usage (vector_of w) else target_usage (fields_of w)) at size) k ≡ not b && eqb x k
        go true = ap (λ (y : ℕ). bit y k) s ∙ bit-zero k
        go false = ap (λ (y : ℕ). bit (field y at size) k) target_parts ∙ ap (λ (y : ℕ). bit y k) t ∙ pow_bit x k

  pub left_has : (k : ℕ) → bit (field (usage_of w) 0 8) k ≡ not (from_scratch w) && eqb (field w 15 3) k
  unfolding scratch_usage
  left_has = coded 0 8 (field w 15 3) (omega arith) (left_part _ _ _ _ _ _ target_fit)

  pub right_has : (k : ℕ) → bit (field (usage_of w) 8 8) k ≡ not (from_scratch w) && eqb (field w 12 3) k
  unfolding scratch_usage
  right_has = coded 8 8 (field w 12 3) (omega arith) (right_part _ _ _ _ _ _ target_fit)

  pub carry_has : (k : ℕ) → bit (field (usage_of w) 16 4) k ≡ not (from_scratch w) && eqb (field w 10 2) k
  unfolding scratch_usage
  carry_has = coded 16 4 (field w 10 2) (omega arith) (carry_part _ _ _ _ _ _ target_fit)

  pub main_has : (k : ℕ) → bit (field (usage_of w) 20 4) k ≡ not (from_scratch w) && eqb (field w 8 2) k
  unfolding scratch_usage
  main_has = coded 20 4 (field w 8 2) (omega arith) (main_part _ _ _ _ _ _ target_fit)

  pub cout_has : (k : ℕ) → bit (field (usage_of w) 24 4) k ≡ not (from_scratch w) && eqb (field w 6 2) k
  unfolding scratch_usage
  cout_has = coded 24 4 (field w 6 2) (omega arith) (cout_part _ _ _ _ _ _ target_fit)

  pub code_has : (k : ℕ) → bit (field (usage_of w) 28 16) k ≡ not (from_scratch w) && eqb (field w 0 4) k
  unfolding scratch_usage
  code_has = coded 28 16 (field w 0 4) (omega arith) (code_part _ _ _ _ _ _ target_fit)

  -- only a binding from scratch has LO, and has and lacks minterms
  module _ (at size x : ℕ) (s : field (scratch_usage (vector_of w)) at size ≡ x) (t : field target_laid at size ≡ 0) where
    vectored : (k : ℕ) → bit (field (usage_of w) at size) k ≡ from_scratch w && bit x k
    unfolding usage_of
    vectored k = go (from_scratch w)
      where
        go : (b : Bool) → bit (field (if b then scratch_usage (vector_of w) else target_usage (fields_of w)) at size) k ≡ b && bit x k
        go true = ap (λ (y : ℕ). bit y k) s
        go false = ap (λ (y : ℕ). bit (field y at size) k) target_parts ∙ ap (λ (y : ℕ). bit y k) t ∙ bit-zero k

  pub LO-has : bit (field (usage_of w) 44 1) 0 ≡ from_scratch w
  unfolding scratch_usage
  LO-has =
      vectored 44 1 1 (omega arith) (no_LO _ _ _ _ _ _ target_fit) 0
      ∙ ap (λ (b : Bool). from_scratch w && b) (pow_bit 0 0)
      ∙ and_true (from_scratch w)
    where
      and_true : (b : Bool) → b && true ≡ b
      and_true true = refl
      and_true false = refl

  pub minterm_has : (k : ℕ) → bit (field (usage_of w) 45 4) k ≡ from_scratch w && bit (vector_of w) k
  unfolding scratch_usage
  minterm_has = vectored 45 4 (vector_of w) (omega arith) (no_minterms _ _ _ _ _ _ target_fit)

  pub minterm_lacks : (k : ℕ) → k < 4 → bit (field (usage_of w) 49 4) k ≡ from_scratch w && not (bit (vector_of w) k)
  unfolding scratch_usage
  minterm_lacks k h =
      vectored 49 4 (complement 4 (vector_of w)) (omega arith) (none_lacking _ _ _ _ _ _ target_fit) k
      ∙ ap (λ (b : Bool). from_scratch w && b) (not_bit 4 (vector_of w) k (field_lt w 0 4) h)

-- ---- how the code comes to a binding's set

module _ (r : Fields) (w : ℕ) (e : r ≡ fields_of w) where
  -- codes of different ports joined add up
  pub joined_codes : (p q x y z u : ℕ) → p ≡ code_bit 28 r.code → q ≡ code_bit 24 r.cout → x ≡ code_bit 20 r.main
      → y ≡ code_bit 16 r.carry → z ≡ code_bit 8 r.right → u ≡ code_bit 0 r.left
      → bit_or (bit_or (bit_or (bit_or (bit_or p q) x) y) z) u ≡ target_usage (fields_of w)
  joined_codes p q x y z u ep eq ex ey ez eu =
      let code = ep ∙ ap (λ (f : Fields). code_bit 28 f.code) e ∙ pow-add 2 28 (field w 0 4) in
      let cout = eq ∙ ap (λ (f : Fields). code_bit 24 f.cout) e ∙ pow-add 2 24 (field w 6 2) in
      let main = ex ∙ ap (λ (f : Fields). code_bit 20 f.main) e ∙ pow-add 2 20 (field w 8 2) in
      let carry = ey ∙ ap (λ (f : Fields). code_bit 16 f.carry) e ∙ pow-add 2 16 (field w 10 2) in
      let right = ez ∙ ap (λ (f : Fields). code_bit 8 f.right) e ∙ pow-add 2 8 (field w 12 3) in
      let left = eu ∙ ap (λ (f : Fields). code_bit 0 f.left) e ∙ pow-add 2 0 (field w 15 3) in
      (λ i. bit_or (bit_or (bit_or (bit_or (bit_or (code i) (cout i)) (main i)) (carry i)) (right i)) (left i))
      ∙ side_by_side _ _ _ _ _ _ (target_fit w)
      ∙ sym (target_parts w)

pub joined_minterms : (w v p : ℕ) → v ≡ vector_of w → p ≡ code_bit 44 0
    → bit_or (bit_or ((15 - v) * 2 ^ 49 % 2 ^ 64) (v * 2 ^ 45 % 2 ^ 64)) p ≡ scratch_usage (vector_of w)
unfolding scratch_usage
joined_minterms w v p ev ep =
    let h : v < 16 = rw ev (field_lt w 0 4) in
    let l : (15 - v) * 2 ^ 49 % 2 ^ 64 ≡ (15 - v) * 2 ^ 49 = omega arith in
    let m : v * 2 ^ 45 % 2 ^ 64 ≡ v * 2 ^ 45 = omega arith in
    let both : bit_or ((15 - v) * 2 ^ 49 % 2 ^ 64) (v * 2 ^ 45) ≡ (15 - v) * 2 ^ 49 + v * 2 ^ 45 =
    onto 49 (v * 2 ^ 45) l (omega arith) (omega arith) in
    (λ i. bit_or (bit_or ((15 - v) * 2 ^ 49 % 2 ^ 64) (m i)) (ep i))
    ∙ onto 45 (code_bit 44 0) both (omega arith) (omega arith)
    ∙ ap (λ (x : ℕ). complement 4 x * 2 ^ 49 + x * 2 ^ 45 + code_bit 44 0) ev
