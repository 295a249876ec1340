-- The order of two's complement values, from the signs and the order of the words.
use Rattle.std.proofs.Common.{◌≡◌, ℕ, zero, suc, ◌+◌, ◌*◌, ◌^◌, ◌<◌, ◌≤◌, Bool, true, false, ltb, sym, refl, ◌∙◌, arith, le-ltb, lt-ltb}
use mathlib.Core.Bool.{beq}
use Rattle.bits.specs.Bits.{num, bit, top, word}
use Rattle.bits.specs.Order.{below}
use Rattle.bits.specs.Asked.{Operands}
use Rattle.bits.proofs.Values.{below_nat, ltb_iff}
use Rattle.bits.proofs.Words.{pow2, word_lt, top_split, suc-sub_one}

-- the order from the signs p of a and q of b: of one sign the lower word is less, else the negative one
signed : Bool → Bool → Bool → Bool
signed true true l = l
signed true false l = true
signed false true l = false
signed false false l = l

signs : (p q : Bool) (a b w v h a' b' : ℕ) → w < h → v < h → a ≡ w + num p * h → b ≡ v + num q * h
    → a' ≡ a + num q * (h + h) → b' ≡ b + num p * (h + h) → ltb a' b' ≡ signed p q (ltb a b)
unfolding signed
signs true true a b w v h a' b' hw hv e u f k = ltb_iff a b a' b' (λ z. omega arith) (λ z. omega arith)
signs true false a b w v h a' b' hw hv e u f k = lt-ltb a' b' (omega arith)
signs false true a b w v h a' b' hw hv e u f k = le-ltb a' b' (omega arith)
signs false false a b w v h a' b' hw hv e u f k = ltb_iff a b a' b' (λ z. omega arith) (λ z. omega arith)

below_signs : (n a b : ℕ) → 1 ≤ n → a < 2 ^ n → b < 2 ^ n → below n a b ≡ signed (top n a) (top n b) (ltb a b)
unfolding top
below_signs zero a b h ha hb = absurd (omega arith)
below_signs (suc k) a b h ha hb =
    rw (below_nat, suc-sub_one)
    (signs (bit a k) (bit b k) a b (word k (bit a)) (word k (bit b)) (2 ^ k) (a + num (bit b k) * 2 ^ suc k) (b + num (bit a k) * 2 ^ suc k)
    (word_lt k (bit a)) (word_lt k (bit b)) (top_split k a ha) (top_split k b hb) (rw pow2 refl) (rw pow2 refl))

-- ---- one law for each way out of `below`
module _ (n a b : ℕ) (g : Operands n a b) (p q : Bool) (ep : p ≡ top n a) (eq : q ≡ top n b) where
  by_signs : below n a b ≡ signed p q (ltb a b)
  by_signs = below_signs n a b g.least g.left_fits g.right_fits ∙ (λ i. signed (sym ep i) (sym eq i) (ltb a b))

  pub one_sign : beq p q ≡ true → ltb a b ≡ below n a b
  unfolding signed
  one_sign e = sym (by_signs ∙ go p q e)
    where
      go : (x y : Bool) → beq x y ≡ true → signed x y (ltb a b) ≡ ltb a b
      go true true e = refl
      go false false e = refl
      go true false e = cc
      go false true e = cc

  -- the negative one is less
  pub two_signs : beq p q ≡ false → p ≡ below n a b
  unfolding signed
  two_signs e = sym (by_signs ∙ go p q e)
    where
      go : (x y : Bool) → beq x y ≡ false → signed x y (ltb a b) ≡ x
      go true true e = cc
      go false false e = cc
      go true false e = refl
      go false true e = refl
