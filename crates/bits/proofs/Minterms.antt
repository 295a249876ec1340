-- A logic vector on whole words: the sum of its minterms' words.
use Rattle.std.proofs.Common.{◌≡◌, ℕ, zero, suc, ◌+◌, ◌-◌, ◌*◌, ◌/◌, ◌%◌, ◌^◌, ◌≤◌, Bool, true, false, not, ◌&&◌, eqb, sym, refl, ap, ◌∙◌, ap₂, add-mul, add_comm, one-mul, zero-mul, div-one, arith, pow_mono}
use lib.Bits.{bit_and, and_block}
use Rattle.bits.specs.Bits.{num, bit, word}
use Rattle.bits.specs.Vector.{minterm, logic_word}
use Rattle.bits.specs.Asked.{Operands}
use Rattle.bits.proofs.Words.{word_lt, word-ext, word-bits, word-zeros, word_ones}

and_bits : (x y : Bool) → bit_and (num x) (num y) ≡ num (x && y)
and_bits true true = refl
and_bits true false = refl
and_bits false y = refl

and_word : (n : ℕ) (f g : ℕ → Bool) → bit_and (word n f) (word n g) ≡ word n (λ i. f i && g i)
unfolding word
and_word zero f g = refl
and_word (suc n) f g =
    ap₂ bit_and (add_comm (word n f) (num (f n) * 2 ^ n)) (add_comm (word n g) (num (g n) * 2 ^ n))
    ∙ and_block n (num (f n)) (num (g n)) (word n f) (word n g) (word_lt n f) (word_lt n g)
    ∙ ap₂ (λ (x y : ℕ). x * 2 ^ n + y) (and_bits (f n) (g n)) (and_word n f g)
    ∙ add_comm (num (f n && g n) * 2 ^ n) (word n (λ i. f i && g i))

spread : (h a b c d p : ℕ) → h ≡ a + b + c + d → h * p ≡ a * p + b * p + c * p + d * p
spread h a b c d p e = rw e (simp add-mul)

four : (n : ℕ) (h p q r s : ℕ → Bool) → ((i : ℕ) → num (h i) ≡ num (p i) + num (q i) + num (r i) + num (s i))
    → word n h ≡ word n p + word n q + word n r + word n s
unfolding word
four zero h p q r s e = refl
four (suc n) h p q r s e =
    let k = four n h p q r s e in
    let l = spread (num (h n)) (num (p n)) (num (q n)) (num (r n)) (num (s n)) (2 ^ n) (e n) in
    omega arith

scaled : (n : ℕ) (f : ℕ → Bool) (b : Bool) → word n (λ i. f i && b) ≡ num b * word n f
scaled n f true = word-ext n (λ i. f i && true) f (λ i h. and_true (f i)) ∙ sym (one-mul (word n f))
  where
    and_true : (x : Bool) → x && true ≡ x
    and_true true = refl
    and_true false = refl
scaled n f false = word-ext n (λ i. f i && false) (λ i. false) (λ i h. and_false (f i)) ∙ word-zeros n ∙ sym (zero-mul (word n f))
  where
    and_false : (x : Bool) → x && false ≡ false
    and_false true = refl
    and_false false = refl

module _ (n : ℕ) (f g : ℕ → Bool) where
  m0 : ℕ
  m0 = word n (λ i. f i && g i)

  m1 : ℕ
  m1 = word n (λ i. f i && not (g i))

  m2 : ℕ
  m2 = word n (λ i. not (f i) && g i)

  m3 : ℕ
  m3 = word n (λ i. not (f i) && not (g i))

  left_is : word n f ≡ m0 + m1
  unfolding m0 m1
  left_is =
      let k = four n f (λ i. f i && g i) (λ i. f i && not (g i)) (λ i. false) (λ i. false) (λ i. go (f i) (g i)) in
      let z = word-zeros n in omega arith
    where
      go : (x y : Bool) → num x ≡ num (x && y) + num (x && not y) + 0 + 0
      go true true = refl
      go true false = refl
      go false y = refl

  right_is : word n g ≡ m0 + m2
  unfolding m0 m2
  right_is =
      let k = four n g (λ i. f i && g i) (λ i. not (f i) && g i) (λ i. false) (λ i. false) (λ i. go (f i) (g i)) in
      let z = word-zeros n in omega arith
    where
      go : (x y : Bool) → num y ≡ num (x && y) + num (not x && y) + 0 + 0
      go true true = refl
      go true false = refl
      go false true = refl
      go false false = refl

  all_is : 2 ^ n - 1 ≡ m0 + m1 + m2 + m3
  unfolding m0 m1 m2 m3
  all_is =
      sym (word_ones n)
      ∙ four n (λ i. true) (λ i. f i && g i) (λ i. f i && not (g i)) (λ i. not (f i) && g i) (λ i. not (f i) && not (g i)) (λ i. go (f i) (g i))
    where
      go : (x y : Bool) → 1 ≡ num (x && y) + num (x && not y) + num (not x && y) + num (not x && not y)
      go true true = refl
      go true false = refl
      go false true = refl
      go false false = refl

  minterm_word : (v : ℕ) → word n (λ i. minterm v (f i) (g i))
      ≡ num (bit v 0) * m0 + num (bit v 1) * m1 + num (bit v 2) * m2 + num (bit v 3) * m3
  unfolding m0 m1 m2 m3
  minterm_word v =
      four n (λ i. minterm v (f i) (g i)) (λ i. (f i && g i) && bit v 0) (λ i. (f i && not (g i)) && bit v 1)
      (λ i. (not (f i) && g i) && bit v 2) (λ i. (not (f i) && not (g i)) && bit v 3) (λ i. go (f i) (g i))
      ∙ (λ i. scaled n (λ j. f j && g j) (bit v 0) i + scaled n (λ j. f j && not (g j)) (bit v 1) i
      + scaled n (λ j. not (f j) && g j) (bit v 2) i + scaled n (λ j. not (f j) && not (g j)) (bit v 3) i)
    where
      go : (x y : Bool) → num (minterm v x y)
          ≡ num ((x && y) && bit v 0) + num ((x && not y) && bit v 1) + num ((not x && y) && bit v 2) + num ((not x && not y) && bit v 3)
      go true true = omega arith
      go true false = omega arith
      go false true = omega arith
      go false false = omega arith

-- the minterms' words as the code finds them
module _ (n a b : ℕ) (g : Operands n a b) where
  both_is : bit_and a b ≡ m0 n (bit a) (bit b)
  unfolding m0
  both_is =
      ap₂ bit_and (sym (word-bits n a g.left_fits)) (sym (word-bits n b g.right_fits)) ∙ and_word n (bit a) (bit b)

  left_parts : a ≡ m0 n (bit a) (bit b) + m1 n (bit a) (bit b)
  left_parts = sym (word-bits n a g.left_fits) ∙ left_is n (bit a) (bit b)

  right_parts : b ≡ m0 n (bit a) (bit b) + m2 n (bit a) (bit b)
  right_parts = sym (word-bits n b g.right_fits) ∙ right_is n (bit a) (bit b)

  pub union_fits : (bit_and a b ≤ a) × (a + (b - bit_and a b) ≤ 2 ^ n - 1) × (2 ^ n ≤ 2 ^ 64)
  union_fits =
      let x = both_is in
      let u = left_parts in
      let w = right_parts in
      let z = all_is n (bit a) (bit b) in
      (omega arith, omega arith, pow_mono {i = n} {j = 64} g.most)

  module _ (v : ℕ) where
    by_minterms : num (bit v 0) * bit_and a b + num (bit v 1) * (a - bit_and a b) + num (bit v 2) * (b - bit_and a b)
        + num (bit v 3) * (2 ^ n - 1 - a - (b - bit_and a b)) ≡ logic_word n v a b
    by_minterms =
        let e = both_is in
        let u = left_parts in
        let w = right_parts in
        let z = all_is n (bit a) (bit b) in
        let x1 : a - bit_and a b ≡ m1 n (bit a) (bit b) = omega arith in
        let x2 : b - bit_and a b ≡ m2 n (bit a) (bit b) = omega arith in
        let x3 : 2 ^ n - 1 - a - (b - bit_and a b) ≡ m3 n (bit a) (bit b) = omega arith in
        (λ i. num (bit v 0) * e i + num (bit v 1) * x1 i + num (bit v 2) * x2 i + num (bit v 3) * x3 i)
        ∙ sym (minterm_word n (bit a) (bit b) v)

    pub by_gates : (m k0 k1 k2 k3 : ℕ) → m ≡ 2 ^ n - 1
        → (k0 ≡ num (eqb (v % 2) 1) * bit_and a b) × (k0 ≤ bit_and a b)
        → (k1 ≡ num (eqb (v / 2 % 2) 1) * (a - bit_and a b)) × (k1 ≤ a - bit_and a b)
        → (k2 ≡ num (eqb (v / 4 % 2) 1) * (b - bit_and a b)) × (k2 ≤ b - bit_and a b)
        → (k3 ≡ num (eqb (v / 8 % 2) 1) * (m - a - (b - bit_and a b))) × (k3 ≤ m - a - (b - bit_and a b))
        → k0 + k1 + k2 + k3 ≡ logic_word n v a b
    unfolding bit
    by_gates m k0 k1 k2 k3 em e0 e1 e2 e3 =
        (λ i. (e0.0 ∙ ap (λ (z : ℕ). num (eqb (z % 2) 1) * bit_and a b) (sym (div-one v))) i + e1.0 i + e2.0 i
        + (e3.0 ∙ ap (λ (z : ℕ). num (eqb (v / 8 % 2) 1) * (z - a - (b - bit_and a b))) em) i)
        ∙ by_minterms
