-- A sum of two words and a carry: what is left after the cut, the carry out, and the overflow from the signs.
use Rattle.std.proofs.Common.{◌≡◌, ℕ, zero, suc, ◌+◌, ◌-◌, ◌*◌, ◌%◌, ◌^◌, ◌<◌, ◌≤◌, Bool, true, false, ◌&&◌, ◌||◌, ltb, leb, sym, refl, ap, ◌∙◌, ap₂, mod-lt, mod-eq_of_lt, arith, pow_pos, pow_mono, le-ltb, lt-ltb, le-leb}
use native.Mathlib.Nat.{mod-add-mod}
use native.Mathlib.Decide.{dec_lt}
use mathlib.Core.Bool.{beq}
use lib.Pow.{low}
use lib.Bits.{bit_and, and_mask}
use borrow.Author.Tests.{lt-leb}
use Rattle.bits.specs.Bits.{num, exor, bit, top, word}
use Rattle.bits.specs.Sum.{overflows, sum}
use Rattle.bits.specs.Asked.{Operands}
use Rattle.bits.specs.Adder.{cut}
use Rattle.bits.specs.declared.Ports.{Ports}
use Rattle.bits.specs.declared.adder.CutSum.{CutSum}
use Rattle.bits.proofs.Values.{overflows-nat}
use Rattle.bits.proofs.Words.{pow2, word_lt, top_split, suc-sub_one}

pub num-lt : (b : Bool) → num b < 2
num-lt true = omega arith
num-lt false = omega arith

-- ---- a test of two bounds

pub or_first : (m n p q : ℕ) → m < n → ltb m n || leb p q ≡ true
or_first m n p q h = rw (lt-ltb m n h) refl

pub or_second : (m n p q : ℕ) → n ≤ m → p ≤ q → ltb m n || leb p q ≡ true
or_second m n p q h l = rw (le-ltb m n h, le-leb p q l) refl

pub or_neither : (m n p q : ℕ) → n ≤ m → q < p → ltb m n || leb p q ≡ false
or_neither m n p q h l = rw (le-ltb m n h, lt-leb p q l) refl

-- ---- the carry out

pub reaches : (c : Bool) (t s p : ℕ) → s < p → t ≡ s + num c * p → leb p t ≡ c
reaches true t s p h e = le-leb p t (omega arith)
reaches false t s p h e = lt-leb p t (omega arith)

carry_out_lem : (n t : ℕ) → t < 2 ^ n + 2 ^ n → (q : Bool) × (t ≡ t % 2 ^ n + num q * 2 ^ n)
carry_out_lem n t h =
    elim (dec_lt t (2 ^ n)) [
      | yes l ↦ (false, sym (omega (arith, mod-eq_of_lt l)))
      | no l ↦
          let d = t - 2 ^ n in
          let dl : d < 2 ^ n = omega arith in
          let e : t ≡ 1 * 2 ^ n + d = omega arith in
          (true, e ∙ omega (arith, ap (λ (z : ℕ). z % 2 ^ n) e ∙ low 1 n dl))
    ]

same_cut : {w w' : ℕ} {k k' : Bool} → w ≡ w' → k ≡ k' → ◌≡◌ {A = CutSum} (record { word = w; carry = k }) (record { word = w'; carry = k' })
same_cut p q = λ i. record { word = p i; carry = q i }

past_ones : (t m p : ℕ) → m ≡ p - 1 → 0 < p → ltb m t ≡ leb p t
past_ones t m p e h =
    elim (dec_lt m t) [
      | yes l ↦ lt-ltb m t l ∙ sym (le-leb p t (omega arith))
      | no l ↦ let k : t ≤ m = omega arith in le-ltb m t k ∙ sym (lt-leb p t (omega arith))
    ]

-- what the code adds, wrapping at 2 ^ 64 twice
module _ (n a b : ℕ) (c : Bool) (t k s : ℕ) (g : Operands n a b)
    (et : t ≡ (a + b) % 2 ^ 64) (ek : k ≡ num c) (es : s ≡ (t + k) % 2 ^ 64) where
  sum_wraps : s ≡ (a + b + num c) % 2 ^ 64
  sum_wraps = es ∙ ap₂ (λ (x y : ℕ). (x + y) % 2 ^ 64) et ek ∙ mod-add-mod (a + b) (2 ^ 64) (num c)

  pub narrow : (m : ℕ) → n < 64 → m ≡ 2 ^ n - 1 → record { word = bit_and s m; carry = ltb m s } ≡ cut n (a + b + num c)
  narrow m h e =
      let p : 2 ^ n ≤ 2 ^ 63 = pow_mono {i = n} {j = 63} (omega arith) in
      let hl : a < 2 ^ 63 = omega arith in
      let hr : b < 2 ^ 63 = omega arith in
      let exact : s ≡ a + b + num c = sum_wraps ∙ mod-eq_of_lt (omega (arith, num-lt c)) in
      same_cut (ap (bit_and s) e ∙ and_mask s n ∙ ap (λ (x : ℕ). x % 2 ^ n) exact)
      (ap (ltb m) exact ∙ past_ones (a + b + num c) m (2 ^ n) e (pow_pos n))

-- ---- overflow, from the signs of the words and of their sum

over-signs : (p q s u : Bool) (a b o c h t d : ℕ) → a < h → b < h → o < h → c < 2
    → t ≡ a + num p * h + (b + num q * h) + c → t ≡ o + num s * h + num u * (h + h) → d ≡ num p * (h + h) + num q * (h + h)
    → ltb (t + h) d || leb (h + d) t ≡ beq p q && exor p s
over-signs true true true true a b o c h t d ha hb ho hc e k f = or_neither (t + h) d (h + d) t (omega arith) (omega arith)
over-signs true true true false a b o c h t d ha hb ho hc e k f = or_neither (t + h) d (h + d) t (omega arith) (omega arith)
over-signs true true false true a b o c h t d ha hb ho hc e k f = or_first (t + h) d (h + d) t (omega arith)
over-signs true true false false a b o c h t d ha hb ho hc e k f = or_first (t + h) d (h + d) t (omega arith)
over-signs true false true true a b o c h t d ha hb ho hc e k f = or_neither (t + h) d (h + d) t (omega arith) (omega arith)
over-signs true false true false a b o c h t d ha hb ho hc e k f = or_neither (t + h) d (h + d) t (omega arith) (omega arith)
over-signs true false false true a b o c h t d ha hb ho hc e k f = or_neither (t + h) d (h + d) t (omega arith) (omega arith)
over-signs true false false false a b o c h t d ha hb ho hc e k f = or_neither (t + h) d (h + d) t (omega arith) (omega arith)
over-signs false true true true a b o c h t d ha hb ho hc e k f = or_neither (t + h) d (h + d) t (omega arith) (omega arith)
over-signs false true true false a b o c h t d ha hb ho hc e k f = or_neither (t + h) d (h + d) t (omega arith) (omega arith)
over-signs false true false true a b o c h t d ha hb ho hc e k f = or_neither (t + h) d (h + d) t (omega arith) (omega arith)
over-signs false true false false a b o c h t d ha hb ho hc e k f = or_neither (t + h) d (h + d) t (omega arith) (omega arith)
over-signs false false true true a b o c h t d ha hb ho hc e k f = or_second (t + h) d (h + d) t (omega arith) (omega arith)
over-signs false false true false a b o c h t d ha hb ho hc e k f = or_second (t + h) d (h + d) t (omega arith) (omega arith)
over-signs false false false true a b o c h t d ha hb ho hc e k f = or_neither (t + h) d (h + d) t (omega arith) (omega arith)
over-signs false false false false a b o c h t d ha hb ho hc e k f = or_neither (t + h) d (h + d) t (omega arith) (omega arith)

overflow_signs : (n a b o : ℕ) (c u : Bool) → 1 ≤ n → a < 2 ^ n → b < 2 ^ n → o < 2 ^ n → a + b + num c ≡ o + num u * 2 ^ n
    → beq (top n a) (top n b) && exor (top n a) (top n o) ≡ overflows n a b c
unfolding top
overflow_signs zero a b o c u h ha hb ho e = absurd (omega arith)
overflow_signs (suc k) a b o c u h ha hb ho e =
    rw (overflows-nat, suc-sub_one)
    (sym (over-signs (bit a k) (bit b k) (bit o k) u (word k (bit a)) (word k (bit b)) (word k (bit o)) (num c) (2 ^ k) (a + b + num c)
    (num (bit a k) * 2 ^ suc k + num (bit b k) * 2 ^ suc k)
    (word_lt k (bit a)) (word_lt k (bit b)) (word_lt k (bit o)) (num-lt c)
    (ap₂ (λ (x y : ℕ). x + y + num c) (top_split k a ha) (top_split k b hb))
    (e ∙ ap₂ (λ (x y : ℕ). x + num u * y) (top_split k o ho) (pow2 k))
    (rw pow2 refl)))

pub cut-lt : (n x : ℕ) (s : CutSum) → s ≡ cut n x → s.word < 2 ^ n
cut-lt n x s e = rw e (mod-lt x (pow_pos n))

-- the ports of a sum from the parts that the code finds
pub sum_parts : (n a b : ℕ) (c : Bool) (s : CutSum) (p q r v : Bool) → Operands n a b → s ≡ cut n (a + b + num c)
    → p ≡ top n a → q ≡ top n b → r ≡ top n s.word → v ≡ (beq p q && exor p r)
    → ◌≡◌ {A = Ports} (record { o0 = s.word; ocout = s.carry; ovf = v; o1 = false }) (sum n a b c)
unfolding sum
sum_parts n a b c s p q r v g es ep eq er ev =
    let t : ℕ = a + b + num c in
    let u = carry_out_lem n t (omega (arith, num-lt c)) in
    let ew : s.word ≡ t % 2 ^ n = ap (λ (z : CutSum). z.word) es in
    let hw = cut-lt n t s es in
    let total : t ≡ s.word + num u.0 * 2 ^ n = u.1 ∙ ap (λ (z : ℕ). z + num u.0 * 2 ^ n) (sym ew) in
    λ i. record {
      o0 = ew i;
      ocout = ap (λ (z : CutSum). z.carry) es i;
      ovf =
          (ev ∙ (λ j. beq (ep j) (eq j) && exor (ep j) (er j))
          ∙ overflow_signs n a b s.word c u.0 g.least g.left_fits g.right_fits hw total) i;
      o1 = false;
    }
