-- The ports of a function from its bits, lowest first: what the lower places leave, and the top bits.
use mathlib.Core.Path.{◌≡◌, refl, sym, ap, ap₂, ◌∙◌}
use Prim.Native.Nat.{ℕ, zero, suc, ◌+◌, ◌*◌, ◌%◌, ◌^◌, ◌<◌}
use native.Mathlib.Nat.{add_comm}
use native.Mathlib.Omega.{arith}
use mathlib.Core.Bool.{Bool, true, false, ◌||◌}
use lib.Dec.{leb, ltb}
use lib.Pow.{low}
use borrow.Author.Tests.{lt-ltb, le-ltb}
use Rattle.std.specs.Prelude.{if◌then◌else◌}
use Rattle.bits.specs.Bits.{num, exor, word}
use Rattle.bits.specs.Wiring.{wired, carried}
use Rattle.bits.specs.Sum.{overflows, sum}
use Rattle.bits.specs.Order.{below, compared}
use Rattle.bits.specs.Vector.{minterm}
use Rattle.alu.specs.Function.{ports}
use Rattle.bits.specs.declared.Ports.{Ports}
use Rattle.alu.specs.declared.Kind.{Kind}
use Rattle.alu.specs.declared.Kind.TheVariants.{Arithmetic, Logic, Comparison}
use Rattle.bits.proofs.Values.{below_nat, overflows-nat}
use Rattle.bits.proofs.Words.{pow2, word_lt, word-ext, bit_word, suc-sub_one, top-word, word-zeros, word-not, word_ones}
use Rattle.bits.proofs.Sums.{or_first, or_second, or_neither, reaches}
use Rattle.bits.proofs.Values.{ltb_iff}
use Rattle.automaton.specs.Place.{wire, majority, parity, less_at, start, step, out_bit, top_carry, top_overflow, top_order}
use Rattle.automaton.specs.declared.Ripple.{Ripple}

-- ---- wirings, bit by bit

pub wired-word : (n code : ℕ) (f g : ℕ → Bool) → wired n code (word n f) (word n g) ≡ word n (λ i. wire code (f i) (g i))
wired-word n zero f g = sym (word-zeros n)
wired-word n (suc zero) f g = sym (word_ones n)
wired-word n (suc (suc zero)) f g = refl
wired-word n (suc (suc (suc zero))) f g = sym (word-not n f)
wired-word n (suc (suc (suc (suc zero)))) f g = refl
wired-word n (suc (suc (suc (suc (suc zero))))) f g = sym (word-not n g)
wired-word n (suc (suc (suc (suc (suc (suc k)))))) f g = sym (word-zeros n)

-- ---- sums

pub carries : (ℕ → Bool) → (ℕ → Bool) → Bool → ℕ → Bool
carries f g c zero = c
carries f g c (suc i) = majority (f i) (g i) (carries f g c i)

pub sums : (ℕ → Bool) → (ℕ → Bool) → Bool → ℕ → Bool
sums f g c i = parity (f i) (g i) (carries f g c i)

full : (x y c : Bool) (a b s p : ℕ) (k : ℕ) → a + b + k ≡ s + num c * p
    → a + num x * p + (b + num y * p) + k ≡ s + num (parity x y c) * p + num (majority x y c) * (p + p)
full true true true a b s p k e = omega arith
full true true false a b s p k e = omega arith
full true false true a b s p k e = omega arith
full true false false a b s p k e = omega arith
full false true true a b s p k e = omega arith
full false true false a b s p k e = omega arith
full false false true a b s p k e = omega arith
full false false false a b s p k e = omega arith

pub adder : (n : ℕ) (f g : ℕ → Bool) (c : Bool)
    → word n f + word n g + num c ≡ word n (sums f g c) + num (carries f g c n) * 2 ^ n
unfolding word carries sums
adder zero f g c = omega arith
adder (suc n) f g c =
    full (f n) (g n) (carries f g c n) (word n f) (word n g) (word n (sums f g c)) (2 ^ n) (num c) (adder n f g c)
    ∙ ap (λ (q : ℕ). word n (sums f g c) + num (parity (f n) (g n) (carries f g c n)) * 2 ^ n + num (majority (f n) (g n) (carries f g c n)) * q) (sym (pow2 n))

over : (x y c : Bool) (t d p s : ℕ) → s < p → t ≡ s + num c * p + (num x * p + num y * p) → d ≡ num x * (p + p) + num y * (p + p)
    → ltb (t + p) d || leb (p + d) t ≡ exor c (majority x y c)
over true true true t d p s h e u = or_neither (t + p) d (p + d) t (omega arith) (omega arith)
over true true false t d p s h e u = or_first (t + p) d (p + d) t (omega arith)
over true false true t d p s h e u = or_neither (t + p) d (p + d) t (omega arith) (omega arith)
over true false false t d p s h e u = or_neither (t + p) d (p + d) t (omega arith) (omega arith)
over false true true t d p s h e u = or_neither (t + p) d (p + d) t (omega arith) (omega arith)
over false true false t d p s h e u = or_neither (t + p) d (p + d) t (omega arith) (omega arith)
over false false true t d p s h e u = or_second (t + p) d (p + d) t (omega arith) (omega arith)
over false false false t d p s h e u = or_neither (t + p) d (p + d) t (omega arith) (omega arith)

rests : (c : Bool) (t s n : ℕ) → s < 2 ^ n → t ≡ s + num c * 2 ^ n → t % 2 ^ n ≡ s
rests c t s n h e = rw e (rw add_comm (low (num c) n h))

overflows-word : (k : ℕ) (f g : ℕ → Bool) (c : Bool)
    → overflows (suc k) (word (suc k) f) (word (suc k) g) c ≡ exor (carries f g c k) (carries f g c (suc k))
unfolding word carries
overflows-word k f g c =
    let e = adder k f g c in
    rw (overflows-nat, suc-sub_one k, top-word k f, top-word k g)
    (over (f k) (g k) (carries f g c k) _ _ (2 ^ k) (word k (sums f g c)) (word_lt k (sums f g c)) (omega arith) (rw pow2 refl))

pub sum-word : (k : ℕ) (f g : ℕ → Bool) (c : Bool)
    → sum (suc k) (word (suc k) f) (word (suc k) g) c
    ≡ record { o0 = word (suc k) (sums f g c); ocout = carries f g c (suc k); ovf = exor (carries f g c k) (carries f g c (suc k)); o1 = false }
unfolding sum
sum-word k f g c =
    let e = adder (suc k) f g c in
    let l = word_lt (suc k) (sums f g c) in
    λ i. record {
      o0 = rests (carries f g c (suc k)) _ _ (suc k) l e i;
      ocout = reaches (carries f g c (suc k)) _ _ _ l e i;
      ovf = overflows-word k f g c i;
      o1 = false;
    }

-- ---- order

unsigned : (x y : Bool) (a b p a' b' : ℕ) → a < p → b < p → a' ≡ a + num x * p → b' ≡ b + num y * p → ltb a' b' ≡ less_at x y (ltb a b)
unsigned true true a b p a' b' h l e u = ltb_iff a b a' b' (λ v. omega arith) (λ v. omega arith)
unsigned true false a b p a' b' h l e u = le-ltb a' b' (omega arith)
unsigned false true a b p a' b' h l e u = lt-ltb a' b' (omega arith)
unsigned false false a b p a' b' h l e u = ltb_iff a b a' b' (λ v. omega arith) (λ v. omega arith)

signed : (x y : Bool) (a b p a' b' : ℕ) → a < p → b < p
    → a' ≡ a + num x * p + num y * (p + p) → b' ≡ b + num y * p + num x * (p + p) → ltb a' b' ≡ less_at y x (ltb a b)
signed true true a b p a' b' h l e u = ltb_iff a b a' b' (λ v. omega arith) (λ v. omega arith)
signed true false a b p a' b' h l e u = lt-ltb a' b' (omega arith)
signed false true a b p a' b' h l e u = le-ltb a' b' (omega arith)
signed false false a b p a' b' h l e u = ltb_iff a b a' b' (λ v. omega arith) (λ v. omega arith)

pub lesses : (ℕ → Bool) → (ℕ → Bool) → ℕ → Bool
lesses f g zero = false
lesses f g (suc i) = less_at (f i) (g i) (lesses f g i)

lesses_word : (n : ℕ) (f g : ℕ → Bool) → ltb (word n f) (word n g) ≡ lesses f g n
unfolding word lesses
lesses_word zero f g = refl
lesses_word (suc n) f g =
    unsigned (f n) (g n) (word n f) (word n g) (2 ^ n) _ _ (word_lt n f) (word_lt n g) refl refl ∙ ap (less_at (f n) (g n)) (lesses_word n f g)

below_word : (k : ℕ) (f g : ℕ → Bool) → below (suc k) (word (suc k) f) (word (suc k) g) ≡ less_at (g k) (f k) (lesses f g k)
unfolding word
below_word k f g =
    rw (below_nat, top-word k f, top-word k g, pow2 k)
    (signed (f k) (g k) (word k f) (word k g) (2 ^ k) _ _ (word_lt k f) (word_lt k g) refl refl ∙ ap (less_at (g k) (f k)) (lesses_word k f g))

-- ---- a side

abbrev pub ripples : Kind → (ℕ → Bool) → (ℕ → Bool) → Bool → ℕ → Ripple
ripples K f g c zero = start K c
ripples K f g c (suc i) = step K (ripples K f g c i) (f i) (g i)

abbrev pub outs : Kind → (ℕ → Bool) → (ℕ → Bool) → Bool → ℕ → Bool
outs K f g c i = out_bit K (ripples K f g c i) (f i) (g i)

-- the ports at width k + 1 from what the k low bits leave and the top bits
abbrev pub ports_from : Kind → (ℕ → Bool) → (ℕ → Bool) → Bool → ℕ → Ports
ports_from K f g c k =
    record {
      o0 = word (suc k) (outs K f g c);
      ocout = top_carry K (ripples K f g c k) (f k) (g k);
      ovf = top_overflow K (ripples K f g c k) (f k) (g k);
      o1 = top_order K (ripples K f g c k) (f k) (g k);
    }

sum-ripples : (p q k : ℕ) (f g : ℕ → Bool) (c : Bool) (i : ℕ)
    → (ripples (Arithmetic p q k) f g c i).lo ≡ carries (λ j. wire p (f j) (g j)) (λ j. wire q (f j) (g j)) (carried k c) i
unfolding carries
sum-ripples p q k f g c zero = refl
sum-ripples p q k f g c (suc i) = ap (majority (wire p (f i) (g i)) (wire q (f i) (g i))) (sum-ripples p q k f g c i)

less_ripples : (l e m : Bool) (f g : ℕ → Bool) (c : Bool) (i : ℕ) → (ripples (Comparison l e m) f g c i).lo ≡ lesses f g i
unfolding lesses
less_ripples l e m f g c zero = refl
less_ripples l e m f g c (suc i) = ap (less_at (f i) (g i)) (less_ripples l e m f g c i)

greater_ripples : (l e m : Bool) (f g : ℕ → Bool) (c : Bool) (i : ℕ) → (ripples (Comparison l e m) f g c i).hi ≡ lesses g f i
unfolding lesses
greater_ripples l e m f g c zero = refl
greater_ripples l e m f g c (suc i) = ap (less_at (g i) (f i)) (greater_ripples l e m f g c i)

pub ports-word : (K : Kind) (k : ℕ) (f g : ℕ → Bool) (c : Bool)
    → ports K (suc k) (word (suc k) f) (word (suc k) g) c ≡ ports_from K f g c k
unfolding ports sums carries
ports-word (Arithmetic p q κ) k f g c =
    let F : ℕ → Bool = λ j. wire p (f j) (g j) in
    let G : ℕ → Bool = λ j. wire q (f j) (g j) in
    rw (wired-word (suc k) p f g, wired-word (suc k) q f g)
    (sum-word k F G (carried κ c)
    ∙ (λ i. record {
      o0 = word-ext (suc k) (sums F G (carried κ c)) (outs (Arithmetic p q κ) f g c) (λ j h. ap (parity (F j) (G j)) (sym (sum-ripples p q κ f g c j))) i;
      ocout = majority (F k) (G k) (sym (sum-ripples p q κ f g c k) i);
      ovf = exor (sym (sum-ripples p q κ f g c k) i) (majority (F k) (G k) (sym (sum-ripples p q κ f g c k) i));
      o1 = false;
    }))
ports-word (Logic v) k f g c =
    λ i. record {
      o0 = word-ext (suc k) _ (λ j. minterm v (f j) (g j)) (λ j h. ap₂ (minterm v) (bit_word (suc k) f j h) (bit_word (suc k) g j h)) i;
      ocout = false;
      ovf = false;
      o1 = false;
    }
ports-word (Comparison l e m) k f g c =
    let o : compared (suc k) l e m (word (suc k) f) (word (suc k) g)
    ≡ top_order (Comparison l e m) (ripples (Comparison l e m) f g c k) (f k) (g k) =
    ap₂ (λ (u v : Bool). if u then l else if v then m else e)
    (below_word k f g ∙ ap (less_at (g k) (f k)) (sym (less_ripples l e m f g c k)))
    (below_word k g f ∙ ap (less_at (f k) (g k)) (sym (greater_ripples l e m f g c k))) in
    λ i. record {
      o0 = sym (word-zeros (suc k)) i;
      ocout = false;
      ovf = false;
      o1 = o i;
    }
