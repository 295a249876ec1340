-- O0 is a word of the width, whatever the function; and what a width's test says.
use mathlib.Core.Path.{◌≡◌, refl, sym, ◌∙◌}
use Prim.Native.Nat.{ℕ, ◌^◌, ◌<◌, ◌≤◌}
use native.Mathlib.Nat.{mod-lt}
use mathlib.Core.Bool.{Bool, true, false, not, false≢true}
use lib.Dec.{ltb}
use lib.Pow.{pow_pos}
use borrow.Author.Tests.{le-ltb, le-leb, leb-true, ltb-false, not-false}
use Rattle.words.proofs.Choices.{either}
use Rattle.bits.specs.Bits.{bit}
use Rattle.alu.specs.Function.{ports}
use Rattle.bits.specs.Sum.{sum}
use Rattle.bits.specs.Vector.{minterm}
use Rattle.alu.specs.Range.{is_width}
use Rattle.bits.specs.Asked.{Width}
use Rattle.alu.specs.declared.Kind.{Kind}
use Rattle.alu.specs.declared.Kind.TheVariants.{Arithmetic, Logic, Comparison}
use Rattle.bits.proofs.Words.{word_lt}

pub ports_lt : (K : Kind) (n a b : ℕ) (c : Bool) → (ports K n a b c).o0 < 2 ^ n
unfolding ports sum
ports_lt (Arithmetic p q k) n a b c = mod-lt _ (pow_pos n)
ports_lt (Logic v) n a b c = word_lt n (λ i. minterm v (bit a i) (bit b i))
ports_lt (Comparison l e g) n a b c = pow_pos n

pub width_of : (n : ℕ) → is_width n ≡ true → Width n
unfolding is_width
width_of n =
    either (λ b. b ≡ true → Width n) (ltb n 1) (λ _ e. absurd (false≢true e))
    (λ h e. record { least = ltb-false n 1 h; most = leb-true n 64 e })

-- and the other way
pub is_width_lem : (n : ℕ) → 1 ≤ n → n ≤ 64 → is_width n ≡ true
unfolding is_width
is_width_lem n g h = rw (le-ltb n 1 g, le-leb n 64 h) refl

pub has_width : (n : ℕ) (q : Bool) → q ≡ is_width n → not q ≡ false → Width n
has_width n q e h = width_of n (sym e ∙ not-false q h)
