-- Fields packed and taken apart again are the same fields; a word taken apart and packed again is the same word.
use mathlib.Core.Path.{◌≡◌, sym}
use Prim.Native.Nat.{ℕ, ◌+◌, ◌^◌, ◌<◌}
use native.Mathlib.Nat.{div-one}
use native.Mathlib.Omega.{arith}
use lib.Pow.{recompose, mod-pow-add}
use Rattle.words.specs.Field.{field, kind_of}
use Rattle.recipe.specs.Fields.{fields_of, packed}
use Rattle.recipe.specs.Asked.{Fit}
use Rattle.recipe.specs.declared.Fields.{Fields}

pub kind_back : (k : ℕ) (r : Fields) → Fit k r → kind_of (packed k r) ≡ k
kind_back k r h = omega arith

pub fields_back : (k : ℕ) (r : Fields) → Fit k r → fields_of (packed k r) ≡ r
fields_back k r h =
    let source : field (packed k r) 23 5 ≡ r.source = omega arith in
    let target : field (packed k r) 18 5 ≡ r.target = omega arith in
    let left : field (packed k r) 15 3 ≡ r.left = omega arith in
    let right : field (packed k r) 12 3 ≡ r.right = omega arith in
    let carry : field (packed k r) 10 2 ≡ r.carry = omega arith in
    let main : field (packed k r) 8 2 ≡ r.main = omega arith in
    let cout : field (packed k r) 6 2 ≡ r.cout = omega arith in
    let ovf : field (packed k r) 5 1 ≡ r.ovf = omega arith in
    let blank : field (packed k r) 4 1 ≡ r.blank = omega arith in
    let code : field (packed k r) 0 4 ≡ r.code = omega arith in
    λ i. record {
      source = source i;
      target = target i;
      left = left i;
      right = right i;
      carry = carry i;
      main = main i;
      cout = cout i;
      ovf = ovf i;
      blank = blank i;
      code = code i;
    }

-- a word is the sum of its fields at their weights, taken off from the top
sum : (a b c d e f g h i j k : ℕ) {w x₁ x₂ x₃ x₄ x₅ x₆ x₇ x₈ x₉ : ℕ} → w ≡ a + x₁ → x₁ ≡ b + x₂ → x₂ ≡ c + x₃ → x₃ ≡ d + x₄ → x₄ ≡ e + x₅
    → x₅ ≡ f + x₆ → x₆ ≡ g + x₇ → x₇ ≡ h + x₈ → x₈ ≡ i + x₉ → x₉ ≡ j + k → a + b + c + d + e + f + g + h + i + j + k ≡ w
sum a b c d e f g h i j k p₀ p₁ p₂ p₃ p₄ p₅ p₆ p₇ p₈ p₉ = omega arith

pub word_back : (w : ℕ) → w < 2 ^ 32 → packed (kind_of w) (fields_of w) ≡ w
word_back w h =
    rw div-one
    (sum _ _ _ _ _ _ _ _ _ _ _
    (sym (recompose 4 28 h)) (mod-pow-add w 5 23) (mod-pow-add w 5 18) (mod-pow-add w 3 15) (mod-pow-add w 3 12)
    (mod-pow-add w 2 10) (mod-pow-add w 2 8) (mod-pow-add w 2 6) (mod-pow-add w 1 5) (mod-pow-add w 1 4))
