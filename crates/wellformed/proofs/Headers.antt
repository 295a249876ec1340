-- The header of a job: a width and the bit that asks for the book take up the whole content of its word.
use mathlib.Core.Path.{◌≡◌, refl, ap, ◌∙◌}
use mathlib.Core.Bool.{Bool, true, false}
use Prim.Native.Nat.{ℕ, zero, suc, ◌+◌, ◌*◌, ◌^◌, ◌<◌, ◌≤◌}
use native.Mathlib.Omega.{arith}
use lib.Dec.{eqb, ltb}
use borrow.Author.Tests.{ltb-true, lt-ltb}
use Rattle.words.specs.Field.{field, content_of}
use Rattle.words.proofs.Choices.{and_split, and_join}
use Rattle.bits.specs.Bits.{num}
use Rattle.bits.specs.Asked.{Width}
use Rattle.alu.specs.Range.{is_width}
use Rattle.alu.proofs.Shown.{width_of, is_width_lem}
use Rattle.grammar.specs.Reading.{header_fits}
use Rattle.sequence.specs.declared.File.TheVariants.{AsJob}

-- a bit's number is the bit
bit-of : (k : ℕ) → k < 2 → num (eqb k 1) ≡ k
bit-of zero h = refl
bit-of (suc zero) h = refl
bit-of (suc (suc k)) h = absurd (omega arith)

pub header_whole : (w : ℕ) → header_fits AsJob w ≡ true
    → Width (field w 0 7) × (content_of w ≡ field w 0 7 + num (eqb (field w 7 1) 1) * 2 ^ 7)
header_whole w h =
    let p = and_split (ltb (content_of w) (2 ^ 8)) (is_width (field w 0 7)) h in
    let small = ltb-true (content_of w) (2 ^ 8) p.0 in
    (width_of (field w 0 7) p.1, omega (arith, small, bit-of (field w 7 1) (omega arith)))

module _ (w n : ℕ) (b : Bool) (e : content_of w ≡ n + num b * 2 ^ 7) (least : 1 ≤ n) (most : n ≤ 64) where
  bit_in : (c : Bool) → b ≡ c → field w 7 1 ≡ num c
  bit_in true eb = let z = ap num eb in omega (arith, e, z)
  bit_in false eb = let z = ap num eb in omega (arith, e, z)

  pub the_width : field w 0 7 ≡ n
  the_width = omega (arith, e, bit_in b refl)

  pub the_book : eqb (field w 7 1) 1 ≡ b
  the_book = ap (λ (x : ℕ). eqb x 1) (bit_in b refl) ∙ back b
    where
      back : (c : Bool) → eqb (num c) 1 ≡ c
      back true = refl
      back false = refl

  pub fits_a_job : header_fits AsJob w ≡ true
  fits_a_job =
      and_join (lt-ltb (content_of w) (2 ^ 8) (omega (arith, e, the_width, bit_in b refl)))
      (ap is_width the_width ∙ is_width_lem n least most)
