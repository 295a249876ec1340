-- The digits with which a word's line begins are read back as the word: what show_words prints, cut to the digits, packs to the same words.
use mathlib.Core.Path.{◌≡◌, refl, sym, ap, ◌∙◌}
use mathlib.Core.Bool.{Bool, true, false}
use mathlib.Core.List.{List, [], ◌∷◌, ◌++◌, append_assoc, append-nil}
use Prim.Native.Nat.{ℕ, zero, suc, ◌+◌, ◌*◌, ◌/◌, ◌%◌, ◌^◌, ◌≤◌, ◌<◌}
use native.Mathlib.Nat.{mod-lt}
use native.Mathlib.Omega.{arith}
use borrow.Author.Tests.{le-leb, lt-leb, ltb-true, ltb-false}
use lib.Dec.{ltb}
use lib.ListN.{length, take}
use lib.Seq.{take-append_seam}
use Rattle.std.specs.Prelude.{Some, if◌then◌else◌}
use Rattle.std.specs.Option.{option_and_then}
use Rattle.text.specs.Text.{bytes, glyph, digits, hexadecimal}
use Rattle.text.proofs.Digits.{digits_length}
use Rattle.hexadecimal.specs.Hex.{digit_of, between, ended, with_digit, digits_left, word_of, step_in, word_in}
use Rattle.hexadecimal.specs.declared.Hex.{Hex}
use Rattle.hexadecimal.specs.declared.Step.TheVariants.{Word}
use Rattle.hexadecimal.proofs.Digits.{word_read}
use Rattle.describe.specs.Describe.{meaning_text, word_line}

low_digit : (d : ℕ) → d < 10 → digit_of (48 + d) ≡ Some d
unfolding digit_of
low_digit d h = rw (le-leb 48 (48 + d) (omega arith), le-leb (48 + d) 57 (omega arith)) (ap Some (omega arith))

high_digit : (d : ℕ) → 10 ≤ d → d < 16 → digit_of (55 + d) ≡ Some d
unfolding digit_of
high_digit d h l =
    rw (
      le-leb 48 (55 + d) (omega arith),
      lt-leb (55 + d) 57 (omega arith),
      le-leb 65 (55 + d) (omega arith),
      le-leb (55 + d) 70 (omega arith),
    ) (ap Some (omega arith))

glyph-read : (d : ℕ) → d < 16 → digit_of (glyph d) ≡ Some d
glyph-read d l = by_size (ltb d 10) refl
  where
    by_size : (b : Bool) → ltb d 10 ≡ b → digit_of (if b then 48 + d else 55 + d) ≡ Some d
    by_size true e = low_digit d (ltb-true d 10 e)
    by_size false e = high_digit d (ltb-false d 10 e) l

-- so many digits of a value
abbrev so_far : ℕ → ℕ → Hex
so_far k n = record { digits = k; value = n; comment = false }

-- one digit more
more_read : (k n d : ℕ) (rest : List ℕ) → k < 8 → n < 2 ^ 28 → d < 16
    → digits_left (so_far k n) (glyph d ∷ rest) ≡ digits_left (so_far (k + 1) (n * 16 + d)) rest
unfolding digits_left with_digit
more_read k n d rest h l m =
    let e : n % 2 ^ 28 * 16 + d ≡ n * 16 + d = omega arith in
    rw (lt-leb 8 k h, glyph-read d m) (ap (λ (v : ℕ). digits_left (so_far (k + 1) v) rest) e)

digits_read : (k n : ℕ) (rest : List ℕ) → k ≤ 8 → n < 16 ^ k → n < 2 ^ 32
    → digits_left (between false) (digits 16 k n ++ rest) ≡ digits_left (so_far k n) rest
unfolding digits
digits_read zero n rest h l m = let z : n ≡ 0 = omega arith in rw z refl
digits_read (suc k) n rest h l m =
    let q : 16 ^ suc k ≡ 16 * 16 ^ k = omega arith in
    let s : k + 1 ≡ suc k = omega arith in
    let v : n / 16 * 16 + n % 16 ≡ n = omega arith in
    ap (digits_left (between false)) (append_assoc (digits 16 k (n / 16)) (glyph (n % 16) ∷ []) rest)
    ∙ digits_read k (n / 16) (glyph (n % 16) ∷ rest) (omega arith) (omega (arith, q)) (omega arith)
    ∙ more_read k (n / 16) (n % 16) rest (omega arith) (omega arith) (mod-lt n (omega arith))
    ∙ ap (λ (j : ℕ). digits_left (so_far j (n / 16 * 16 + n % 16)) rest) s
    ∙ ap (λ (x : ℕ). digits_left (so_far (suc k) x) rest) v

first_eight : (xs a b c : List ℕ) → length xs ≡ 8 → take 8 (xs ++ a ++ b ++ c) ≡ xs
first_eight xs a b c e =
    ap (take 8) (append_assoc (xs ++ a) b c ∙ append_assoc xs a (b ++ c))
    ∙ ap (λ (n : ℕ). take n (xs ++ (a ++ (b ++ c)))) (sym e) ∙ take-append_seam xs (a ++ (b ++ c))

line_digits : (w : ℕ) → take 8 (word_line w) ≡ digits 16 8 w
unfolding word_line hexadecimal
line_digits w = first_eight (digits 16 8 w) (bytes " ") (meaning_text w) (bytes "\n") (digits_length 16 8 w)

-- what the digits of a line come to is its word, and the text goes on between two words
pub read_back : (w : ℕ) → w < 2 ^ 32 → step_in (take 8 (word_line w)) ≡ Some (Word w (between false))
unfolding digits_left ended
read_back w h =
    ap step_in (line_digits w ∙ sym (append-nil (digits 16 8 w)))
    ∙ ap (option_and_then (λ (k : Hex). ended k false)) (digits_read 8 w [] (omega arith) h h)

pub word_back : (w : ℕ) → w < 2 ^ 32 → word_in (take 8 (word_line w)) ≡ Some w
word_back w h = word_read (take 8 (word_line w)) ∙ ap (option_and_then word_of) (read_back w h)
