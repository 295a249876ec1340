-- A number of decimal digits, digit by digit: further digits make it larger.
use mathlib.Core.Path.{◌≡◌, refl, sym, ◌∙◌}
use mathlib.Core.List.{List, [], ◌∷◌}
use Prim.Native.Nat.{ℕ, ◌+◌, ◌-◌, ◌*◌, ◌^◌, ◌≤◌, ◌<◌}
use native.Mathlib.Omega.{arith}
use mathlib.Core.Bool.{true, ◌&&◌}
use mathlib.Core.Logic.{inl, inr}
use lib.Dec.{leb}
use lib.ListN.{length, drop, get_or, drop_of_length-le}
use borrow.Author.Tests.{leb-true, le-leb, lt-leb}
use Rattle.std.specs.Prelude.{Option, None, Some, if◌then◌else◌}
use Rattle.std.specs.Option.{option_and_then}
use Rattle.std.specs.Char.{IsDigitOf, NotDecimalDigitIn}
use Rattle.words.proofs.Choices.{either, and_split}
use Rattle.words.proofs.Lists.{drop-next}
use Rattle.hexadecimal.specs.Hex.{digit_of}
use Rattle.commands.specs.Commands.{digits_release}
use Rattle.commands.specs.declared.Command.{Command}
use Rattle.commands.specs.declared.Command.TheVariants.{Release}

-- behind n, by the next digit
abbrev behind : ℕ → List ℕ → ℕ → Option Command
behind n bs d = if leb 10 d then None else digits_release (n * 10 + d) bs

large_next : (n : ℕ) (bs : List ℕ) (o : Option ℕ) → 2 ^ 32 ≤ n → ((m : ℕ) → 2 ^ 32 ≤ m → digits_release m bs ≡ None)
    → option_and_then (behind n bs) o ≡ None
large_next n bs None g f = refl
large_next n bs (Some d) g f =
    either (λ (x : Option Command). x ≡ None) (leb 10 d) {x = None} {y = digits_release (n * 10 + d) bs} (λ _. refl)
    (λ _. f (n * 10 + d) (omega arith))

large_none : (n : ℕ) (digits : List ℕ) → 2 ^ 32 ≤ n → digits_release n digits ≡ None
unfolding digits_release
large_none n [] g = rw (le-leb (2 ^ 32) n g) refl
large_none n (b ∷ bs) g = large_next n bs (digit_of b) g (λ m h. large_none m bs h)

-- a decimal digit's value
decimal : (b d : ℕ) → IsDigitOf b d → d < 10 → digit_of b ≡ Some d
unfolding digit_of
decimal b d (inl q) g =
    let e : b - 48 ≡ d = omega arith in
    rw (le-leb 48 b (omega arith), le-leb b 57 (omega arith), e) refl
decimal b d (inr (inl q)) g = absurd (omega arith)
decimal b d (inr (inr q)) g = absurd (omega arith)

-- what is no decimal digit ends it: a letter's value is ten or more
large_digit : (n : ℕ) (bs : List ℕ) (b : ℕ) → NotDecimalDigitIn 10 b → option_and_then (behind n bs) (digit_of b) ≡ None
unfolding digit_of
large_digit n bs b q =
    either P (leb 48 b && leb b 57) (λ t. absurd (omega (arith, decided t, q ((decided t).0) ((decided t).1))))
    (λ _. either P (leb 65 b && leb b 70) (λ t. large 55 (omega (arith, decided t)))
    (λ _. either P (leb 97 b && leb b 102) (λ t. large 87 (omega (arith, decided t))) (λ _. refl)))
  where
    P : Option ℕ → Type 0
    P o = option_and_then (behind n bs) o ≡ None

    decided : {l m : ℕ} → leb l b && leb b m ≡ true → (l ≤ b) × (b ≤ m)
    decided {l} {m} t = (leb-true l b (and_split (leb l b) (leb b m) t).0, leb-true b m (and_split (leb l b) (leb b m) t).1)

    large : (k : ℕ) → 10 ≤ b - k → P (Some (b - k))
    large k h = rw (le-leb 10 (b - k) h) refl

module _ (digits : List ℕ) (i n : ℕ) (whole : Option Command) (e : digits_release n (drop i digits) ≡ whole) where
  pub all_read : length digits ≤ i → n < 2 ^ 32 → Some (Release n) ≡ whole
  unfolding digits_release
  all_read l g = rw (drop_of_length-le digits l, lt-leb (2 ^ 32) n g) at e

  module _ (l : i < length digits) where
    next : option_and_then (behind n (drop (i + 1) digits)) (digit_of (get_or digits i 0)) ≡ whole
    unfolding digits_release
    next = rw (drop-next digits i l) at e

    pub no_digit : NotDecimalDigitIn 10 (get_or digits i 0) → None ≡ whole
    no_digit q = sym (large_digit n (drop (i + 1) digits) (get_or digits i 0) q) ∙ next

    pub one_read : (d : ℕ) → IsDigitOf (get_or digits i 0) d → d < 10 → digits_release (n * 10 + d) (drop (i + 1) digits) ≡ whole
    one_read d q g =
        let e : behind n (drop (i + 1) digits) d ≡ whole = rw (decimal (get_or digits i 0) d q g) at next in
        rw (lt-leb 10 d g) at e

    pub too_large : (d : ℕ) → IsDigitOf (get_or digits i 0) d → d < 10 → 2 ^ 32 ≤ n * 10 + d → None ≡ whole
    too_large d q g h = sym (large_none (n * 10 + d) (drop (i + 1) digits) h) ∙ one_read d q g
