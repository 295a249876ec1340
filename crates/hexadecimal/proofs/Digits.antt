-- The digits that are left of a text, by its next byte and at its end.
use mathlib.Core.Path.{◌≡◌, refl, sym}
use mathlib.Core.List.{List}
use Prim.Native.Nat.{ℕ, ◌+◌, ◌<◌, ◌≤◌}
use lib.ListN.{length, drop, get_or, drop_of_length-le}
use Rattle.std.specs.Prelude.{Option, None, Some, false}
use Rattle.std.specs.Option.{option_and_then}
use Rattle.words.proofs.Lists.{drop-next}
use Rattle.hexadecimal.specs.Hex.{between, ended, with_digit, digits_left, word_of, last_word, step_in, word_in}
use Rattle.hexadecimal.specs.declared.Hex.{Hex}

module _ (text : List ℕ) (i : ℕ) (h : Hex) (whole : Option Hex) (e : digits_left h (drop i text) ≡ whole) where
  pub all_read : length text ≤ i → Some h ≡ whole
  unfolding digits_left
  all_read l = rw (drop_of_length-le text l) at e

  module _ (l : i < length text) where
    next : option_and_then (λ (k : Hex). digits_left k (drop (i + 1) text)) (with_digit h (get_or text i 0)) ≡ whole
    unfolding digits_left
    next = rw (drop-next text i l) at e

    pub one_read : (k : Hex) → Some k ≡ with_digit h (get_or text i 0) → digits_left k (drop (i + 1) text) ≡ whole
    one_read k d = rw (sym d) at next

    pub none_read : None ≡ with_digit h (get_or text i 0) → None ≡ whole
    none_read d = rw (sym d) at next

-- the word that a text ends is that of its step
pub word_read : (text : List ℕ) → word_in text ≡ option_and_then word_of (step_in text)
word_read text = split (digits_left (between false) text)
  where
    split : (o : Option Hex) → option_and_then last_word o ≡ option_and_then word_of (option_and_then (λ (h : Hex). ended h false) o)
    split None = refl
    split (Some h) = refl
