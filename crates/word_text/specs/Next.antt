-- What is found next in a text of words, by what was got of it, and where the text stands after it.
use Rattle.std.specs.Prelude.{ℕ, Option, None, Some, Result, Ok, Err, ◌+◌, ◌^◌, ◌≤◌, ◌<◌, ◌≡◌, false}
use Rattle.hexadecimal.specs.Hex.{between, taken, last_word}
use Rattle.hexadecimal.specs.declared.Step.{Step}
use Rattle.console.specs.declared.Failed.{Failed}
use Rattle.word_text.specs.declared.WordText.{WordText}

-- nothing is read yet: no digits and no comment before the first byte
pub record Unread (t : WordText) : Type 0 where
  pub gap : t.hex ≡ between false
  pub first : t.at ≡ 0

-- nothing more is taken: the text stands past every byte
abbrev pub over : WordText → WordText
over t = record { stdin = t.stdin; hex = between false; at = 2 ^ 61 }

-- what is found by the step of a byte: nothing yet, or the word that it ends; no word where it cannot stand
abbrev pub word_by : Option Step → Option (Option ℕ)
word_by (Some (Step.Word w h)) = Some (Some w)
word_by (Some (Step.More h)) = None
word_by None = Some None

-- the text behind the byte at a place: behind a word, or with its digits; where the byte cannot stand nothing more is taken
abbrev pub behind : Option Step → ℕ → WordText → WordText
behind (Some (Step.Word w h)) at t = record { stdin = t.stdin; hex = h; at = at + 1 }
behind (Some (Step.More h)) at t = record { stdin = t.stdin; hex = h; at = t.at }
behind None at t = over t

-- what is found by what was got: by a byte, or the last word by the end of the text; no word where a read failed
abbrev pub found : Result (Option ℕ) Failed → WordText → Option (Option ℕ)
found (Ok (Some byte)) t = word_by (taken t.hex byte)
found (Ok None) t = Some (last_word t.hex)
found (Err e) t = Some None

-- and the text after what was got at a place: it is over at its end, and where a read failed
abbrev pub after : Result (Option ℕ) Failed → ℕ → WordText → WordText
after (Ok (Some byte)) at t = behind (taken t.hex byte) at t
after (Ok None) at t = over t
after (Err e) at t = over t

-- a word brings the text forward, so that a loop over its words ends; where none is found, the text stands past every byte
unfoldable pub Forward : ℕ → Option ℕ → ℕ → Type 0
Forward at (Some w) after = (at < after) × (after ≤ 2 ^ 61)
Forward at None after = after ≡ 2 ^ 61
