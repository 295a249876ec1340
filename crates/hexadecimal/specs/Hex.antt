-- Words written as text: eight hexadecimal digits each, parted by spaces or line feeds; "#" to the end of the line is a comment.
use Rattle.std.specs.Prelude.{ℕ, Option, None, Some, ◌+◌, ◌-◌, ◌*◌, ◌%◌, ◌^◌, Bool, true, false, not, ◌&&◌, ◌||◌, List, [], ◌∷◌, eqb, leb, if◌then◌else◌}
use Rattle.std.specs.Option.{option_map, option_and_then}
use Rattle.hexadecimal.specs.declared.Hex.{Hex}
use Rattle.hexadecimal.specs.declared.Step.{Step}
use Rattle.hexadecimal.specs.declared.Step.TheVariants.{More, Word}

-- a digit's value, capital or small
unfoldable pub digit_of : ℕ → Option ℕ
digit_of b =
    if leb 48 b && leb b 57 then Some (b - 48)
    else if leb 65 b && leb b 70 then Some (b - 55)
    else if leb 97 b && leb b 102 then Some (b - 87)
    else None

-- a space or a line feed
unfoldable pub parts : ℕ → Bool
parts b = eqb b 32 || eqb b 10

-- between two words, in a comment or not
abbrev pub between : Bool → Hex
between comment = record { digits = 0; value = 0; comment = comment }

-- what a gap ends: nothing, a word of eight digits, or one that is too short, where it cannot stand; and whether a comment begins there
unfoldable pub ended : Hex → Bool → Option Step
ended h comment =
    if eqb h.digits 0 then Some (More (between comment))
    else if eqb h.digits 8 then Some (Word h.value (between comment))
    else None

-- a digit more; there is none past the eighth, and seven digits are below 2 ^ 28
unfoldable pub with_digit : Hex → ℕ → Option Hex
with_digit h b =
    if leb 8 h.digits then None
    else option_map (λ d. record { digits = h.digits + 1; value = h.value % 2 ^ 28 * 16 + d; comment = false }) (digit_of b)

-- one byte of the text; a comment begins with "#" and ends with its line
unfoldable pub taken : Hex → ℕ → Option Step
taken h b =
    if h.comment then Some (More (between (not (eqb b 10))))
    else if eqb b 35 then ended h true
    else if parts b then ended h false
    else option_map More (with_digit h b)

-- ---- a text that is the digits of one word

-- the digits that are left of it
unfoldable pub digits_left : Hex → List ℕ → Option Hex
digits_left h [] = Some h
digits_left h (b ∷ bs) = option_and_then (λ k. digits_left k bs) (with_digit h b)

-- what the end of such a text makes of them
abbrev pub step_in : List ℕ → Option Step
step_in text = option_and_then (λ h. ended h false) (digits_left (between false) text)

-- the word that the end of a text ends
abbrev pub word_of : Step → Option ℕ
word_of (Word w h) = Some w
word_of (More h) = None

abbrev pub last_word : Hex → Option ℕ
last_word h = option_and_then word_of (ended h false)

abbrev pub word_in : List ℕ → Option ℕ
word_in text = option_and_then last_word (digits_left (between false) text)
