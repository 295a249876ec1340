-- A line of any length means what its start that is kept means.
use mathlib.Core.Path.{◌≡◌, refl, sym, ap, ◌∙◌}
use mathlib.Core.Bool.{Bool, true, false}
use mathlib.Core.List.{List, [], ◌∷◌, ◌++◌, append-nil, append_assoc}
use Prim.Native.Nat.{ℕ, zero, suc, ◌+◌, ◌*◌, ◌%◌, ◌^◌, ◌≤◌, ◌<◌}
use native.Mathlib.Decide.{dec_lt}
use native.Mathlib.Omega.{arith}
use borrow.Author.Tests.{ne_eqb, le-leb, lt-ltb, le-ltb, ltb-true, ltb-false}
use lib.Dec.{leb, ltb}
use lib.ListN.{length, take, drop, set, length-set}
use lib.Seq.{take_all, take-suc, take-set-le, take-append-le, length-take-le, get_or-set_same}
use Rattle.std.specs.Prelude.{Option, None, Some, ◌&&◌}
use Rattle.std.proofs.Common.{nat_eq}
use Rattle.std.proofs.lemmas.List.{take-take, drop-take}
use Rattle.std.specs.Option.{option_map, option_and_then}
use Rattle.std.specs.Str.{bytes_eq}
use Rattle.words.proofs.Choices.{either}
use Rattle.text.specs.Text.{bytes}
use Rattle.hexadecimal.specs.Hex.{digit_of, between, ended, with_digit, digits_left, last_word}
use Rattle.hexadecimal.specs.declared.Hex.{Hex}
use Rattle.commands.specs.Commands.{passed_over, release_command, command_with, command_of, line_bytes, empty_line, with_byte, command_in, line_of}
use Rattle.commands.specs.declared.Line.{Line}

-- ---- the start of a line is the line, to each test of it

same_start : (k : ℕ) (a b : List ℕ) → length b < k → bytes_eq (take k a) b ≡ bytes_eq a b
same_start zero a b h = absurd (omega arith)
same_start (suc k) [] b h = refl
same_start (suc k) (x ∷ a) [] h = refl
same_start (suc k) (x ∷ a) (y ∷ b) h = ap (λ (r : Bool). nat_eq x y && r) (same_start k a b (omega arith))

start_passed : (k : ℕ) (line : List ℕ) → passed_over (take (suc k) line) ≡ passed_over line
start_passed k [] = refl
start_passed k (b ∷ line) = refl

-- more than eight digits are no word
long_bad : (h : Hex) → 9 ≤ h.digits → last_word h ≡ None
unfolding ended
long_bad h l = rw (ne_eqb h.digits 0 (λ e. omega (arith, e)), ne_eqb h.digits 8 (λ e. omega (arith, e))) refl

ninth_bad : (h : Hex) (b : ℕ) → 8 ≤ h.digits → with_digit h b ≡ None
unfolding with_digit
ninth_bad h b l = rw (le-leb 8 h.digits l) refl

-- the word behind some digits
abbrev behind : List ℕ → Option Hex → Option ℕ
behind text o = option_and_then last_word (option_and_then (λ (h : Hex). digits_left h text) o)

digit_start : (k : ℕ) (text : List ℕ) (f : ℕ → Hex) (o : Option ℕ)
    → ((d : ℕ) → behind (take k text) (Some (f d)) ≡ behind text (Some (f d))) → behind (take k text) (option_map f o) ≡ behind text (option_map f o)
digit_start k text f None g = refl
digit_start k text f (Some d) g = g d

abbrev one_more : Hex → ℕ → Hex
one_more h d = record { digits = h.digits + 1; value = h.value % 2 ^ 28 * 16 + d; comment = false }

digits_start : (k : ℕ) (h : Hex) (text : List ℕ) → 9 ≤ k + h.digits → behind (take k text) (Some h) ≡ behind text (Some h)
unfolding digits_left with_digit
digits_start zero h [] l = refl
digits_start (suc k) h [] l = refl
digits_start zero h (b ∷ text) l = long_bad h (omega arith) ∙ sym (ap (behind text) (ninth_bad h b (omega arith)))
digits_start (suc k) h (b ∷ text) l =
    either (λ (o : Option Hex). behind (take k text) o ≡ behind text o) (leb 8 h.digits) {x = None} {y = option_map (one_more h) (digit_of b)}
    (λ _. refl) (λ _. digit_start k text (one_more h) (digit_of b) (λ d. digits_start k (one_more h d) text (omega arith)))

-- more than ten digits are no function
function_start : (k : ℕ) (digits : List ℕ) → 10 < k → release_command (take k digits) ≡ release_command digits
unfolding release_command
function_start k digits h =
    elim (dec_lt k (length digits)) [
      | no l ↦ ap release_command (take_all k digits (omega arith))
      | yes l ↦
          let n = length-take-le k digits (omega arith) in
          rw (
            le-ltb (length (take k digits)) 1 (omega (arith, n)),
            lt-ltb 10 (length (take k digits)) (omega (arith, n)),
            le-ltb (length digits) 1 (omega arith),
            lt-ltb 10 (length digits) (omega arith),
          ) refl
    ]

start_with : (line : List ℕ) → command_with (take line_bytes line) ≡ command_with line
unfolding command_with
start_with line =
    rw (
      take-take 5 line_bytes line (omega arith),
      drop-take 5 27 line,
      digits_start 27 (between false) (drop 5 line) (omega arith),
      take-take 8 line_bytes line (omega arith),
      drop-take 8 24 line,
      function_start 24 (drop 8 line) (omega arith),
    ) refl

start_means : (line : List ℕ) → command_of (take line_bytes line) ≡ command_of line
unfolding command_of
start_means line =
    rw (
      start_passed 31 line,
      same_start line_bytes line (bytes "price") (omega arith),
      same_start line_bytes line (bytes "show") (omega arith),
      same_start line_bytes line (bytes "finish") (omega arith),
      start_with line,
    ) refl

-- ---- what is kept of a text is its start

-- the bytes that a line holds
held : Line → List ℕ
held l = take l.length l.bytes

pub record Sized (l : Line) : Type 0 where
  pub whole : length l.bytes ≡ line_bytes
  pub within : l.length ≤ line_bytes

module _ (l : Line) (b : ℕ) (z : Sized l) where
  byte_held : l.length < line_bytes
      → take (l.length + 1) (set l.bytes l.length b) ≡ take l.length l.bytes ++ (b ∷ [])
  byte_held h =
      let n = l.length in
      let e : n + 1 ≡ suc n = omega arith in
      let k : n < length l.bytes = omega (arith, z.whole) in
      rw e (
      take-suc (set l.bytes n b) n 0 (omega (arith, length-set l.bytes n b))
      ∙ rw (take-set-le n l.bytes n b (omega arith), get_or-set_same l.bytes n b 0 k) refl
      )

  byte_kept : l.length < line_bytes → Sized (with_byte l b) × (held (with_byte l b) ≡ held l ++ (b ∷ []))
  unfolding with_byte held
  byte_kept h =
      rw (lt-ltb l.length line_bytes h) (
        record { whole = length-set l.bytes l.length b ∙ z.whole; within = omega arith },
        byte_held h,
      )

  byte_dropped : line_bytes ≤ l.length → with_byte l b ≡ l
  unfolding with_byte
  byte_dropped h = rw (le-ltb l.length line_bytes h) refl

held_length : (l : Line) → Sized l → length (held l) ≡ l.length
unfolding held
held_length l z = length-take-le l.length l.bytes (omega (arith, z.whole, z.within))

-- one byte, with what holds of those after it
one_kept : (b : ℕ) (text : List ℕ) (l : Line) (z : Sized l) (r : Bool) → ltb l.length line_bytes ≡ r
    → ((m : Line) → Sized m → held (line_of m text) ≡ take line_bytes (held m ++ text))
    → held (line_of (with_byte l b) text) ≡ take line_bytes (held l ++ (b ∷ text))
one_kept b text l z true e rest =
    let k = byte_kept l b z (ltb-true l.length line_bytes e) in
    rest (with_byte l b) k.0
    ∙ ap (λ (t : List ℕ). take line_bytes (t ++ text)) k.1 ∙ ap (take line_bytes) (append_assoc (held l) (b ∷ []) text)
one_kept b text l z false e rest =
    let n : line_bytes ≤ length (held l) = omega (arith, held_length l z, ltb-false l.length line_bytes e) in
    ap (λ (m : Line). held (line_of m text)) (byte_dropped l b z (ltb-false l.length line_bytes e)) ∙ rest l z
    ∙ take-append-le line_bytes (held l) text n ∙ sym (take-append-le line_bytes (held l) (b ∷ text) n)

kept_start : (text : List ℕ) (l : Line) → Sized l → held (line_of l text) ≡ take line_bytes (held l ++ text)
kept_start [] l z = sym (ap (take line_bytes) (append-nil (held l)) ∙ take_all line_bytes (held l) (omega (arith, held_length l z, z.within)))
kept_start (b ∷ text) l z = one_kept b text l z (ltb l.length line_bytes) refl (kept_start text)

empty_sized : Sized empty_line
empty_sized = record { whole = refl; within = omega arith }

-- a line read byte by byte means what its text means
pub line_means : (text : List ℕ) → command_in (line_of empty_line text) ≡ command_of text
unfolding held
line_means text = ap command_of (kept_start text empty_line empty_sized) ∙ start_means text
