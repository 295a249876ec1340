-- The commands of work_bench: a line is one of these words, "bind " and a word's eight digits, "release " and a function's decimal digits,
-- or nothing that is a command. An empty line, and one that begins with "#", is passed over.
use Rattle.std.specs.Prelude.{ℕ, Option, None, Some, ◌+◌, ◌*◌, ◌^◌, Bool, true, List, [], ◌∷◌, eqb, leb, ltb, length, take, drop, set, replicate, if◌then◌else◌}
use Rattle.std.specs.Option.{option_map, option_and_then}
use Rattle.std.specs.Str.{bytes_eq}
use Rattle.text.specs.Text.{bytes}
use Rattle.hexadecimal.specs.Hex.{digit_of, word_in}
use Rattle.commands.specs.declared.Command.{Command}
use Rattle.commands.specs.declared.Command.TheVariants.{Pass, Bind, Release, Price, Show, Finish}
use Rattle.commands.specs.declared.Line.{Line}

abbrev pub passed_over : List ℕ → Bool
passed_over [] = true
passed_over (b ∷ bs) = eqb b 35

-- a bind of the word whose digits stand behind it
abbrev pub bind_command : Option ℕ → Option Command
bind_command word = option_map Bind word

-- a release of the function that decimal digits write, behind those of n; a number of 2^32 or more is none
unfoldable pub digits_release : ℕ → List ℕ → Option Command
digits_release n [] = if leb (2 ^ 32) n then None else Some (Release n)
digits_release n (b ∷ bs) = option_and_then (λ d. if leb 10 d then None else digits_release (n * 10 + d) bs) (digit_of b)

-- a release of the function whose digits stand behind it, one to ten
unfoldable pub release_command : List ℕ → Option Command
release_command digits =
    if ltb (length digits) 1 then None
    else if ltb 10 (length digits) then None
    else digits_release 0 digits

-- a line begins with a text
abbrev pub begins : List ℕ → List ℕ → Bool
begins line text = bytes_eq (take (length text) line) text

-- a command with what it is for, behind a space
unfoldable pub command_with : List ℕ → Option Command
command_with line =
    if begins line (bytes "bind ") then bind_command (word_in (drop 5 line))
    else if begins line (bytes "release ") then release_command (drop 8 line)
    else None

unfoldable pub command_of : List ℕ → Option Command
command_of line =
    if passed_over line then Some Pass
    else if bytes_eq line (bytes "price") then Some Price
    else if bytes_eq line (bytes "show") then Some Show
    else if bytes_eq line (bytes "finish") then Some Finish
    else command_with line

-- ---- a line as it is read: of a long one its start, which is no command as the whole is none

-- so many bytes are kept
abbrev pub line_bytes : ℕ
line_bytes = 32

abbrev pub empty_line : Line
empty_line = record { bytes = replicate line_bytes 0; length = 0 }

-- a byte more
unfoldable pub with_byte : Line → ℕ → Line
with_byte l b =
    if ltb l.length line_bytes then record { bytes = set l.bytes l.length b; length = l.length + 1 } else l

abbrev pub command_in : Line → Option Command
command_in l = command_of (take l.length l.bytes)

-- a line after the bytes of a text
abbrev pub line_of : Line → List ℕ → Line
line_of l [] = l
line_of l (b ∷ text) = line_of (with_byte l b) text
