-- What the programs' arguments mean.
use Rattle.std.specs.Prelude.{ℕ, Option, None, Some, ◌+◌, ◌-◌, ◌*◌, ◌≤◌, Bool, true, false, ⊤, ◌&&◌, List, [], ◌∷◌, leb, ltb, if◌then◌else◌}
use Rattle.std.specs.Option.{option_and_then}
use Rattle.std.specs.Str.{bytes_eq}
use Rattle.alu.specs.Range.{is_width}
use Rattle.text.specs.Text.{bytes}
use Rattle.arguments.specs.declared.Widths.{Widths}
use Rattle.arguments.specs.declared.Widths.TheVariants.{At, All}

abbrev pub is_help : List ℕ → Bool
is_help argument = bytes_eq argument (bytes "--help")

-- judge_rule's second argument, of so many with the program's own name: where there is none targets are plain, and negated where it says
-- so; nothing else is understood
unfoldable pub negated_in : ℕ → List ℕ → Option Bool
negated_in count argument =
    if ltb count 3 then Some false
    else if bytes_eq argument (bytes "negated") then Some true
    else None

-- a program was called with a number of arguments that it takes, its own name among them; the number is the system's choice
pub record TakenBy (fewest most : ℕ) : Type 0 where
  pub count : ℕ
  pub enough : fewest ≤ count
  pub few : count ≤ most

-- a program that may run was; of one that may not nothing follows, since help may have been asked for
abbrev pub MayRun : ℕ → ℕ → Bool → Type 0
MayRun fewest most true = TakenBy fewest most
MayRun fewest most false = ⊤

-- the value of a decimal digit
unfoldable pub decimal_digit : ℕ → Option ℕ
decimal_digit b = if leb 48 b && leb b 57 then Some (b - 48) else None

-- a width between 1 and 64, or none
abbrev pub width_at : ℕ → Option Widths
width_at n = if is_width n then Some (At n) else None

-- one or two decimal digits
abbrev pub digits_width : List ℕ → Option Widths
digits_width [] = None
digits_width (a ∷ []) = option_and_then width_at (decimal_digit a)
digits_width (a ∷ b ∷ []) =
    option_and_then (λ tens. option_and_then (λ ones. width_at (10 * tens + ones)) (decimal_digit b)) (decimal_digit a)
digits_width (a ∷ b ∷ c ∷ more) = None

-- judge_rule's WIDTH: "all", or a width in decimal
unfoldable pub widths_in : List ℕ → Option Widths
widths_in argument = if bytes_eq argument (bytes "all") then Some All else digits_width argument
