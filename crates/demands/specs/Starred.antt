-- Document 01, "Cases in hexadecimal words, decimal values": the starred cases, of functions and of recipes, as one table. Two recipes
-- that document 01 calls right stand among them.
use Rattle.std.specs.Prelude.{ℕ, ◌-◌, ◌^◌, ◌≡◌, Bool, true, List, [], ◌∷◌}
use Rattle.words.specs.Paper.{accepted}
use Rattle.alu.specs.Range.{is_width}
use Rattle.alu.specs.Evaluate.{evaluation, paper_of}
use Rattle.binding.specs.Right.{Agrees, Right, claim_of}

infix 70 ◌width◌left◌right◌carry◌shows◌ocout◌ovf◌o1◌
infix 70 ◌right_at_every_width
infix 70 ◌right_at◌
infix 70 ◌wrong_at◌left◌right◌
-- a row: what the evaluator is given, and what the four ports then show; or what is said of a recipe word
pub data Case : Type 0 where
  ◌width◌left◌right◌carry◌shows◌ocout◌ovf◌o1◌ : ℕ → ℕ → ℕ → ℕ → ℕ → ℕ → ℕ → ℕ → ℕ → Case
  ◌right_at_every_width : ℕ → Case
  ◌right_at◌ : ℕ → ℕ → Case
  ◌wrong_at◌left◌right◌ : ℕ → ℕ → ℕ → ℕ → Case

-- what a row means
abbrev pub Means : Case → Type 0
Means (f width n left a right b carry c shows o0 ocout co ovf v o1 t) =
    paper_of (evaluation f n a b c) ≡ accepted (o0 ∷ co ∷ v ∷ t ∷ [])
Means (w right_at_every_width) = (n : ℕ) → is_width n ≡ true → Right (claim_of w) n
Means (w right_at n) = Right (claim_of w) n
Means (w wrong_at n left a right b) = (c : Bool) × (Agrees (claim_of w).source (claim_of w).recipe n a b c → ⊥)

-- each row of a table holds
pub data AllHold : List Case → Type 0 where
  none : AllHold []
  more : {k : Case} {ks : List Case} → Means k → AllHold ks → AllHold (k ∷ ks)

-- the numbers of the functions that the cases name
abbrev ADD : ℕ
ADD = 1

abbrev SUB : ℕ
SUB = 2

abbrev INC : ℕ
INC = 4

abbrev DEC : ℕ
DEC = 5

abbrev LIMPL : ℕ
LIMPL = 20

abbrev RIMPL : ℕ
RIMPL = 21

abbrev LT : ℕ
LT = 25

-- where document 01 names no right operand or no carry the function reads none, and the row has 0
unfoldable pub starred : List Case
starred =
    ADD width 8 left 127 right 1 carry 0 shows 128 ocout 0 ovf 1 o1 0
    ∷ ADD width 1 left 0 right 0 carry 1 shows 1 ocout 0 ovf 1 o1 0
    ∷ SUB width 8 left 0 right 1 carry 1 shows 255 ocout 0 ovf 0 o1 0
    ∷ DEC width 8 left 0 right 0 carry 0 shows 255 ocout 0 ovf 0 o1 0
    ∷ DEC width 8 left 128 right 0 carry 0 shows 127 ocout 1 ovf 1 o1 0
    ∷ INC width 64 left (2 ^ 64 - 1) right 0 carry 0 shows 0 ocout 1 ovf 0 o1 0
    ∷ LIMPL width 1 left 1 right 0 carry 0 shows 0 ocout 0 ovf 0 o1 0
    ∷ RIMPL width 1 left 1 right 0 carry 0 shows 1 ocout 0 ovf 0 o1 0
    ∷ LT width 8 left 128 right 127 carry 0 shows 0 ocout 0 ovf 0 o1 1
    ∷ 0x5C894407 wrong_at 8 left 127 right 255
    ∷ 0x5C89440C right_at_every_width
    ∷ 0x5C8A240B wrong_at 8 left 0 right 0
    ∷ 0x5CCD4003 right_at 1
    ∷ 0x5CCD4003 wrong_at 2 left 1 right 0
    ∷ 0x5105CEA0 right_at_every_width
    ∷ []
