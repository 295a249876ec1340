-- The verdict on a claim: document 01, "What a binding shows" and refusal 10; and the order in which a recipe handed in is judged.
use Rattle.std.specs.Prelude.{ℕ, ◌^◌, ◌<◌, ◌≡◌, not, [], ◌∷◌, eqb, ltb, Bool, Option, Some, None, if◌then◌else◌, Result, Ok, Err}
use Rattle.std.specs.Bool.{beq}
use Rattle.words.specs.Field.{kind_of}
use Rattle.words.specs.Kinds.{is_recipe}
use Rattle.words.specs.Paper.{Paper, port_number, refusal, accepted, refused_with, told}
use Rattle.words.specs.declared.Refusal.{Refusal}
use Rattle.words.specs.declared.Fault.{Fault}
use Rattle.words.specs.declared.Witness.{Witness}
use Rattle.words.specs.declared.port.Port.{Port}
use Rattle.words.specs.declared.port.Port.TheVariants.{O0, Ocout, Ovf, O1}
use Rattle.bits.specs.Bits.{num}
use Rattle.alu.specs.Range.{is_width}
use Rattle.bits.specs.declared.Ports.{Ports}
use Rattle.layout.specs.Layout.{recipe_fault}
use Rattle.binding.specs.Binding.{side_shows, shows}
use Rattle.binding.specs.Right.{Right, claim_against}
use Rattle.binding.specs.declared.Claim.{Claim}
use Rattle.verdict.specs.declared.Verdict.{Verdict}
use Rattle.verdict.specs.declared.Verdict.TheVariants.{Right as IsRight, Wrong}
use Rattle.words.specs.declared.Fault.TheVariants.{NotLaidOut, OutOfSequence}

-- "Of the ports that differ there, the lowest"
unfoldable pub lowest_port : Ports → Ports → Option Port
lowest_port p q =
    if not (eqb p.o0 q.o0) then Some O0
    else if not (beq p.ocout q.ocout) then Some Ocout
    else if not (beq p.ovf q.ovf) then Some Ovf
    else if not (beq p.o1 q.o1) then Some O1
    else None

-- "every choice is in range, makes a port of the named function's binding differ, and comes with the lowest port that differs there"
pub record Differs (c : Claim) (n : ℕ) (v : Witness) : Type 0 where
  pub named : v.function ≡ c.function
  pub left_fits : v.left < 2 ^ n
  pub right_fits : v.right < 2 ^ n
  pub lowest : lowest_port (shows c.recipe n v.left v.right v.carry) (side_shows c.source n v.left v.right v.carry)
      ≡ Some v.port

-- What a verdict on a claim at width n says. Of a wrong recipe the operands and the carry are the program's choice.
abbrev pub Says : Claim → ℕ → Verdict → Type 0
Says c n IsRight = Right c n
Says c n (Wrong v) = Differs c n v

-- "10. A wrong recipe; place: its function .., with port .., left, right, carry."
abbrev pub wrong_paper : Witness → Paper
wrong_paper v = refused_with 10 v.function (port_number v.port ∷ v.left ∷ v.right ∷ num v.carry ∷ [])

-- the verdict in document 01's numbers
abbrev pub verdict_paper : Verdict → Paper
verdict_paper IsRight = accepted []
verdict_paper (Wrong v) = wrong_paper v

-- What a call has to answer: this, or that a claim is wrong at a width. "The program chooses the operands and carry in refusal 10":
-- all else is ruled.
pub data Ruling (A : Type 0) : Type 0 where
  Gives : A → Ruling A
  Names : Claim → ℕ → Ruling A

-- ---- a recipe word, a width and a mark handed in by anybody

-- what is said of them: a refusal, or a verdict on a claim at a width
pub data Sentence : Type 0 where
  Refuses : Refusal → Sentence
  Decides : Claim → ℕ → Sentence

-- the refusal of a word by itself, if it has one; else what is said without one
abbrev pub unless : Option Fault → Sentence → Sentence
unless (Some fault) next = Refuses (refusal fault 0)
unless None next = next

-- request #105: a mark is 0 or 1, and 1 where the word's target is negated
abbrev pub is_mark : ℕ → Bool
is_mark mark = ltb mark 2

-- a kind that is neither a rule's nor a binding's: 2; then 3, 5 and 6 of the word, place 0; then the width, place 1; then the mark, place 2
unfoldable pub judge_of : ℕ → ℕ → ℕ → Sentence
judge_of w n mark =
    if not (is_recipe (kind_of w)) then Refuses (refusal OutOfSequence 0)
    else unless (recipe_fault w)
    (if not (is_width n) then Refuses (refusal NotLaidOut 1)
    else if not (is_mark mark) then Refuses (refusal NotLaidOut 2)
    else Decides (claim_against (eqb mark 1) w) n)

abbrev pub Passes : Sentence → Result Verdict Refusal → Type 0
Passes (Refuses r) (Err q) = q ≡ r
Passes (Refuses r) (Ok v) = ⊥
Passes (Decides c n) (Err q) = ⊥
Passes (Decides c n) (Ok v) = Says c n v

abbrev pub Judged : ℕ → ℕ → ℕ → Result Verdict Refusal → Type 0
Judged w n mark j = Passes (judge_of w n mark) j

-- the judgement in document 01's numbers
abbrev pub judgement_paper : Result Verdict Refusal → Paper
judgement_paper (Ok v) = verdict_paper v
judgement_paper (Err r) = told r
