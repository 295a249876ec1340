-- Document 01, "Functions": "The evaluator is given function, width, left, right and carry, in that order. It refuses with 3 at
-- the first (place 0 to 4) out of range: an operand must be below 2^n, a carry at most 1."
use Rattle.std.specs.Prelude.{ℕ, ◌^◌, not, [], ◌∷◌, leb, ltb, eqb, if◌then◌else◌, Option, Some, None, Result, Ok, Err}
use Rattle.words.specs.Paper.{Paper, refusal, accepted, told}
use Rattle.bits.specs.Bits.{num}
use Rattle.bits.specs.declared.Ports.{Ports}
use Rattle.alu.specs.Function.{function_of, ports}
use Rattle.alu.specs.Range.{is_function, is_width}
use Rattle.words.specs.declared.Refusal.{Refusal}
use Rattle.words.specs.declared.Fault.TheVariants.{NotLaidOut}

-- the place of the first value out of range
unfoldable pub first_out_of_range : ℕ → ℕ → ℕ → ℕ → ℕ → Option ℕ
first_out_of_range f n left right carry =
    if not (is_function f) then Some 0
    else if not (is_width n) then Some 1
    else if leb (2 ^ n) left then Some 2
    else if leb (2 ^ n) right then Some 3
    else if ltb 1 carry then Some 4
    else None

-- where no value is out of range the ports are shown
abbrev pub answer : Option ℕ → Ports → Result Ports Refusal
answer (Some place) p = Err (refusal NotLaidOut place)
answer None p = Ok p

unfoldable pub evaluation : ℕ → ℕ → ℕ → ℕ → ℕ → Result Ports Refusal
evaluation f n left right carry =
    answer (first_out_of_range f n left right carry) (ports (function_of f) n left right (eqb carry 1))

-- the answer in document 01's numbers; the values shown are O0, OCOUT, OVF, O1
abbrev pub paper_of : Result Ports Refusal → Paper
paper_of (Ok p) = accepted (p.o0 ∷ num p.ocout ∷ num p.ovf ∷ num p.o1 ∷ [])
paper_of (Err r) = told r
