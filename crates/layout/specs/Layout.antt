-- Refusals 3, 5 and 6 of a recipe word.
use Rattle.std.specs.Prelude.{ℕ, Bool, false, not, Option, Some, None, ◌&&◌, ◌||◌, eqb, leb, ltb, if◌then◌else◌}
use Rattle.words.specs.Field.{field}
use Rattle.words.specs.declared.Fault.{Fault}
use Rattle.words.specs.declared.Fault.TheVariants.{NotLaidOut, ReadsUndriven, OtherOutputs}
use Rattle.alu.specs.Function.{function_of, drives}
use Rattle.alu.specs.Range.{last_function, is_function}
use Rattle.alu.specs.declared.PortSet.{PortSet}
use Rattle.recipe.specs.Fields.{source_of, from_scratch, fields_of}
use Rattle.recipe.specs.declared.Fields.{Fields}

-- "6 ZERO, ... 21 RIMPL (logic)"
unfoldable pub is_logic : ℕ → Bool
is_logic f = if ltb f 6 then false else leb f 21

-- "From scratch: the source is a logic function, bits 17..4 are zero"
unfoldable pub scratch_laid_out : ℕ → Bool
scratch_laid_out w = if not (is_logic (source_of w)) then false else eqb (field w 4 14) 0

-- a target function, wirings "6 and 7 invalid", main output and carry out "3 invalid", bit "4 zero"
unfoldable pub target_laid_out : Fields → Bool
target_laid_out r =
    if ltb last_function r.target then false
    else if ltb 5 r.left then false
    else if ltb 5 r.right then false
    else if eqb r.main 3 then false
    else if eqb r.cout 3 then false
    else eqb r.blank 0

-- the fields are as the layout says (else refusal 3)
unfoldable pub laid_out : ℕ → Bool
laid_out w =
    if not (is_function (source_of w)) then false
    else if from_scratch w then scratch_laid_out w
    else target_laid_out (fields_of w)

-- the outputs of the target that a recipe reads: codes 3 to 15 read TO0, 12 to 15 TOVF too, 1 and 2 TO1
abbrev pub reads : Fields → PortSet
reads r =
    record {
      o0 = not (eqb r.main 0) || leb 3 r.code;
      ocout = not (eqb r.cout 0);
      ovf = not (eqb r.ovf 0) || leb 12 r.code;
      o1 = leb 1 r.code && leb r.code 2;
    }

-- the ports that a recipe shows
abbrev pub outputs : Fields → PortSet
outputs r =
    record {
      o0 = not (eqb r.main 0);
      ocout = not (eqb r.cout 0);
      ovf = not (eqb r.ovf 0);
      o1 = not (eqb r.code 0);
    }

-- each of the first is among the second
abbrev pub within : PortSet → PortSet → Bool
within p q =
    (not p.o0 || q.o0) && ((not p.ocout || q.ocout) && ((not p.ovf || q.ovf) && (not p.o1 || q.o1)))

abbrev pub exactly : PortSet → PortSet → Bool
exactly p q = within p q && within q p

-- "5. A recipe reads an output its target does not drive." "(5 and 6 do not concern scratch.)"
unfoldable pub reads_driven : Fields → Bool
reads_driven r = within (reads r) (drives (function_of r.target))

unfoldable pub reads_undriven : ℕ → Bool
reads_undriven w = if from_scratch w then false else not (reads_driven (fields_of w))

-- "6. Its outputs are not exactly its source function's ports."
unfoldable pub shows_source : Fields → Bool
shows_source r = exactly (outputs r) (drives (function_of r.source))

unfoldable pub shows_other : ℕ → Bool
shows_other w = if from_scratch w then false else not (shows_source (fields_of w))

-- 5 or 6 of a recipe word, in this order, or none
abbrev pub output_fault : ℕ → Option Fault
output_fault w = if reads_undriven w then Some ReadsUndriven else if shows_other w then Some OtherOutputs else None

-- the refusal of a recipe word, 3, 5 or 6 in this order, or none
unfoldable pub recipe_fault : ℕ → Option Fault
recipe_fault w = if not (laid_out w) then Some NotLaidOut else output_fault w
