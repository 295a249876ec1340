-- What a target's mark means, request #105: on a negated target a recipe with its codes for TO0 and TO1 rewritten shows what the recipe
-- shows on the plain one.
use Rattle.std.specs.Prelude.{ℕ, Bool, [], ◌∷◌, get_or, Option, Some, None}
use Rattle.bits.specs.declared.Ports.{Ports}
use Rattle.recipe.specs.declared.Fields.{Fields}
use Rattle.output.specs.Output.{outputs_show}

-- the main output: TO0 and NOT TO0 change places
abbrev pub main_rewritten : ℕ → ℕ
main_rewritten code = get_or (0 ∷ 2 ∷ 1 ∷ []) code 0

-- what a comparison code shows of a target's ports
abbrev pub compared_by : ℕ → ℕ → Ports → Bool
compared_by code n p = (outputs_show (record { main = 0; cout = 0; ovf = 0; code = code }) n p).o1

-- The comparison code that shows of the complemented ports what a code shows of the ports. There is none for those that join S, or S XOR
-- TOVF, with GOR or GNOR, but for code 11, which shows GNOR: a word that is 0 has no sign.
abbrev pub code_rewritten : ℕ → Option ℕ
code_rewritten code =
    get_or
    (Some 0  -- none
    ∷ Some 2  -- TO1: NOT TO1
    ∷ Some 1  -- NOT TO1: TO1
    ∷ Some 6  -- GOR: GNAND
    ∷ Some 5  -- GNOR: GAND
    ∷ Some 4  -- GAND: GNOR
    ∷ Some 3  -- GNAND: GOR
    ∷ Some 8  -- S: NOT S
    ∷ Some 7  -- NOT S: S
    ∷ None  -- S OR GNOR
    ∷ None  -- NOT S AND GOR
    ∷ Some 5  -- NOT S AND GNOR: GAND
    ∷ Some 13  -- S XOR TOVF: its NOT
    ∷ Some 12  -- and back
    ∷ None  -- (S XOR TOVF) OR GNOR
    ∷ None  -- its NOT
    ∷ [])
    code None

-- the recipe with that comparison code, and its main output rewritten
abbrev pub rewritten : Fields → ℕ → Fields
rewritten r code =
    record {
      source = r.source;
      target = r.target;
      left = r.left;
      right = r.right;
      carry = r.carry;
      main = main_rewritten r.main;
      cout = r.cout;
      ovf = r.ovf;
      blank = r.blank;
      code = code;
    }
