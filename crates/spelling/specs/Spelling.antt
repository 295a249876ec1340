-- How the codes of a recipe are written: document 01, "Words". Codes 13 to 15 of a comparison are said there by a number ("NOT of 12",
-- "(code 12) OR GNOR", "NOT of 14"); here that number is spelt out.
use Rattle.std.specs.Prelude.{ℕ, List, [], ◌∷◌, map}
use Rattle.text.specs.Text.{bytes, entry}
use Rattle.spelling.specs.declared.Codes.{Codes}
use Rattle.spelling.specs.declared.Codes.TheVariants.{Wiring, Carry, Main, CarryOut, Overflow, Comparison}

-- "left wiring and .. right wiring (0 zeros, 1 ones, 2 SI0, 3 NOT SI0, 4 SI1, 5 NOT SI1 ..)"
abbrev pub wirings : List (List ℕ)
wirings = map bytes ("zeros" ∷ "ones" ∷ "SI0" ∷ "NOT SI0" ∷ "SI1" ∷ "NOT SI1" ∷ [])

-- "carry in (0, 1, 2 SICIN, 3 NOT SICIN)"
abbrev pub carries : List (List ℕ)
carries = map bytes ("0" ∷ "1" ∷ "SICIN" ∷ "NOT SICIN" ∷ [])

-- "main output (0 none, 1 TO0, 2 NOT TO0 ..)"
abbrev pub mains : List (List ℕ)
mains = map bytes ("none" ∷ "TO0" ∷ "NOT TO0" ∷ [])

-- "carry out (0 none, 1 TOCOUT, 2 NOT TOCOUT ..)"
abbrev pub carries_out : List (List ℕ)
carries_out = map bytes ("none" ∷ "TOCOUT" ∷ "NOT TOCOUT" ∷ [])

-- "overflow (0 none, 1 TOVF)"
abbrev pub overflows : List (List ℕ)
overflows = map bytes ("none" ∷ "TOVF" ∷ [])

-- "Comparison codes: 0 none, 1 TO1, .."
abbrev pub comparisons : List (List ℕ)
comparisons =
    map bytes ("none" ∷ "TO1" ∷ "NOT TO1" ∷ "GOR" ∷ "GNOR" ∷ "GAND" ∷ "GNAND" ∷ "S" ∷ "NOT S" ∷ "S OR GNOR" ∷ "NOT S AND GOR" ∷ "NOT S AND GNOR" ∷ "S XOR TOVF" ∷ "NOT (S XOR TOVF)" ∷ "(S XOR TOVF) OR GNOR" ∷ "NOT ((S XOR TOVF) OR GNOR)" ∷ [])

unfoldable pub spelling_of : Codes → ℕ → List ℕ
spelling_of Wiring code = entry wirings code
spelling_of Carry code = entry carries code
spelling_of Main code = entry mains code
spelling_of CarryOut code = entry carries_out code
spelling_of Overflow code = entry overflows code
spelling_of Comparison code = entry comparisons code
