-- Document 01, "What a binding shows": "O0 shows the main output, OCOUT the carry out, OVF the overflow, O1 the comparison code; none shows 0."
use Rattle.std.specs.Prelude.{ℕ, ◌-◌, ◌^◌, Bool, false, not, ◌&&◌, ◌||◌, [], ◌∷◌, get_or, eqb}
use Rattle.bits.specs.Bits.{exor, top}
use Rattle.bits.specs.Wiring.{complement}
use Rattle.bits.specs.declared.Ports.{Ports}
use Rattle.output.specs.declared.Outputs.{Outputs}

-- "carry out (0 none, 1 TOCOUT, 2 NOT TOCOUT; 3 invalid)", "overflow (0 none, 1 TOVF)"
abbrev pub shown_bit : ℕ → Bool → Bool
shown_bit code b = get_or (false ∷ b ∷ not b ∷ []) code false

-- "main output (0 none, 1 TO0, 2 NOT TO0; 3 invalid)"
abbrev pub shown_word : ℕ → ℕ → ℕ → ℕ
shown_word n code a = get_or (0 ∷ a ∷ complement n a ∷ []) code 0

-- the comparison codes, from TO1, GOR and GAND of TO0, S and TOVF. "NOT S is formed before AND or OR."
abbrev pub shown_comparison : ℕ → Bool → Bool → Bool → Bool → Bool → Bool
shown_comparison code to1 gor gand s tovf =
    get_or
    (false  -- 0 none
    ∷ to1  -- 1 TO1
    ∷ not to1  -- 2 NOT TO1
    ∷ gor  -- 3 GOR
    ∷ not gor  -- 4 GNOR
    ∷ gand  -- 5 GAND
    ∷ not gand  -- 6 GNAND
    ∷ s  -- 7 S
    ∷ not s  -- 8 NOT S
    ∷ (s || not gor)  -- 9 S OR GNOR
    ∷ (not s && gor)  -- 10 NOT S AND GOR
    ∷ (not s && not gor)  -- 11 NOT S AND GNOR
    ∷ exor s tovf  -- 12 S XOR TOVF
    ∷ not (exor s tovf)  -- 13 NOT of 12
    ∷ (exor s tovf || not gor)  -- 14 (code 12) OR GNOR
    ∷ not (exor s tovf || not gor)  -- 15 NOT of 14
    ∷ [])
    code false

-- what output codes show of a target's ports. "Comparison codes read TO0 itself, S is its bit n−1": GOR is all bits of TO0 joined
-- by OR, so TO0 is not 0; GAND all joined by AND, so TO0 is n ones
unfoldable pub outputs_show : Outputs → ℕ → Ports → Ports
outputs_show r n t =
    record {
      o0 = shown_word n r.main t.o0;
      ocout = shown_bit r.cout t.ocout;
      ovf = shown_bit r.ovf t.ovf;
      o1 =
          shown_comparison r.code t.o1 (not (eqb t.o0 0)) (eqb t.o0 (2 ^ n - 1)) (top n t.o0) t.ovf;
    }
