-- The bit that a wiring code gives of two bits, by arithmetic: the rest of the code chooses it, and its low bit goes into an exclusive or.
use mathlib.Core.Path.{◌≡◌, refl, ap, ◌∙◌}
use mathlib.Core.Bool.{Bool, true, false, not, beq, ◌&&◌}
use mathlib.Core.List.{[], ◌∷◌}
use Prim.Native.Nat.{ℕ, zero, suc, ◌<◌, ◌/◌, ◌%◌}
use native.Mathlib.Omega.{arith}
use lib.Dec.{eqb}
use lib.ListN.{get_or}
use Rattle.bits.proofs.Wirings.{bit-of_pair}
use Rattle.automaton.specs.Place.{wire}

pub wire-by_low_bit : (code : ℕ) (x y : Bool) → code < 6
    → not (beq (get_or (false ∷ x ∷ y ∷ []) (code / 2) false) (eqb (code % 2) 1)) ≡ wire code x y
wire-by_low_bit code x y h = bit-of_pair (false ∷ x ∷ y ∷ []) code (omega arith)

-- one of the two bits, or none
chosen-of_rest : (rest : ℕ) (x y : Bool) → rest < 3
    → not (beq (eqb (rest % 2) 1 && x) (eqb (rest / 2) 1 && y)) ≡ get_or (false ∷ x ∷ y ∷ []) rest false
chosen-of_rest zero x y h = refl
chosen-of_rest (suc zero) true y h = refl
chosen-of_rest (suc zero) false y h = refl
chosen-of_rest (suc (suc zero)) x true h = refl
chosen-of_rest (suc (suc zero)) x false h = refl
chosen-of_rest (suc (suc (suc rest))) x y h = absurd (omega arith)

pub wire_by_arithmetic : (code : ℕ) (x y : Bool) → code < 6
    → not (beq (not (beq (eqb (code / 2 % 2) 1 && x) (eqb (code / 4) 1 && y))) (eqb (code % 2) 1)) ≡ wire code x y
wire_by_arithmetic code x y h =
    let q : code / 4 ≡ code / 2 / 2 = omega arith in
    rw q (ap (λ (bit : Bool). not (beq bit (eqb (code % 2) 1))) (chosen-of_rest (code / 2) x y (omega arith)) ∙ wire-by_low_bit code x y h)
