-- What a side can remember, and its cells.
use mathlib.Core.Path.{◌≡◌, ap, ap₂, ◌∙◌}
use Prim.Native.Nat.{ℕ, ◌+◌, ◌*◌, ◌/◌, ◌%◌, ◌≤◌, ◌<◌}
use native.Mathlib.Omega.{arith}
use mathlib.Core.Bool.{Bool, true, false}
use mathlib.Core.List.{List}
use lib.Dec.{eqb}
use lib.ListN.{get_or}
use Rattle.alu.specs.declared.Kind.{Kind}
use Rattle.alu.specs.declared.Kind.TheVariants.{Arithmetic, Logic, Comparison}
use Rattle.bits.specs.Bits.{num}
use Rattle.bits.specs.Wiring.{carried}
use Rattle.bits.proofs.Sums.{num-lt}
use Rattle.output.specs.declared.Outputs.{Outputs}
use Rattle.binding.specs.declared.Side.{Side}
use Rattle.automaton.specs.Place.{start, step, less_at, majority, wire}
use Rattle.automaton.specs.declared.Ripple.{Ripple}
use Rattle.equivalence.specs.Shown.{memory}
use Rattle.equivalence.specs.States.{memories, nothing, shown_at, Shows}
use Rattle.equivalence.specs.declared.shown.Shown.{Shown}

-- ---- memories

pub few : (K : Kind) → memories K < 4
few (Logic v) = omega arith
few (Arithmetic p q k) = omega arith
few (Comparison l e g) = omega arith

pub started : (K : Kind) (c : Bool) → memory (start K c) < memories K
started (Logic v) c = omega arith
started (Arithmetic p q k) c = omega (arith, num-lt (carried k c))
started (Comparison l e g) c = omega arith

-- a word is not both less and greater
one_order : (x y lo hi : Bool) → num lo + 2 * num hi < 3 → num (less_at x y lo) + 2 * num (less_at y x hi) < 3
one_order true true lo hi h = h
one_order true false lo hi h = omega arith
one_order false true lo hi h = omega arith
one_order false false lo hi h = h

pub stepped : (K : Kind) (a : Ripple) (x y : Bool) → memory a < memories K → memory (step K a x y) < memories K
stepped (Logic v) a x y h = omega arith
stepped (Arithmetic p q k) a x y h = omega (arith, num-lt (majority (wire p x y) (wire q x y) a.lo))
stepped (Comparison l e g) a x y h = one_order x y a.lo a.hi h

-- ---- what shows

pub is_one : (a b : ℕ) → a ≡ b → eqb a 1 ≡ eqb b 1
is_one a b e = ap (λ (z : ℕ). eqb z 1) e

pub made : (o : Outputs) (s : Side) (shown : List Shown) (count c : ℕ) → count ≡ memories s.kind → 4 * count ≤ c
    → ((k : ℕ) → k < c → get_or shown k nothing ≡ shown_at o s (k / 4) (k % 4)) → Shows o s count shown
made o s shown count c e h known =
    record {
      counted = e;
      at = λ m pair l p.
          let d : (4 * m + pair) / 4 ≡ m = omega arith in
          let r : (4 * m + pair) % 4 ≡ pair = omega arith in
          known (4 * m + pair) (omega arith) ∙ ap₂ (shown_at o s) d r;
    }
