-- Rightness as a test is rightness.
use mathlib.Core.Path.{◌≡◌, refl, ap}
use mathlib.Core.Logic.{◌↔◌}
use Prim.Native.Nat.{ℕ, zero, suc, ◌^◌, ◌≤◌, ◌<◌}
use native.Mathlib.Omega.{arith}
use native.Mathlib.Decide.{dec_lt}
use mathlib.Core.Bool.{Bool, true, false, ◌&&◌, beq}
use lib.Dec.{eqb}
use borrow.Author.Tests.{eqb-true, eq-eqb}
use Rattle.words.proofs.Choices.{and_split, and_join, beq-true, beq-refl}
use Rattle.bits.specs.declared.Ports.{Ports}
use Rattle.binding.specs.Right.{RightFor, every, same_ports, agrees, is_right_for}
use Rattle.binding.specs.declared.Side.{Side}
use Rattle.binding.specs.declared.Recipe.{Recipe}

at_or_below : (p : ℕ → Bool) (k i : ℕ) → i ≤ k → p k ≡ true → (i < k → p i ≡ true) → p i ≡ true
at_or_below p k i h e f = elim (dec_lt i k) [ yes l ↦ f l | no l ↦ let q : i ≡ k = omega arith in rw q e ]

pub every-at : (n : ℕ) (p : ℕ → Bool) → every n p ≡ true → (i : ℕ) → i < n → p i ≡ true
unfolding every
every-at zero p h i l = absurd (omega arith)
every-at (suc k) p h i l =
    let z = and_split (every k p) (p k) h in at_or_below p k i (omega arith) z.1 (λ m. every-at k p z.0 i m)

pub every-all : (n : ℕ) (p : ℕ → Bool) → ((i : ℕ) → i < n → p i ≡ true) → every n p ≡ true
unfolding every
every-all zero p h = refl
every-all (suc k) p h = and_join (every-all k p (λ i l. h i (omega arith))) (h k (omega arith))

pub ports-same : (p q : Ports) → same_ports p q ≡ true → p ≡ q
ports-same p q h =
    let a = and_split (eqb p.o0 q.o0) (beq p.ocout q.ocout && (beq p.ovf q.ovf && beq p.o1 q.o1)) h in
    let b = and_split (beq p.ocout q.ocout) (beq p.ovf q.ovf && beq p.o1 q.o1) a.1 in
    let c = and_split (beq p.ovf q.ovf) (beq p.o1 q.o1) b.1 in
    λ i. record {
      o0 = eqb-true p.o0 q.o0 a.0 i;
      ocout = beq-true p.ocout q.ocout b.0 i;
      ovf = beq-true p.ovf q.ovf c.0 i;
      o1 = beq-true p.o1 q.o1 c.1 i;
    }

pub same_ports_lem : (p q : Ports) → p ≡ q → same_ports p q ≡ true
same_ports_lem p q e =
    and_join (eq-eqb p.o0 q.o0 (ap (λ (z : Ports). z.o0) e))
    (and_join (beq-refl p.ocout q.ocout (ap (λ (z : Ports). z.ocout) e))
    (and_join (beq-refl p.ovf q.ovf (ap (λ (z : Ports). z.ovf) e)) (beq-refl p.o1 q.o1 (ap (λ (z : Ports). z.o1) e))))

-- the two forms of rightness agree, for any source side
pub right_test : (s : Side) (t : Recipe) (n : ℕ) → (is_right_for s t n ≡ true) ↔ RightFor s t n
unfolding is_right_for
right_test s t n = (to, λ h. every-all (2 ^ n) _ (λ l hl. every-all (2 ^ n) _ (λ r hr. and_join (same_ports_lem _ _ (h l r false hl hr)) (same_ports_lem _ _ (h l r true hl hr)))))
  where
    at : is_right_for s t n ≡ true → (l r : ℕ) → l < 2 ^ n → r < 2 ^ n → agrees s t n l r false && agrees s t n l r true ≡ true
    at h l r hl hr =
        every-at (2 ^ n) (λ k. agrees s t n l k false && agrees s t n l k true)
        (every-at (2 ^ n) (λ k. every (2 ^ n) (λ m. agrees s t n k m false && agrees s t n k m true)) h l hl) r hr

    to : is_right_for s t n ≡ true → RightFor s t n
    to h l r false hl hr = ports-same _ _ (and_split (agrees s t n l r false) (agrees s t n l r true) (at h l r hl hr)).0
    to h l r true hl hr = ports-same _ _ (and_split (agrees s t n l r false) (agrees s t n l r true) (at h l r hl hr)).1
