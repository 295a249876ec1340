-- What the search finds: where it finds nothing the recipe agrees at all operands, and else it fails at those found.
use mathlib.Core.Path.{◌≡◌, sym, ap, ◌∙◌, subst}
use Prim.Native.Nat.{ℕ, zero, suc, ◌-◌, ◌<◌}
use native.Mathlib.Omega.{arith}
use mathlib.Core.Bool.{Bool, true, false, true≢false}
use Rattle.bits.specs.Bits.{bit}
use Rattle.bits.proofs.Words.{suc-sub_one}
use Rattle.binding.specs.declared.Side.{Side}
use Rattle.binding.specs.declared.Recipe.{Recipe}
use Rattle.automaton.specs.Machine.{first, agrees_from}
use Rattle.automaton.specs.declared.State.{State}
use Rattle.automaton.proofs.Runs.{decided}
use Rattle.equivalence.specs.States.{index_of, state_of}
use Rattle.equivalence.specs.Sets.{recipe, failing, Refuted}
use Rattle.equivalence.specs.declared.sides.Sides.{Sides}
use Rattle.search.specs.Search.{Concluded, Found}
use Rattle.std.specs.Prelude.{Option, Some, None, if◌then◌else◌}
use Rattle.search.specs.declared.Counterexample.{Counterexample}
use Rattle.equivalence.proofs.States.{state_index, first_held}
use Rattle.equivalence.proofs.Sets.{agrees}

false_not : (b : Bool) → b ≡ false → b ≡ true → ⊥
false_not b e u = true≢false (sym u ∙ e)

module _ (s : Side) (t : Recipe) (k : ℕ) where
  -- the number of the state in which a run starts
  start_at : (c : Bool) (i : ℕ) → i ≡ index_of (first s t c) → state_of i ≡ first s t c
  start_at c i e = ap state_of e ∙ state_index (first s t c)

  holds_at : (c : Bool) (i : ℕ) → i ≡ index_of (first s t c) → bit (failing s t k) i ≡ false
      → (l r : ℕ) → agrees_from s t k (first s t c) l r ≡ true
  holds_at c i e h = agrees s t k (first s t c) (first_held s t c) (ap (bit (failing s t k)) (sym e) ∙ h)

  fails_at : (c : Bool) (i l r : ℕ) → i ≡ index_of (first s t c) → Refuted s t k i l r → Found s t (suc k) (Some (record { left = l; right = r; carry = c }))
  fails_at c i l r e h =
      let z : agrees_from s t k (first s t c) l r ≡ false =
      ap (λ (a : State). agrees_from s t k a l r) (sym (start_at c i e)) ∙ h.fails in
      (h.left_fits, h.right_fits, λ same. false_not _ z ((decided s t k l r c h.left_fits h.right_fits).0 same))

  module _ (plain carried : ℕ) (ep : plain ≡ index_of (first s t false)) (ec : carried ≡ index_of (first s t true)) where
    chosen : (o : Option Counterexample) → Concluded s t k plain carried o → Found s t (suc k) o
    chosen None h = λ l r c hl hr. (decided s t k l r c hl hr).1 (go c l r)
      where
        go : (c : Bool) (l r : ℕ) → agrees_from s t k (first s t c) l r ≡ true
        go false = holds_at false plain ep h.0
        go true = holds_at true carried ec h.1
    chosen (Some x) h = at x.carry x.left x.right h
      where
        at : (c : Bool) (l r : ℕ) → Refuted s t k (if c then carried else plain) l r
            → Found s t (suc k) (Some (record { left = l; right = r; carry = c }))
        at false l r h = fails_at false plain l r ep h
        at true l r h = fails_at true carried l r ec h

pub found : (s : Side) (t : Recipe) (n : ℕ) → 0 < n → (a b : State) (plain carried : ℕ)
    → a ≡ first s t false → plain ≡ index_of a → b ≡ first s t true → carried ≡ index_of b
    → (m : Sides) → m.source.side ≡ s → m.target.side ≡ t.target → m.target.outputs ≡ t.outputs
    → (o : Option Counterexample) → Concluded m.source.side (recipe m) (n - 1) plain carried o → Found s t n o
found s t zero h a b plain carried ea ep eb ec m es et eo o d = absurd (omega arith)
found s t (suc k) h a b plain carried ea ep eb ec m es et eo o d =
    let e : recipe m ≡ t = λ i. record { target = et i; outputs = eo i } in
    chosen s t k plain carried (ep ∙ ap index_of ea) (ec ∙ ap index_of eb) o
    (subst (λ (j : ℕ). Concluded s t j plain carried o) (suc-sub_one k)
    (subst (λ (x : Recipe). Concluded s x (suc k - 1) plain carried o) e
    (subst (λ (x : Side). Concluded x (recipe m) (suc k - 1) plain carried o) es d)))
