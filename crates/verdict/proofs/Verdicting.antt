-- From the search's outcome to the verdict.
use mathlib.Core.Path.{◌≡◌, refl, sym, ap, ap₂, ◌∙◌, subst}
use Prim.Native.Nat.{ℕ, ◌^◌, ◌<◌}
use mathlib.Core.Bool.{Bool, true, false, not, beq}
use lib.Dec.{eqb}
use borrow.Author.Tests.{eq-eqb, eqb-true}
use borrow.Author.Rules.{rules}
use Rattle.std.specs.Prelude.{Option, Some, None, IsSome, if◌then◌else◌}
use Rattle.words.specs.declared.Witness.{Witness}
use Rattle.words.specs.declared.port.Port.{Port}
use Rattle.words.specs.declared.port.Port.TheVariants.{O0, Ocout, Ovf, O1}
use Rattle.words.proofs.Choices.{beq-true, beq-refl, false_of}
use Rattle.bits.specs.declared.Ports.{Ports}
use Rattle.binding.specs.Binding.{side_shows, shows}
use Rattle.binding.specs.Right.{Right, is_right}
use Rattle.binding.specs.declared.Claim.{Claim}
use Rattle.binding.proofs.Tests.{right_test}
use Rattle.search.specs.Search.{Found}
use Rattle.verdict.specs.Verdicts.{lowest_port, Says}
use Rattle.search.specs.declared.Counterexample.{Counterexample}
use Rattle.verdict.specs.declared.Verdict.{Verdict}
use Rattle.verdict.specs.declared.Verdict.TheVariants.{Right as IsRight, Wrong}

-- ---- the lowest port

module _ (p q : Ports) where
  -- ports that are not the same differ somewhere
  some-differs : (p ≡ q → ⊥) → IsSome (lowest_port p q)
  unfolding lowest_port
  some-differs ne =
      go (eqb p.o0 q.o0) refl (beq p.ocout q.ocout) refl (beq p.ovf q.ovf) refl (beq p.o1 q.o1) refl
    where
      go : (a : Bool) → eqb p.o0 q.o0 ≡ a → (b : Bool) → beq p.ocout q.ocout ≡ b
          → (c : Bool) → beq p.ovf q.ovf ≡ c → (d : Bool) → beq p.o1 q.o1 ≡ d
          → IsSome (if not a then Some O0 else if not b then Some Ocout else if not c then Some Ovf else if not d then Some O1 else None)
      go false ea b eb c ec d ed = search rules
      go true ea false eb c ec d ed = search rules
      go true ea true eb false ec d ed = search rules
      go true ea true eb true ec false ed = search rules
      go true ea true eb true ec true ed =
          absurd (ne (λ i. record {
            o0 = eqb-true p.o0 q.o0 ea i;
            ocout = beq-true p.ocout q.ocout eb i;
            ovf = beq-true p.ovf q.ovf ec i;
            o1 = beq-true p.o1 q.o1 ed i;
          }))

  same_ports_lem : p ≡ q → lowest_port p q ≡ None
  unfolding lowest_port
  same_ports_lem e =
      rw (eq-eqb p.o0 q.o0 (ap (λ (z : Ports). z.o0) e))
      (rw (beq-refl p.ocout q.ocout (ap (λ (z : Ports). z.ocout) e))
      (rw (beq-refl p.ovf q.ovf (ap (λ (z : Ports). z.ovf) e))
      (rw (beq-refl p.o1 q.o1 (ap (λ (z : Ports). z.o1) e)) refl)))

-- ---- the verdict, from what the search found

module _ (c : Claim) (n : ℕ) (o : Option Counterexample) (found : Found c.source c.recipe n o) where
  found_as : (k : Option Counterexample) → o ≡ k → Found c.source c.recipe n k
  found_as k e = subst (λ (x : Option Counterexample). Found c.source c.recipe n x) e found

  module _ (x : Counterexample) (e : o ≡ Some x) where
    module _ (p q : Ports) (port : Option Port) (ep : p ≡ shows c.recipe n x.left x.right x.carry)
        (eq : (q ≡ side_shows c.source n x.left x.right x.carry) × (q.o0 < 2 ^ n)) (eport : port ≡ lowest_port p q) where
      pub is_some_port : IsSome port
      is_some_port = subst IsSome (sym (eport ∙ ap₂ lowest_port ep eq.0)) (some-differs _ _ (found_as (Some x) e).2)

-- ---- what a verdict tells of rightness

module _ (c : Claim) (n : ℕ) where
  -- a wrong verdict is never given of a right recipe
  pub not_right : (v : Witness) → Says c n (Wrong v) → Right c n → ⊥
  not_right v d right =
      let u =
      same_ports_lem (shows c.recipe n v.left v.right v.carry) (side_shows c.source n v.left v.right v.carry)
      (right v.left v.right v.carry d.left_fits d.right_fits) in
      let z = d.lowest in
      cc

  module _ (v : Verdict) (says : Says c n v) where
    pub right_says : v ≡ IsRight → true ≡ is_right c n
    right_says e = sym ((right_test c.source c.recipe n).1 (subst (Says c n) e says))

    pub wrong_says : (x : Witness) → v ≡ Wrong x → false ≡ is_right c n
    wrong_says x e =
        sym (false_of (is_right c n)
        (λ h. not_right x (subst (Says c n) e says) ((right_test c.source c.recipe n).0 h)))
