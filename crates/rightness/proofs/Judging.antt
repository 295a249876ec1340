-- 10: the bindings judged one by one.
use mathlib.Core.Path.{◌≡◌, refl, sym, subst}
use mathlib.Core.Bool.{Bool, true, false, not}
use mathlib.Core.List.{List, [], ◌∷◌}
use Prim.Native.Nat.{ℕ, ◌+◌, ◌≤◌, ◌<◌}
use lib.ListN.{length, drop, get_or, drop_of_length-le}
use Rattle.std.specs.Prelude.{if◌then◌else◌}
use Rattle.words.specs.declared.Witness.{Witness}
use Rattle.words.proofs.Lists.{drop-next}
use Rattle.binding.specs.Right.{is_right}
use Rattle.binding.specs.declared.Claim.{Claim}
use Rattle.verdict.specs.Verdicts.{Says, Ruling, Gives, Names}
use Rattle.verdict.specs.declared.Verdict.{Verdict}
use Rattle.verdict.specs.declared.Verdict.TheVariants as verdict
use Rattle.verdict.proofs.Verdicting.{right_says, wrong_says}
use Rattle.table.specs.Parts.{Terms}
use Rattle.claims.specs.Claim.{claim_in}
use Rattle.rightness.specs.Rightness.{unless_wrong}
use Rattle.rightness.specs.FirstWrong.{VerdictRuled, SaysOfAll}

module _ (t : Terms) (ws : List ℕ) (i : ℕ) (e : unless_wrong t (drop i ws) (Gives verdict.Right) ≡ unless_wrong t ws (Gives verdict.Right)) where
  pub all_right : length ws ≤ i → SaysOfAll t ws verdict.Right
  unfolding unless_wrong
  all_right h = subst (λ (x : Ruling Verdict). VerdictRuled x verdict.Right) (rw (drop_of_length-le ws h) at e) refl

  module _ (h : i < length ws) (v : Verdict) (says : Says (claim_in t.sources t.targets (get_or ws i 0)) t.width v) where
    abbrev c : Claim
    c = claim_in t.sources t.targets (get_or ws i 0)

    by_test : (if not (is_right c t.width) then Names c t.width else unless_wrong t (drop (i + 1) ws) (Gives verdict.Right))
        ≡ unless_wrong t ws (Gives verdict.Right)
    unfolding unless_wrong
    by_test = rw (drop-next ws i h) at e

    pub next_binding : v ≡ verdict.Right → unless_wrong t (drop (i + 1) ws) (Gives verdict.Right) ≡ unless_wrong t ws (Gives verdict.Right)
    next_binding u = rw (sym (right_says c t.width v says u)) at by_test

    pub a_wrong_one : (x : Witness) → v ≡ verdict.Wrong x → SaysOfAll t ws v
    a_wrong_one x u =
        let named : Names c t.width ≡ unless_wrong t ws (Gives verdict.Right)
        = rw (sym (wrong_says c t.width v says x u)) at by_test in
        subst (λ (y : Verdict). SaysOfAll t ws y) (sym u)
        (subst (λ (y : Ruling Verdict). VerdictRuled y (verdict.Wrong x)) named (subst (Says c t.width) u says))

-- all bindings are right, or one is named whatever comes next
pub right_or_named : {A B : Type 0} (P : Ruling A → Ruling B → Type 0) (t : Terms) (ws : List ℕ) (a : Ruling A) (b : Ruling B)
    → P a b → ((c : Claim) → P (Names c t.width) (Names c t.width)) → P (unless_wrong t ws a) (unless_wrong t ws b)
unfolding unless_wrong
right_or_named P t [] a b none named = none
right_or_named P t (w ∷ ws) a b none named = go (is_right (claim_in t.sources t.targets w) t.width) (right_or_named P t ws a b none named)
  where
    go : (x : Bool) → P (unless_wrong t ws a) (unless_wrong t ws b)
        → P (if not x then Names (claim_in t.sources t.targets w) t.width else unless_wrong t ws a)
        (if not x then Names (claim_in t.sources t.targets w) t.width else unless_wrong t ws b)
    go true h = h
    go false h = named (claim_in t.sources t.targets w)
