-- From the judgement at a width to that at every width.
use mathlib.Core.Path.{◌≡◌, refl, subst}
use mathlib.Core.Bool.{Bool, true, false, not}
use Prim.Native.Nat.{ℕ, ◌+◌, ◌≤◌, ◌<◌}
use native.Mathlib.Omega.{arith}
use lib.Dec.{eqb, ltb}
use borrow.Author.Tests.{ltb-true, ltb-false}
use Rattle.std.specs.Prelude.{if◌then◌else◌, Option, Some, None, Ok, Err}
use Rattle.words.specs.Field.{kind_of}
use Rattle.words.specs.Kinds.{is_recipe}
use Rattle.words.specs.declared.Fault.{Fault}
use Rattle.words.specs.declared.Refusal.{Refusal}
use Rattle.words.specs.declared.Witness.{Witness}
use Rattle.alu.specs.Range.{is_width}
use Rattle.alu.proofs.Shown.{is_width_lem}
use Rattle.layout.specs.Layout.{recipe_fault}
use Rattle.binding.specs.Right.{claim_against}
use Rattle.binding.specs.declared.Claim.{Claim}
use Rattle.verdict.specs.Verdicts.{Refuses, Decides, unless, is_mark, judge_of, Passes, Judged}
use Rattle.verdict.specs.declared.Verdict.{Verdict}
use Rattle.verdict.specs.declared.Verdict.TheVariants.{Right as IsRight, Wrong as IsWrong}
use Rattle.judge_answers.specs.Everywhere.{RightBelow, JudgedEverywhere}

-- where both widths are widths, a refusal does not depend on them
alike : (n : ℕ) (a m : Bool) (f : Option Fault) (x y r : Refusal) (c : Claim)
    → Passes (if a then Refuses x else unless f (if m then Refuses y else Decides c n)) (Err r)
    → Passes (if a then Refuses x else unless f (if m then Refuses y else Decides c 1)) (Err r)
alike n true m f x y r c p = p
alike n false m (Some fault) x y r c p = p
alike n false true None x y r c p = p
alike n false false None x y r c p = p

refused-alike : (w n mark : ℕ) (r : Refusal) → is_width n ≡ true → Judged w n mark (Err r) → Judged w 1 mark (Err r)
unfolding judge_of
refused-alike w n mark r e p =
    rw (is_width_lem 1 (omega arith) (omega arith))
    (alike n (not (is_recipe (kind_of w))) (not (is_mark mark)) (recipe_fault w) _ _ r (claim_against (eqb mark 1) w) (rw e at p))

module _ (w n mark : ℕ) (l : 1 ≤ n) (m : n ≤ 64) where
  pub refused_everywhere : (r : Refusal) → Judged w n mark (Err r) → JudgedEverywhere w mark (Err r)
  refused_everywhere r p = refused-alike w n mark r (is_width_lem n l m) p

  module _ (below : RightBelow w mark n) (v : Verdict) (p : Judged w n mark (Ok v)) where
    judged_as : (u : Verdict) → v ≡ u → Judged w n mark (Ok u)
    judged_as u e = subst (λ (x : Verdict). Judged w n mark (Ok x)) e p

    pub wrong_first : (x : Witness) → v ≡ IsWrong x → JudgedEverywhere w mark (Ok (Some (record { width = n; witness = x })))
    wrong_first x e = (l, m, below, judged_as (IsWrong x) e)

    pub right_more : v ≡ IsRight → RightBelow w mark (n + 1)
    right_more e k least less = go (ltb k n) refl
      where
        go : (b : Bool) → ltb k n ≡ b → Judged w k mark (Ok IsRight)
        go true t = below k least (ltb-true k n t)
        go false t =
            let s : n ≡ k = omega (arith, ltb-false k n t) in
            subst (λ (i : ℕ). Judged w i mark (Ok IsRight)) s (judged_as IsRight e)

pub right_at_none : (w mark : ℕ) → RightBelow w mark 1
right_at_none w mark k least less = absurd (omega arith)

pub right_at_all : (w mark n : ℕ) → RightBelow w mark n → 64 < n → RightBelow w mark 65
right_at_all w mark n below h k least less = below k least (omega arith)
