-- The judge accepts a word, a width and a mark exactly if the word is a recipe that passes 3, 5 and 6, the width and the mark are in range,
-- and the recipe is right.
use mathlib.Core.Path.{◌≡◌, refl, sym, ap, subst, ◌∙◌}
use mathlib.Core.Bool.{true, not}
use mathlib.Core.List.{[]}
use Prim.Native.Nat.{ℕ}
use native.Mathlib.Omega.{arith}
use lib.Dec.{eqb}
use borrow.Author.Tests.{not-false}
use Rattle.words.specs.Field.{kind_of}
use Rattle.words.specs.Kinds.{is_recipe}
use Rattle.words.specs.Paper.{Paper, number_of, refusal, accepted}
use Rattle.words.specs.declared.Fault.{Fault}
use Rattle.words.specs.declared.Fault.TheVariants.{NotLaidOut, OtherOutputs, OutOfSequence, ReadsUndriven}
use Rattle.words.specs.declared.Refusal.{Refusal}
use Rattle.words.proofs.Choices.{either}
use Rattle.alu.specs.Range.{is_width}
use Rattle.layout.specs.Layout.{recipe_fault}
use Rattle.binding.specs.Right.{claim_against}
use Rattle.binding.specs.declared.Claim.{Claim}
use Rattle.verdict.specs.Verdicts.{Sentence, Refuses, Decides, unless, is_mark, Passes, judge_of, Judged, judgement_paper}
use Rattle.verdict.specs.declared.Verdict.TheVariants as verdict
use Rattle.std.specs.Prelude.{if◌then◌else◌, None, Result, Ok, Err}
use Rattle.verdict.specs.declared.Verdict.{Verdict}
use Rattle.verdict.proofs.Verdicting.{not_right}
use Rattle.demands.specs.Mapped.{RightRecipe}
use Rattle.demands.proofs.Numbered.{recipe_number}

-- a refusal is told with its number
told_number : (fault : Fault) (place : ℕ) (j : Result Verdict Refusal) → Passes (Refuses (refusal fault place)) j
    → (judgement_paper j).number ≡ number_of fault
told_number fault place (Err r) e = ap (λ (x : Refusal). number_of x.fault) e
told_number fault place (Ok v) e = absurd e

module _ (w n mark : ℕ) (j : Result Verdict Refusal) where
  abbrev claim : Claim
  claim = claim_against (eqb mark 1) w

  not_accepted : {Q : Type 0} (fault : Fault) (place : ℕ) → (number_of fault ≡ 0 → ⊥) → Passes (Refuses (refusal fault place)) j
      → judgement_paper j ≡ accepted [] → Q
  not_accepted fault place some e a = absurd (some (sym (told_number fault place j e) ∙ ap (λ (x : Paper). x.number) a))

  decided : is_recipe (kind_of w) ≡ true → recipe_fault w ≡ None → is_width n ≡ true → is_mark mark ≡ true
      → Passes (Decides claim n) j → judgement_paper j ≡ accepted [] → RightRecipe w n mark
  decided k f h m = by_verdict j
    where
      by_verdict : (j : Result Verdict Refusal) → Passes (Decides claim n) j → judgement_paper j ≡ accepted [] → RightRecipe w n mark
      by_verdict (Err r) e a = absurd e
      by_verdict (Ok verdict.Right) e a = record { a_recipe = k; faultless = f; a_width = h; a_mark = m; right = e }
      by_verdict (Ok (verdict.Wrong v)) e a =
          let z : ◌≡◌ {A = ℕ} 10 0 = ap (λ (x : Paper). x.number) a in absurd (omega arith)

  pub judged_right : Judged w n mark j → judgement_paper j ≡ accepted [] → RightRecipe w n mark
  unfolding judge_of
  judged_right =
      let P : Sentence → Type 0 = λ x. Passes x j → judgement_paper j ≡ accepted [] → RightRecipe w n mark in
      let marked = if not (is_mark mark) then Refuses (refusal NotLaidOut 2) else Decides claim n in
      let width = if not (is_width n) then Refuses (refusal NotLaidOut 1) else marked in
      either P (not (is_recipe (kind_of w))) (λ _. not_accepted OutOfSequence 0 (λ z. omega arith))
      (λ k. recipe_number (λ x. recipe_fault w ≡ x → P (unless x width)) w
      (λ _. not_accepted NotLaidOut 0 (λ z. omega arith))
      (λ _. not_accepted ReadsUndriven 0 (λ z. omega arith))
      (λ _. not_accepted OtherOutputs 0 (λ z. omega arith))
      (λ f. either P (not (is_width n)) (λ _. not_accepted NotLaidOut 1 (λ z. omega arith))
      (λ h. either P (not (is_mark mark)) (λ _. not_accepted NotLaidOut 2 (λ z. omega arith))
      (λ m. decided (not-false (is_recipe (kind_of w)) k) f (not-false (is_width n) h) (not-false (is_mark mark) m)))) refl)

  pub right_judged : Judged w n mark j → RightRecipe w n mark → judgement_paper j ≡ accepted []
  unfolding judge_of
  right_judged answer q =
      let sentence : judge_of w n mark ≡ Decides claim n
      = rw q.a_recipe (rw q.faultless (rw q.a_width (rw q.a_mark refl))) in
      by_verdict j (subst (λ (x : Sentence). Passes x j) sentence answer)
    where
      by_verdict : (j : Result Verdict Refusal) → Passes (Decides claim n) j → judgement_paper j ≡ accepted []
      by_verdict (Err r) e = absurd e
      by_verdict (Ok verdict.Right) e = refl
      by_verdict (Ok (verdict.Wrong v)) e = absurd (not_right claim n v e q.right)
