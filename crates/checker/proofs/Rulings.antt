-- What a verdict on all bindings makes of the ruling: refusal 10, or what comes next.
use mathlib.Core.Path.{◌≡◌, refl}
use mathlib.Core.List.{List}
use Prim.Native.Nat.{ℕ}
use native.Mathlib.Omega.{arith}
use Rattle.std.specs.Prelude.{Result, Err, ⊤}
use Rattle.words.specs.declared.Witness.{Witness}
use Rattle.verdict.specs.Verdicts.{Ruling, Gives}
use Rattle.verdict.specs.declared.Verdict.TheVariants as verdict
use Rattle.table.specs.Parts.{Terms}
use Rattle.checker.specs.declared.CheckError.{CheckError}
use Rattle.checker.specs.declared.CheckError.TheVariants.{Wrong}
use Rattle.checker.specs.Check.{CheckRuled}
use Rattle.rightness.specs.Rightness.{unless_wrong}
use Rattle.rightness.specs.FirstWrong.{VerdictRuled, SaysOfAll}
use Rattle.rightness.proofs.Judging.{right_or_named}

module _ (t : Terms) (ws : List ℕ) (next : Ruling (Result ⊤ CheckError)) where
  pub no_wrong : SaysOfAll t ws verdict.Right → unless_wrong t ws next ≡ next
  no_wrong =
      right_or_named (λ x y. VerdictRuled x verdict.Right → y ≡ next) t ws (Gives verdict.Right) next (λ _. refl) (λ w h. absurd h)

  pub still_wrong : (v : Witness) → SaysOfAll t ws (verdict.Wrong v) → CheckRuled (unless_wrong t ws next) (Err (Wrong v))
  still_wrong v =
      right_or_named (λ x y. VerdictRuled x (verdict.Wrong v) → CheckRuled y (Err (Wrong v))) t ws (Gives verdict.Right) next
      (λ h. absurd (let z : ◌≡◌ {A = ℕ} 0 1 = cc in omega arith)) (λ w h. h)
