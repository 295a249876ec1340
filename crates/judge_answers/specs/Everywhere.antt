-- A recipe word judged at every width from 1 to 64, by whether its target is marked.
use Rattle.std.specs.Prelude.{ℕ, ◌≤◌, ◌<◌, Option, Some, None, Result, Ok, Err}
use Rattle.words.specs.declared.Refusal.{Refusal}
use Rattle.verdict.specs.Verdicts.{Judged}
use Rattle.verdict.specs.declared.Verdict.TheVariants.{Right as IsRight, Wrong as IsWrong}
use Rattle.judge_answers.specs.declared.WrongAt.{WrongAt}

-- right at each width below n
abbrev pub RightBelow : ℕ → ℕ → ℕ → Type 0
RightBelow w mark n = (m : ℕ) → 1 ≤ m → m < n → Judged w m mark (Ok IsRight)

-- right at every width; or the least width at which it is not, and operands there; or refused, as at any width
abbrev pub JudgedEverywhere : ℕ → ℕ → Result (Option WrongAt) Refusal → Type 0
JudgedEverywhere w mark (Ok None) = RightBelow w mark 65
JudgedEverywhere w mark (Ok (Some x)) =
    (1 ≤ x.width) × (x.width ≤ 64) × RightBelow w mark x.width × Judged w x.width mark (Ok (IsWrong x.witness))
JudgedEverywhere w mark (Err r) = Judged w 1 mark (Err r)
