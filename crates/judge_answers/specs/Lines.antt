-- The lines of judge_rule: the word, then RIGHT, or WRONG and where, or the refusal.
use Rattle.std.specs.Prelude.{◌≡◌, ℕ, List, ◌++◌, Option, Some, None, Result, Ok, Err}
use Rattle.text.specs.Text.{bytes, hexadecimal, labelled}
use Rattle.lines.specs.Lines.{refusal_text, witness_text}
use Rattle.verdict.specs.Verdicts.{Judged}
use Rattle.verdict.specs.declared.Verdict.TheVariants.{Right as IsRight, Wrong as IsWrong}
use Rattle.verdict.specs.declared.Verdict.{Verdict}
use Rattle.words.specs.declared.Refusal.{Refusal}
use Rattle.judge_answers.specs.Everywhere.{JudgedEverywhere}
use Rattle.judge_answers.specs.declared.WrongAt.{WrongAt}

-- what stands behind the word
abbrev pub judgement_text : Result Verdict Refusal → List ℕ
judgement_text (Ok IsRight) = bytes " RIGHT\n"
judgement_text (Ok (IsWrong v)) = bytes " WRONG" ++ witness_text v ++ bytes "\n"
judgement_text (Err r) = bytes " " ++ refusal_text r ++ bytes "\n"

-- at every width
abbrev pub everywhere_text : Result (Option WrongAt) Refusal → List ℕ
everywhere_text (Ok None) = bytes " RIGHT\n"
everywhere_text (Ok (Some x)) = labelled (bytes " WRONG WIDTH ") x.width ++ witness_text x.witness ++ bytes "\n"
everywhere_text (Err r) = bytes " " ++ refusal_text r ++ bytes "\n"

-- the line of a word judged at a width stands behind what stood before
pub record SaysAt (w n mark : ℕ) (old new : List ℕ) : Type 0 where
  pub answer : Result Verdict Refusal
  pub judged : Judged w n mark answer
  pub text : new ≡ old ++ hexadecimal w ++ judgement_text answer

-- and of one judged at every width
pub record SaysEverywhere (w mark : ℕ) (old new : List ℕ) : Type 0 where
  pub answer : Result (Option WrongAt) Refusal
  pub judged : JudgedEverywhere w mark answer
  pub text : new ≡ old ++ hexadecimal w ++ everywhere_text answer
