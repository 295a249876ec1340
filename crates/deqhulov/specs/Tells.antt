-- What the exported calls tell their caller: an answer in document 01's numbers.
use Rattle.std.specs.Prelude.{ℕ, List, Result, ⊤}
use Rattle.verdict.specs.Verdicts.{Judged, judgement_paper}
use Rattle.checker.specs.declared.CheckError.{CheckError}
use Rattle.verdict.specs.declared.Verdict.{Verdict}
use Rattle.words.specs.declared.Refusal.{Refusal}
use Rattle.checker.specs.Check.{Checks}
use Rattle.checker.specs.Check as checker
use Rattle.report.specs.Told.{Told}

-- the checker's answer to a job and a mapping is told
pub record TellsCheck (job mapping : List ℕ) (number place : ℕ) (out after : List ℕ) : Type 0 where
  pub answer : Result ⊤ CheckError
  pub checks : Checks job mapping answer
  pub told : Told (checker.paper_of answer) number place out after

-- the judgement on a recipe word at a width, by whether its target is marked, is told
pub record TellsJudgement (word width mark number place : ℕ) (out after : List ℕ) : Type 0 where
  pub answer : Result Verdict Refusal
  pub judged : Judged word width mark answer
  pub told : Told (judgement_paper answer) number place out after
