-- "A last word cut short is 2 at its index", the job's before all else: whatever the words of the two files are.
use mathlib.Core.Path.{◌≡◌, refl}
use Prim.Native.Nat.{ℕ}
use Rattle.words.specs.Paper.{refusal}
use Rattle.verdict.specs.Verdicts.{Gives}
use Rattle.input.specs.declared.Input.{Input}
use Rattle.input.specs.Read.{cut}
use Rattle.checker.specs.declared.CheckError.TheVariants.{JobRefused}
use Rattle.std.specs.Prelude.{Some, Err}
use Rattle.check_answers.specs.Answers.{files_ruling}
use Rattle.words.specs.declared.Fault.TheVariants.{OutOfSequence}

pub cut-before_all : (job mapping : Input) (place : ℕ) → cut job ≡ Some (refusal OutOfSequence place)
    → files_ruling job mapping ≡ Gives (Err (JobRefused (refusal OutOfSequence place)))
unfolding files_ruling
cut-before_all job mapping place e = rw e refl
