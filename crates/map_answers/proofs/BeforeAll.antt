-- "A last word cut short is 2 at its index, before all else": whatever the words are.
use mathlib.Core.Path.{◌≡◌, refl}
use mathlib.Core.List.{List}
use Prim.Native.Nat.{ℕ}
use Rattle.words.specs.Paper.{refusal}
use Rattle.words.specs.declared.Fault.TheVariants.{OutOfSequence}
use Rattle.input.specs.declared.Input.{Input}
use Rattle.input.specs.Read.{cut}
use Rattle.std.specs.Prelude.{Some, Err}
use Rattle.map_answers.specs.Answers.{job_answer, job_lent}

module _ (input : Input) (lent : List ℕ) (place : ℕ) (e : cut input ≡ Some (refusal OutOfSequence place)) where
  pub cut-before_all : job_answer input lent ≡ Err (refusal OutOfSequence place)
  unfolding job_answer
  cut-before_all = rw e refl

  pub cut-writes_nothing : job_lent input lent ≡ lent
  unfolding job_lent
  cut-writes_nothing = rw e refl
