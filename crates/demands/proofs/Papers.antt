-- The checker's paper tells an acceptance from every refusal: no refusal has the number 0.
use mathlib.Core.Path.{◌≡◌, refl, ap, subst}
use mathlib.Core.Bool.{true, false≢true}
use mathlib.Core.List.{List, []}
use Prim.Native.Nat.{ℕ}
use Rattle.words.specs.Paper.{Paper, number_of, no_refusal, accepted}
use Rattle.checker.specs.Check.{paper_of, Checks}
use Rattle.std.specs.Prelude.{is_ok, Result, Ok, Err, ⊤}
use Rattle.checker.specs.declared.CheckError.{CheckError}
use Rattle.checker.specs.declared.CheckError.TheVariants.{JobRefused, MappingRefused, Refused, Wrong}
use Rattle.demands.specs.Answers.{among, check_numbers}
use Rattle.demands.proofs.Numbered.{Listed, check_number}

unlisted : {Q : Type 0} (n : ℕ) → among check_numbers n ≡ true → n ≡ no_refusal → Q
unlisted n h e = absurd (false≢true (subst (λ (x : ℕ). among check_numbers x ≡ true) e h))

pub accepted_paper : (jw mw : List ℕ) (r : Result ⊤ CheckError) → Checks jw mw r → paper_of r ≡ accepted [] → r ≡ Ok tt
accepted_paper jw mw r answer e = by_answer r ((check_number jw mw).listed r answer) (ap (λ (p : Paper). p.number) e)
  where
    by_answer : (r : Result ⊤ CheckError) → Listed is_ok paper_of check_numbers r → (paper_of r).number ≡ no_refusal → r ≡ Ok tt
    by_answer (Ok tt) h n = refl
    by_answer (Err (JobRefused x)) h n = unlisted (number_of x.fault) h n
    by_answer (Err (MappingRefused x)) h n = unlisted (number_of x.fault) h n
    by_answer (Err (Refused x)) h n = unlisted (number_of x.fault) h n
    by_answer (Err (Wrong v)) h n = unlisted 10 h n
