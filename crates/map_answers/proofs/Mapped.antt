-- The words of the mapper's answer are within those lent.
use mathlib.Core.Path.{◌≡◌, sym, subst}
use mathlib.Core.List.{List}
use Prim.Native.Nat.{ℕ, ◌≤◌}
use native.Mathlib.Omega.{arith}
use lib.Dec.{ltb}
use lib.ListN.{length}
use borrow.Author.Tests.{ltb-false}
use Rattle.words.specs.Paper.{refusal}
use Rattle.words.specs.declared.Refusal.{Refusal}
use Rattle.words.proofs.Choices.{either}
use Rattle.reader.specs.Job.{job_of}
use Rattle.std.specs.Prelude.{Option, Some, None, Result, Ok, Err}
use Rattle.reader.specs.declared.Job.{Job}
use Rattle.writer.specs.Write.{words_needed, written_of}
use Rattle.input.specs.declared.Input.{Input}
use Rattle.input.specs.Read.{cut}
use Rattle.mapper.specs.Mapping.{choice_of, answer_to, answer_for, answer_of}
use Rattle.map_answers.specs.Answers.{words_written, answer_at, job_answer}
use Rattle.words.specs.declared.Fault.TheVariants.{TooFewWords}

-- ---- no more words are written than were lent

written_within : (sources : ℕ) (lent : List ℕ) → words_written (written_of sources lent) ≤ length lent
unfolding written_of
written_within sources lent =
    either (λ (w : Result ℕ Refusal). words_written w ≤ length lent) (ltb (length lent) (words_needed sources))
    {x = Err (refusal TooFewWords (words_needed sources))} {y = Ok (words_needed sources)}
    (λ _. omega arith) (λ e. ltb-false (length lent) (words_needed sources) e)

choice_within : (c : Result (List ℕ) ℕ) (lent : List ℕ) → words_written (answer_to c lent) ≤ length lent
choice_within (Err place) lent = omega arith
choice_within (Ok bound) lent = written_within (length bound) lent

read_within : (ws : List ℕ) (r : Result Job Refusal) (lent : List ℕ) → words_written (answer_for ws r lent) ≤ length lent
read_within ws (Err r) lent = omega arith
read_within ws (Ok job) lent = choice_within (choice_of ws job) lent

answer_within : (ws lent : List ℕ) → words_written (answer_of ws lent) ≤ length lent
unfolding answer_of
answer_within ws lent = read_within ws (job_of ws) lent

answer_at_within : (c : Option Refusal) (job lent : List ℕ) → words_written (answer_at c job lent) ≤ length lent
answer_at_within (Some r) job lent = omega arith
answer_at_within None job lent = answer_within job lent

job_within : (input : Input) (lent : List ℕ) → words_written (job_answer input lent) ≤ length lent
unfolding job_answer
job_within input lent = answer_at_within (cut input) input.words lent

pub words_within : (lent after : List ℕ) (input : Input) (a : Result ℕ Refusal) → a ≡ job_answer input lent → length after ≡ length lent
    → words_written a ≤ length after
words_within lent after input a e l =
    subst (λ (x : Result ℕ Refusal). words_written x ≤ length after) (sym e)
    (subst (λ (n : ℕ). words_written (job_answer input lent) ≤ n) (sym l) (job_within input lent))
