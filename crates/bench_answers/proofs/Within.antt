-- A finish writes no more words than were lent.
use mathlib.Core.Path.{◌≡◌, sym, subst}
use mathlib.Core.Bool.{not}
use mathlib.Core.List.{List}
use Prim.Native.Nat.{ℕ, ◌≤◌}
use native.Mathlib.Omega.{arith}
use borrow.Author.Tests.{ltb-false}
use lib.Dec.{ltb}
use lib.ListN.{length}
use Rattle.std.specs.Prelude.{Option, None, Some, Result, Ok, Err}
use Rattle.words.specs.Paper.{refusal}
use Rattle.words.specs.declared.Refusal.{Refusal}
use Rattle.words.proofs.Choices.{either}
use Rattle.writer.specs.Write.{words_needed, written_of}
use Rattle.bench.specs.Calls.{sound_bench, unbound_on, finish_for, finish_written, finish_of}
use Rattle.bench.specs.declared.Bench.{Bench}
use Rattle.bench.specs.declared.After.{After}
use Rattle.bench.specs.declared.CallError.{CallError}
use Rattle.bench.specs.declared.CallError.TheVariants.{Refused}
use Rattle.bench_answers.specs.Answers.{words_finished}
use Rattle.words.specs.declared.Fault.TheVariants.{NotSound, TooFewWords}

written_within : (sources : ℕ) (lent : List ℕ) → words_finished (finish_written (written_of sources lent)) ≤ length lent
unfolding written_of
written_within sources lent =
    either (λ (w : Result ℕ Refusal). words_finished (finish_written w) ≤ length lent) (ltb (length lent) (words_needed sources))
    {x = Err (refusal TooFewWords (words_needed sources))} {y = Ok (words_needed sources)}
    (λ _. omega arith) (λ e. ltb-false (length lent) (words_needed sources) e)

finish_most : (b : Bench) (lent : List ℕ) → words_finished (finish_of b lent).answer ≤ length lent
unfolding finish_of
finish_most b lent =
    either (λ (a : Result ℕ CallError). words_finished a ≤ length lent) (not (sound_bench b)) {x = Err (Refused (refusal NotSound 0))}
    {y = finish_for b lent (unbound_on b)}
    (λ _. omega arith) (λ _. by_unbound (unbound_on b))
  where
    by_unbound : (u : Option ℕ) → words_finished (finish_for b lent u) ≤ length lent
    by_unbound (Some f) = omega arith
    by_unbound None = written_within b.tables.nsources lent

module _ (b : Bench) (lent : List ℕ) (call : After ℕ) (e : call ≡ finish_of b lent) where
  finish_within : words_finished call.answer ≤ length lent
  finish_within = subst (λ (x : After ℕ). words_finished x.answer ≤ length lent) (sym e) (finish_most b lent)

  pub finish_within_now : (now : List ℕ) → length now ≡ length lent → words_finished call.answer ≤ length now
  finish_within_now now l = omega (arith, l, finish_within)

  pub words_within : (n : ℕ) → n ≡ words_finished call.answer → n ≤ length lent
  words_within n w = omega (arith, w, finish_within)
