-- The ways out of a bind.
use mathlib.Core.Path.{◌≡◌, refl, sym, ap, subst, ◌∙◌}
use mathlib.Core.Bool.{true, false, not}
use Prim.Native.Nat.{ℕ, ◌<◌}
use lib.ListN.{length, set}
use borrow.Author.Tests.{not-false}
use Rattle.std.specs.Prelude.{Option, Some, None, Result, Ok, Err, ⊤}
use Rattle.words.specs.Paper.{unless_fault}
use Rattle.words.specs.declared.Fault.{Fault}
use Rattle.words.specs.declared.Refusal.{Refusal}
use Rattle.words.specs.declared.Witness.{Witness}
use Rattle.words.proofs.Choices.{either}
use Rattle.recipe.specs.Fields.{source_of}
use Rattle.verdict.specs.Verdicts.{Says}
use Rattle.verdict.specs.declared.Verdict.{Verdict}
use Rattle.verdict.specs.declared.Verdict.TheVariants as verdict
use Rattle.verdict.proofs.Verdicting.{right_says, wrong_says}
use Rattle.table.proofs.Entries.{in_job-parts}
use Rattle.soundness.specs.Sound.{sources_on, targets_on, rule_fault}
use Rattle.bench.specs.Calls.{sound_bench, holding, gives, in_tables, entry_for, has_binding, bound_at, table_check, bind_check, claim_on, bind_of, Binds}
use Rattle.bench.specs.declared.Bench.{Bench}
use Rattle.bench.specs.declared.CallError.TheVariants.{Wrong}
use Rattle.entries.proofs.Searching.{place_of, lists_entry, at_entry}

-- ---- the entry

-- where the source of a function stands
abbrev pub place_for : Bench → ℕ → ℕ
place_for b f = place_of (sources_on b.tables) f

pub at_place : (b : Bench) (f w : ℕ) → bound_at b (entry_for b f) w ≡ holding b (set b.bound (place_for b f) w)
at_place b f w = at_entry (sources_on b.tables) f (λ o i. bound_at b o w ≡ holding b (set b.bound i w)) (λ i. refl) refl

-- a source of the tables has an entry
pub tables_entry : (b : Bench) (w : ℕ) → in_tables b w ≡ true → place_for b (source_of w) < length (sources_on b.tables)
tables_entry b w t =
    lists_entry (sources_on b.tables) (source_of w) (in_job-parts (sources_on b.tables) (targets_on b.tables) w t).0

-- ---- what a bind that is not refused before 10 has shown

pub record Checked (b : Bench) (w : ℕ) : Type 0 where
  pub sound : sound_bench b ≡ true
  pub a_rule : rule_fault w ≡ None
  pub there : in_tables b w ≡ true
  pub free : has_binding b (source_of w) ≡ false

pub checked : (b : Bench) (w : ℕ) → bind_check b w ≡ Ok tt → Checked b w
unfolding bind_check table_check
checked b w =
    let Q : Result ⊤ Refusal → Type 0 = λ x. x ≡ Ok tt → Checked b w in
    either Q (not (sound_bench b)) (λ _ e. absurd cc) (λ s. by_fault (not-false (sound_bench b) s) (rule_fault w) refl)
  where
    by_fault : sound_bench b ≡ true → (o : Option Fault) → rule_fault w ≡ o → unless_fault o 0 (table_check b w) ≡ Ok tt → Checked b w
    by_fault s (Some fault) r = λ e. absurd cc
    by_fault s None r =
        let Q : Result ⊤ Refusal → Type 0 = λ x. x ≡ Ok tt → Checked b w in
        either Q (not (in_tables b w)) (λ _ e. absurd cc)
        (λ t. either Q (has_binding b (source_of w)) (λ _ e. absurd cc)
        (λ f _. record { sound = s; a_rule = r; there = not-false (in_tables b w) t; free = f }))

-- ---- the call

module _ (b : Bench) (w : ℕ) (r : Result ⊤ Refusal) (er : r ≡ bind_check b w) where
  module _ (u : ⊤) (ok : r ≡ Ok u) where
    module _ (v : Verdict) (says : Says (claim_on b w) b.tables.width v) where
      pub bind_right : (f : ℕ) (a : Bench) → v ≡ verdict.Right → f ≡ source_of w → a ≡ bound_at b (entry_for b f) w
          → Binds b w (gives a (Ok tt))
      unfolding bind_of
      bind_right f a ev ef ea =
          rw (sym er ∙ ok)
          (rw (sym (right_says (claim_on b w) b.tables.width v says ev))
          (ap (λ (y : Bench). gives y (Ok tt)) (ea ∙ ap (λ (y : ℕ). bound_at b (entry_for b y) w) ef)))

      pub bind_wrong : (z : Witness) → v ≡ verdict.Wrong z → Binds b w (gives b (Err (Wrong z)))
      unfolding bind_of
      bind_wrong z ev =
          rw (sym er ∙ ok)
          (rw (sym (wrong_says (claim_on b w) b.tables.width v says z ev)) (refl, subst (Says (claim_on b w) b.tables.width) ev says))
