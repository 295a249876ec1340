-- A bench that is sound before a bind is sound after it.
use mathlib.Core.Path.{◌≡◌, refl, sym, ap, ◌∙◌}
use mathlib.Core.Bool.{◌||◌, Bool, true, false, not, false≢true}
use mathlib.Core.List.{List, [], ◌∷◌}
use Prim.Native.Nat.{ℕ, ◌+◌}
use native.Mathlib.Numerals.{one-add}
use lib.Dec.{eqb}
use lib.ListN.{set}
use borrow.Author.Tests.{eq-eqb, eqb-true, not-false}
use Rattle.std.specs.Prelude.{if◌then◌else◌, None, Result, Ok, Err, ⊤}
use Rattle.words.specs.Field.{source_function}
use Rattle.words.specs.declared.Refusal.{Refusal}
use Rattle.words.proofs.Choices.{either}
use Rattle.recipe.specs.Fields.{source_of}
use Rattle.binding.specs.Right.{is_right}
use Rattle.verdict.specs.Verdicts.{Ruling}
use Rattle.table.specs.Table.{lists_source, has_target}
use Rattle.claims.specs.Claim.{claim_in}
use Rattle.table.proofs.Entries.{in_job-parts}
use Rattle.soundness.specs.Sound.{sources_on, targets_on, rule_fault, bindable, entry_sound, bound_sound}
use Rattle.soundness.proofs.Soundness.{sound_holds, sound_when}
use Rattle.bench.specs.Calls.{sound_bench, holding, bind_check, bind_for, claim_on, bind_of, BindRuled, Binds}
use Rattle.entries.proofs.Searching.{place_of}
use Rattle.bench.specs.declared.Bench.{Bench}
use Rattle.bench.specs.declared.After.{After}
use Rattle.bench.proofs.Binds.{Checked, checked, place_for, at_place}

-- one test after another
pub both : (p q : Bool) → (if not p then false else q) ≡ true → (p ≡ true) × (q ≡ true)
both true q e = (refl, e)
both false q e = absurd (false≢true e)

module _ (n : ℕ) (all ts : List ℕ) (w : ℕ) (rule : rule_fault w ≡ None) (target : has_target ts w ≡ true)
    (right : is_right (claim_in all ts w) n ≡ true) where
  -- a recipe that may be bound is sound in its source's entry
  bindable_sound : (s : ℕ) → source_of w ≡ source_function s → entry_sound n all ts s w ≡ true
  unfolding entry_sound bindable
  bindable_sound s source =
      either (λ b. b ≡ true) (eqb w 0) (λ _. refl)
      (λ _. rw rule (rw (eq-eqb (source_of w) (source_function s) source) (rw target right)))

  entries_keep : (ss bs : List ℕ) → lists_source ss (source_of w) ≡ true → bound_sound n all ts ss bs ≡ true
      → bound_sound n all ts ss (set bs (place_of ss (source_of w)) w) ≡ true
  unfolding lists_source bound_sound
  entries_keep [] bs l e = absurd (false≢true l)
  entries_keep (s ∷ ss) [] l e = refl
  entries_keep (s ∷ ss) (x ∷ bs) l e = go (eqb (source_function s) (source_of w)) refl (entries_keep ss bs) l
    where
      go : (c : Bool) → eqb (source_function s) (source_of w) ≡ c
          → (lists_source ss (source_of w) ≡ true → bound_sound n all ts ss bs ≡ true
          → bound_sound n all ts ss (set bs (place_of ss (source_of w)) w) ≡ true)
          → c || lists_source ss (source_of w) ≡ true
          → bound_sound n all ts (s ∷ ss) (set (x ∷ bs) (if not c then 1 + place_of ss (source_of w) else 0) w) ≡ true
      go true h keep u =
          rw (bindable_sound s (sym (eqb-true (source_function s) (source_of w) h)))
          (both (entry_sound n all ts s x) (bound_sound n all ts ss bs) e).1
      go false h keep u =
          let t = both (entry_sound n all ts s x) (bound_sound n all ts ss bs) e in
          rw one-add (rw t.0 (keep u t.1))

-- what was bound is sound
pub bound_sound_lem : (b : Bench) (w : ℕ) → Checked b w → is_right (claim_on b w) b.tables.width ≡ true
    → sound_bench (holding b (set b.bound (place_for b (source_of w)) w)) ≡ true
bound_sound_lem b w c right =
    let s = sound_holds b.tables b.bound b.glue c.sound in
    let ss = sources_on b.tables in
    let ts = targets_on b.tables in
    let t = in_job-parts ss ts w c.there in
    sound_when b.tables (set b.bound (place_for b (source_of w)) w) _
    (record {
      tables = s.tables;
      past_sources = s.past_sources;
      past_targets = s.past_targets;
      entries = entries_keep b.tables.width ss ts w c.a_rule t.1 right ss b.bound t.0 s.entries;
      count = refl;
    })

-- after any bind, accepted or refused
pub bind_keeps_sound : (b : Bench) (w : ℕ) (r : After ⊤) → Binds b w r → sound_bench b ≡ true → sound_bench r.bench ≡ true
unfolding bind_of
bind_keeps_sound b w r a s = go (bind_check b w) refl a
  where
    go : (x : Result ⊤ Refusal) → bind_check b w ≡ x → BindRuled b (bind_for b w x) r → sound_bench r.bench ≡ true
    go (Err x) f = λ e. ap (λ (x : After ⊤). sound_bench x.bench) e ∙ s
    go (Ok tt) f =
        let c = checked b w f in
        either (λ (x : Ruling (After ⊤)). BindRuled b x r → sound_bench r.bench ≡ true) (not (is_right (claim_on b w) b.tables.width))
        (λ _ e. ap sound_bench e.0 ∙ s)
        (λ right e. ap (λ (x : After ⊤). sound_bench x.bench) e ∙ ap sound_bench (at_place b (source_of w) w)
        ∙ bound_sound_lem b w c (not-false (is_right (claim_on b w) b.tables.width) right))
