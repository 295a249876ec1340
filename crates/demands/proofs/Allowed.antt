-- A bind that is accepted: when it is, what the bench is afterwards, and that two of them may change places.
use mathlib.Core.Path.{◌≡◌, refl, sym, ap, subst, ◌∙◌}
use mathlib.Core.Bool.{true, not, false≢true}
use mathlib.Core.List.{[]}
use Prim.Native.Nat.{ℕ, ◌<◌}
use native.Mathlib.Omega.{arith}
use lib.ListN.{length, get_or, set, length-take}
use lib.Seq.{get_or-set_same, get_or-set_other, set_comm}
use borrow.Author.Tests.{not-false}
use Rattle.words.specs.Paper.{Paper, number_of, accepted}
use Rattle.words.proofs.Choices.{either}
use Rattle.recipe.specs.Fields.{source_of}
use Rattle.binding.specs.Right.{is_right}
use Rattle.binding.specs.declared.Claim.{Claim}
use Rattle.verdict.specs.Verdicts.{Ruling, Gives}
use Rattle.sequence.specs.Limits.{most_sources}
use Rattle.soundness.specs.Sound.{sources_on, rule_fault}
use Rattle.soundness.proofs.Soundness.{sound_sources}
use Rattle.entries.proofs.Searching.{nothing_there, not_bound}
use Rattle.bench.specs.Calls.{sound_bench, holding, gives, table_check, bind_check, bind_for, claim_on, bind_of, WrongAt, BindRuled, Binds, paper_of}
use Rattle.bench.specs.declared.Bench.{Bench}
use Rattle.bench.specs.declared.CallError.{CallError}
use Rattle.bench.specs.declared.CallError.TheVariants.{Refused, Wrong}
use Rattle.std.specs.Prelude.{None, Result, Ok, Err, ⊤}
use Rattle.std.proofs.lemmas.Option.{none-some}
use Rattle.words.specs.declared.Fault.TheVariants.{OutOfSequence}
use Rattle.words.specs.declared.Refusal.{Refusal}
use Rattle.demands.specs.Answers.{among, bind_numbers}
use Rattle.demands.proofs.Numbered.{check_refused}
use Rattle.bench.specs.declared.After.{After}
use Rattle.bench.proofs.Binds.{Checked, checked, place_for, at_place, tables_entry}
use Rattle.demands.proofs.Keeping.{bound_sound_lem}

-- no refusal of bind holds
pub record Allowed (b : Bench) (w : ℕ) : Type 0 where
  pub unrefused : Checked b w
  pub right : is_right (claim_on b w) b.tables.width ≡ true

-- the bench after a word is bound
abbrev pub bound_on : Bench → ℕ → Bench
bound_on b w = holding b (set b.bound (place_for b (source_of w)) w)

-- ---- the answer

passes : (b : Bench) (w : ℕ) → Checked b w → bind_check b w ≡ Ok tt
unfolding bind_check table_check
passes b w c = rw c.sound (rw c.a_rule (rw c.there (rw c.free refl)))

pub allowed_gives : (b : Bench) (w : ℕ) → Allowed b w → bind_of b w ≡ Gives (gives (bound_on b w) (Ok tt))
unfolding bind_of
allowed_gives b w a =
    rw (passes b w a.unrefused)
    (rw a.right (ap (λ (x : Bench). Gives (gives x (Ok tt))) (at_place b (source_of w) w)))

-- the answer's paper tells which it was; refused, the bench is as it was
pub data Outcome (b : Bench) (w : ℕ) (r : After ⊤) : Type 0 where
  Bound : Allowed b w → r ≡ gives (bound_on b w) (Ok tt) → Outcome b w r
  Unchanged : (paper_of r.answer ≡ accepted [] → ⊥) → r.bench ≡ b → Outcome b w r

-- 0 is no number of a refused bind
listed_some : (n : ℕ) → among bind_numbers n ≡ true → n ≡ 0 → ⊥
listed_some n h e = false≢true (subst (λ (x : ℕ). among bind_numbers x ≡ true) e h)

wrong_paper_lem : (c : Claim) (n : ℕ) (a : Result ⊤ CallError) → WrongAt c n a → paper_of a ≡ accepted [] → ⊥
wrong_paper_lem c n (Ok tt) h e = h
wrong_paper_lem c n (Err (Refused r)) h e = h
wrong_paper_lem c n (Err (Wrong v)) h e = let z : ◌≡◌ {A = ℕ} 10 0 = ap (λ (p : Paper). p.number) e in omega arith

pub outcome : (b : Bench) (w : ℕ) (r : After ⊤) → Binds b w r → Outcome b w r
unfolding bind_of
outcome b w r a = go (bind_check b w) refl a
  where
    go : (x : Result ⊤ Refusal) → bind_check b w ≡ x → BindRuled b (bind_for b w x) r → Outcome b w r
    go (Err x) f =
        λ e.
        Unchanged
        (λ p. listed_some (number_of x.fault) (check_refused b w x f)
        (sym (ap (λ (x : After ⊤). (paper_of x.answer).number) e) ∙ ap (λ (x : Paper). x.number) p))
        (ap (λ (x : After ⊤). x.bench) e)
    go (Ok tt) f =
        let c = checked b w f in
        either (λ (x : Ruling (After ⊤)). BindRuled b x r → Outcome b w r) (not (is_right (claim_on b w) b.tables.width))
        (λ _ e. Unchanged (wrong_paper_lem (claim_on b w) b.tables.width r.answer e.1) e.0)
        (λ right e. Bound
        (record { unrefused = c; right = not-false (is_right (claim_on b w) b.tables.width) right })
        (e ∙ ap (λ (x : Bench). gives x (Ok tt)) (at_place b (source_of w) w)))

-- ---- two binds change places

pub rule_some : (w : ℕ) → rule_fault w ≡ None → w ≡ 0 → ⊥
unfolding rule_fault
rule_some w h e = none-some OutOfSequence (sym h ∙ ap rule_fault e)

pub nothing-there : (b : Bench) (w : ℕ) → Checked b w → get_or b.bound (place_for b (source_of w)) 0 ≡ 0
nothing-there b w c = nothing_there (sources_on b.tables) (source_of w) b.bound c.free

pub allowed_sound : (b : Bench) (w : ℕ) → Allowed b w → sound_bench (bound_on b w) ≡ true
allowed_sound b w a = bound_sound_lem b w a.unrefused a.right

module _ (b : Bench) (n : length b.bound ≡ most_sources) (x y : ℕ) (a : Allowed b x) (c : Allowed (bound_on b x) y) where
  within : place_for b (source_of x) < length b.bound
  within =
      omega (
        arith,
        tables_entry b x a.unrefused.there,
        length-take b.tables.nsources b.tables.sources,
        sound_sources b.tables b.bound b.glue a.unrefused.sound,
      )

  there_empty : get_or (set b.bound (place_for b (source_of x)) x) (place_for b (source_of y)) 0 ≡ 0
  there_empty = nothing-there (bound_on b x) y c.unrefused

  -- the second would find the first in its entry
  apart : place_for b (source_of y) ≡ place_for b (source_of x) → ⊥
  apart e =
      rule_some x a.unrefused.a_rule
      (sym (get_or-set_same b.bound (place_for b (source_of x)) x 0 within)
      ∙ ap (λ (i : ℕ). get_or (set b.bound (place_for b (source_of x)) x) i 0) (sym e)
      ∙ there_empty)

  pub second_first : Allowed b y
  second_first =
      record {
        unrefused = record {
          sound = a.unrefused.sound;
          a_rule = c.unrefused.a_rule;
          there = c.unrefused.there;
          free = not_bound (sources_on b.tables) (source_of y) b.bound (sym (get_or-set_other b.bound (place_for b (source_of x)) (place_for b (source_of y)) x 0 apart) ∙ there_empty);
        };
        right = c.right;
      }

  pub first_second : Allowed (bound_on b y) x
  first_second =
      record {
        unrefused = record {
          sound = allowed_sound b y second_first;
          a_rule = a.unrefused.a_rule;
          there = a.unrefused.there;
          free =
              not_bound (sources_on b.tables) (source_of x) (bound_on b y).bound
              (get_or-set_other b.bound (place_for b (source_of y)) (place_for b (source_of x)) y 0 (λ e. apart (sym e))
              ∙ nothing-there b x a.unrefused);
        };
        right = a.right;
      }

  pub same_bench : bound_on (bound_on b x) y ≡ bound_on (bound_on b y) x
  same_bench =
      ap (holding b) (set_comm b.bound (place_for b (source_of x)) (place_for b (source_of y)) x y (λ e. apart (sym e)))
