-- The rules that the mapper's choice ranges over: the job's own and, where the job asks for it, the book's behind them.
use mathlib.Core.Path.{◌≡◌, refl, ap, ◌∙◌}
use mathlib.Core.Bool.{Bool, true, false}
use mathlib.Core.List.{List, []}
use Prim.Native.Nat.{ℕ, ◌+◌, ◌-◌, ◌<◌}
use native.Mathlib.Decide.{dec_lt}
use native.Mathlib.Omega.{arith}
use lib.ListN.{length, get_or, length-append, length-drop, get_or-append}
use lib.Seq.{get_or-drop, get_or-append-add}
use borrow.Author.Tests.{eq-eqb}
use Rattle.std.specs.Prelude.{if◌then◌else◌}
use Rattle.words.specs.Kinds.{RULE}
use Rattle.words.proofs.Choices.{and_join}
use Rattle.binding.specs.Binding.{plain, recipe_of}
use Rattle.binding.specs.Right.{is_right_for}
use Rattle.binding.specs.declared.Recipe.{Recipe}
use Rattle.binding.proofs.Tests.{right_test}
use Rattle.recipe.specs.Fields.{source_of, target_of, from_scratch}
use Rattle.book.specs.Book.{book}
use Rattle.book.proofs.Laws.{each_is_a_rule, each_is_right}
use Rattle.reader.specs.Job.{WellFormedJob}
use Rattle.reader.specs.Starts.{rules_start}
use Rattle.reader.specs.declared.Job.{Job}
use Rattle.wellformed.proofs.Parts.{RecipeWord}
use Rattle.alu.proofs.Shown.{is_width_lem}
use Rattle.wellformed.proofs.JobWords.{JobFacts, well_formed}
use Rattle.table.specs.Parts.{targets_of, rules_of, terms_of}
use Rattle.table.specs.Table.{lists_negated}
use Rattle.best.specs.Best.{usable, serves}
use Rattle.mapper.specs.Mapping.{book_of, rules_for}
use Rattle.demands.specs.Mapped.{source_at}
use Rattle.demands.specs.Choice.{BookHas, ServedAt}

module _ (ws : List ℕ) (job : Job) (e : WellFormedJob ws job) where
  facts : JobFacts ws job
  facts = well_formed ws job e

  -- ---- each passes 3, 5 and 6: the job's own because the job is well formed, the book's by the book's law

  own_rule : (i : ℕ) → i < length (rules_of ws job) → RecipeWord RULE (get_or (rules_of ws job) i 0)
  own_rule i h =
      rw (get_or-drop (rules_start job) ws i 0) (facts.rule_words i (omega (arith, length-drop (rules_start job) ws, facts.size)))

  book-rule : (b : Bool) (i : ℕ) → i < length (if b then book else []) → RecipeWord RULE (get_or (if b then book else []) i 0)
  book-rule true i h = let r = each_is_a_rule i h in record { kind_is = r.0; no_fault = r.1 }
  book-rule false i h = absurd (omega arith)

  -- where a rule of the book stands
  behind : (k : ℕ) → get_or (rules_for ws job) (length (rules_of ws job) + k) 0 ≡ get_or (book_of job) k 0
  behind k = get_or-append-add (rules_of ws job) (book_of job) k 0

  both : length (rules_for ws job) ≡ length (rules_of ws job) + length (book_of job)
  both = length-append (rules_of ws job) (book_of job)

  pub each_rule : (i : ℕ) → i < length (rules_for ws job) → RecipeWord RULE (get_or (rules_for ws job) i 0)
  each_rule i h =
      elim (dec_lt i (length (rules_of ws job))) [
        | yes l ↦ rw (get_or-append (rules_of ws job) (book_of job) 0 i l) (own_rule i l)
        | no l ↦
            let k = i - length (rules_of ws job) in
            let at : i ≡ length (rules_of ws job) + k = omega arith in
            rw (ap (λ (x : ℕ). get_or (rules_for ws job) x 0) at ∙ behind k) (book-rule job.book k (omega (arith, both)))
      ]

  -- ---- a rule of the book is usable wherever its target is to be had, and not negated

  module _ (asked : job.book ≡ true) (k : ℕ) (b : BookHas (targets_of ws job) (source_at ws k)) where
    in_book : book_of job ≡ book
    in_book = rw asked refl

    -- from scratch no mark counts, and of a target that is not negated there is none
    as_plain : (scratch : Bool) → from_scratch (get_or book b.index 0) ≡ scratch
        → recipe_of (lists_negated (targets_of ws job) (target_of (get_or book b.index 0))) (get_or book b.index 0)
        ≡ recipe_of false (get_or book b.index 0)
    unfolding recipe_of
    as_plain true e = rw e refl
    as_plain false e = ap (λ (negated : Bool). recipe_of negated (get_or book b.index 0)) (b.target_plain e)

    rule_serves : serves (terms_of ws job) (source_at ws k) (get_or book b.index 0) ≡ true
    unfolding serves usable
    rule_serves =
        let w = get_or book b.index 0 in
        let right = each_is_right b.index b.within job.width (is_width_lem job.width facts.width_least facts.width_most) in
        and_join (eq-eqb (source_of w) (source_at ws k) b.its_source)
        (and_join b.target_there
        (ap (λ (t : Recipe). is_right_for (plain (source_of w)) t job.width) (as_plain (from_scratch w) refl)
        ∙ (right_test (plain (source_of w)) (recipe_of false w) job.width).1 right))

    pub book-serves : ServedAt ws job k
    book-serves =
        record {
          index = length (rules_of ws job) + b.index;
          within = omega (arith, both, ap length in_book, b.within);
          is_served = rw (behind b.index ∙ ap (λ (x : List ℕ). get_or x b.index 0) in_book) rule_serves;
        }
