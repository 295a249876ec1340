-- The mapper's choice is one usable rule for each source.
use mathlib.Core.Path.{◌≡◌, subst, ◌∙◌}
use mathlib.Core.Bool.{true}
use mathlib.Core.List.{List, []}
use Prim.Native.Nat.{ℕ, ◌<◌}
use native.Mathlib.Nat.{zero-add}
use native.Mathlib.Omega.{arith}
use lib.Dec.{eqb}
use lib.ListN.{length, get_or}
use borrow.Author.Tests.{eqb-true}
use Rattle.words.specs.Kinds.{RULE}
use Rattle.words.proofs.Choices.{and_split}
use Rattle.recipe.specs.Fields.{source_of}
use Rattle.binding.specs.Right.{is_right}
use Rattle.reader.specs.Job.{WellFormedJob}
use Rattle.reader.specs.declared.Job.{Job}
use Rattle.wellformed.proofs.Parts.{RecipeWord}
use Rattle.table.specs.Parts.{sources_of, targets_of, terms_of}
use Rattle.table.specs.Table.{has_target}
use Rattle.claims.specs.Claim.{claim_in}
use Rattle.best.specs.Best.{serves, usable}
use Rattle.std.specs.Prelude.{Ok}
use Rattle.mapper.specs.Mapping.{rules_for, choice_of}
use Rattle.mapper.proofs.Answering.{sources_length}
use Rattle.demands.specs.Mapped.{source_at}
use Rattle.demands.specs.Choice.{LeastAt}
use Rattle.demands.proofs.Parts.{source_at_lem}
use Rattle.demands.proofs.Rules.{each_rule}
use Rattle.demands.proofs.Choice.{Chosen, mapped_chosen}
use Rattle.demands.proofs.Written.{Bindable}

module _ (ws : List ℕ) (job : Job) (e : WellFormedJob ws job) (bound : List ℕ) (eb : choice_of ws job ≡ Ok bound) where
  chosen : Chosen (terms_of ws job) (rules_for ws job) [] (sources_of ws job) bound
  chosen = mapped_chosen (terms_of ws job) (rules_for ws job) (sources_of ws job) [] bound eb

  pub one_each : length bound ≡ job.sources
  one_each = chosen.size ∙ zero-add (length (sources_of ws job)) ∙ sources_length ws job e

  -- the rule of the job's k-th source
  module _ (k : ℕ) (h : k < length bound) where
    pub least_at : LeastAt ws job bound k
    least_at =
        rw (source_at_lem ws job k (omega (arith, one_each))) at
        (rw zero-add at (chosen.least k (omega (arith, one_each, sources_length ws job e))))

    serves-source : (source_of (get_or bound k 0) ≡ source_at ws k) × (usable (terms_of ws job) (get_or bound k 0) ≡ true)
    unfolding serves
    serves-source =
        let w = get_or bound k 0 in
        let s = and_split (eqb (source_of w) (source_at ws k)) (usable (terms_of ws job) w) least_at.usable-rule in
        (eqb-true (source_of w) (source_at ws k) s.0, s.1)

    usable-parts : (has_target (targets_of ws job) (get_or bound k 0) ≡ true)
        × (is_right (claim_in (sources_of ws job) (targets_of ws job) (get_or bound k 0)) job.width ≡ true)
    unfolding usable
    usable-parts =
        and_split (has_target (targets_of ws job) (get_or bound k 0))
        (is_right (claim_in (sources_of ws job) (targets_of ws job) (get_or bound k 0)) job.width) serves-source.1

    pub chosen_rule : RecipeWord RULE (get_or bound k 0)
    chosen_rule = let l = least_at in subst (RecipeWord RULE) l.is_rule (each_rule ws job e l.index l.within)

  pub chosen_bindable : Bindable ws job bound
  chosen_bindable =
      record {
        one_each = one_each;
        its_source = λ k h. (serves-source k h).0;
        faultless = λ k h. (chosen_rule k h).no_fault;
        target_there = λ k h. (usable-parts k h).0;
        is_right_lem = λ k h. (usable-parts k h).1;
      }
