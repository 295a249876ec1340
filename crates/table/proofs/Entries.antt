-- What is known of a table that lists a function, and of a recipe whose functions are in the job.
use mathlib.Core.Path.{◌≡◌, refl, sym, ap, ◌∙◌}
use mathlib.Core.Bool.{Bool, true, false, not, false≢true}
use mathlib.Core.List.{List}
use Prim.Native.Nat.{ℕ, ◌<◌}
use lib.Dec.{eqb}
use lib.ListN.{length, get_or}
use borrow.Author.Tests.{eq-eqb, eqb-true, not-false}
use Rattle.std.proofs.lemmas.List.{get_or_default}
use Rattle.std.proofs.lemmas.List.Folds.{list_any_at, Any-from_list_any}
use Rattle.std.specs.List.{list_any}
use Rattle.words.specs.Field.{source_function}
use Rattle.words.proofs.Choices.{either}
use Rattle.recipe.specs.Fields.{source_of, target_of, from_scratch}
use Rattle.table.specs.Table.{lists_source, lists_target, has_target, in_job}

-- a word that says f is found in a list, and what is found is a word of the list
module _ (says : ℕ → ℕ) (ws : List ℕ) (f : ℕ) where
  pub found_at : (i : ℕ) → i < length ws → says (get_or ws i 0) ≡ f → list_any (λ w. eqb (says w) f) ws ≡ true
  found_at i h e = list_any_at (λ w. eqb (says w) f) ws i 0 h (eq-eqb (says (get_or ws i 0)) f e)

  pub at_found : list_any (λ w. eqb (says w) f) ws ≡ true → (i : ℕ) × ((i < length ws) × (says (get_or ws i 0) ≡ f))
  at_found e =
      let r = Any-from_list_any (λ w. eqb (says w) f) ws e in
      (r.0, (r.2, ap says (get_or_default ws r.0 0 r.1 r.2 ∙ r.3) ∙ eqb-true (says r.1) f r.4))

-- an entry of a table is listed
pub source_listed : (ws : List ℕ) (i : ℕ) → i < length ws → lists_source ws (source_function (get_or ws i 0)) ≡ true
unfolding lists_source
source_listed ws i h = found_at source_function ws (source_function (get_or ws i 0)) i h refl

-- ---- a recipe's target, and both its functions

module _ (ts : List ℕ) (w : ℕ) (b : Bool) (eb : b ≡ from_scratch w) where
  pub from_target_lem : (t : ℕ) (r : Bool) → b ≡ false → t ≡ target_of w → r ≡ lists_target ts t → r ≡ has_target ts w
  unfolding has_target
  from_target_lem t r h et er = rw (sym eb ∙ h) (er ∙ ap (lists_target ts) et)

module _ (ss ts : List ℕ) (w f : ℕ) (ef : f ≡ source_of w) (b : Bool) (eb : b ≡ lists_source ss f) where
  source_known : lists_source ss (source_of w) ≡ b
  source_known = ap (lists_source ss) (sym ef) ∙ sym eb

  pub source_absent : b ≡ false → b ≡ in_job ss ts w
  unfolding in_job
  source_absent h = rw (source_known ∙ h) h

-- what is in the job has its source there, and its target
pub in_job-parts : (ss ts : List ℕ) (w : ℕ) → in_job ss ts w ≡ true → (lists_source ss (source_of w) ≡ true) × (has_target ts w ≡ true)
unfolding in_job
in_job-parts ss ts w =
    either (λ b. b ≡ true → (lists_source ss (source_of w) ≡ true) × (has_target ts w ≡ true)) (not (lists_source ss (source_of w)))
    (λ _ e. absurd (false≢true e)) (λ h e. (not-false (lists_source ss (source_of w)) h, e))

pub in_job-when : (ss ts : List ℕ) (w : ℕ) → lists_source ss (source_of w) ≡ true → has_target ts w ≡ true → in_job ss ts w ≡ true
unfolding in_job
in_job-when ss ts w p q = rw p q
