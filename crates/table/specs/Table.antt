-- What stands in a job's tables of source and target words.
use Rattle.std.specs.List.{list_any}
use Rattle.std.specs.Prelude.{ℕ, Bool, true, false, not, ◌&&◌, List, eqb, if◌then◌else◌}
use Rattle.words.specs.Field.{source_function, target_function, target_negated}
use Rattle.recipe.specs.Fields.{source_of, target_of, from_scratch}

-- a function is among the sources
unfoldable pub lists_source : List ℕ → ℕ → Bool
lists_source sources f = list_any (λ s. eqb (source_function s) f) sources

-- a function is among the targets
unfoldable pub lists_target : List ℕ → ℕ → Bool
lists_target targets f = list_any (λ t. eqb (target_function t) f) targets

-- a function is among them, negated
unfoldable pub lists_negated : List ℕ → ℕ → Bool
lists_negated targets f = list_any (λ t. eqb (target_function t) f && target_negated t) targets

-- "its target is 0 or in the job"
unfoldable pub has_target : List ℕ → ℕ → Bool
has_target targets w = if from_scratch w then true else lists_target targets (target_of w)

-- not "8. Source or target function not in the job"
unfoldable pub in_job : List ℕ → List ℕ → ℕ → Bool
in_job sources targets w = if not (lists_source sources (source_of w)) then false else has_target targets w
