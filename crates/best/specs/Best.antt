-- Document 01, "Mapper and bench": the best rule for a source, "the usable rule that makes the glue .. least, the earlier rule on equal glue".
use Rattle.std.specs.Prelude.{ℕ, Bool, true, ◌&&◌, List, [], ◌∷◌, Option, Some, None, eqb, ltb, if◌then◌else◌}
use Rattle.recipe.specs.Fields.{source_of}
use Rattle.binding.specs.Right.{is_right}
use Rattle.table.specs.Parts.{Terms}
use Rattle.table.specs.Table.{has_target}
use Rattle.claims.specs.Claim.{claim_in}
use Rattle.best.specs.declared.Best.{Best}

-- "A rule is usable if its target is 0 or in the job and its recipe is right."
unfoldable pub usable : Terms → ℕ → Bool
usable t w = has_target t.targets w && is_right (claim_in t.sources t.targets w) t.width

-- a usable rule for a function
unfoldable pub serves : Terms → ℕ → ℕ → Bool
serves t f w = eqb (source_of w) f && usable t w

-- a rule that makes this glue is better than the best so far, if there is one: "least, the earlier rule on equal glue"
unfoldable pub beats : Option Best → ℕ → Bool
beats None total = true
beats (Some best) total = ltb total best.total

-- one rule more, where `glue_with` says what glue a rule makes
unfoldable pub better : (ℕ → ℕ) → Terms → ℕ → Option Best → ℕ → Option Best
better glue_with t f best w =
    if serves t f w then if beats best (glue_with w) then Some (record { word = w; total = glue_with w }) else best else best

-- some rules more
unfoldable pub best_of : (ℕ → ℕ) → Terms → ℕ → Option Best → List ℕ → Option Best
best_of glue_with t f best [] = best
best_of glue_with t f best (w ∷ ws) = best_of glue_with t f (better glue_with t f best w) ws
