-- What a rule or a binding claims: document 01, "What a binding shows", and request #105.
use Rattle.std.specs.Prelude.{ℕ, List}
use Rattle.recipe.specs.Fields.{target_of}
use Rattle.binding.specs.Right.{claim_against}
use Rattle.binding.specs.declared.Claim.{Claim}
use Rattle.table.specs.Table.{lists_negated}

-- The side and the recipe that are compared to judge a rule or a binding of a job with these source and target words. "Rightness is
-- judged everywhere, the book's rules included, against the target as marked." A source word holds a function and nothing else, so the
-- sources have no say in it.
abbrev pub claim_in : List ℕ → List ℕ → ℕ → Claim
claim_in sources targets w = claim_against (lists_negated targets (target_of w)) w
