-- Document 01, refusal 10, of the bindings of a mapping under the terms of its job.
use Rattle.std.specs.Prelude.{ℕ, not, List, [], ◌∷◌, if◌then◌else◌}
use Rattle.binding.specs.Right.{is_right}
use Rattle.verdict.specs.Verdicts.{Ruling, Names}
use Rattle.table.specs.Parts.{Terms}
use Rattle.claims.specs.Claim.{claim_in}

-- "10. A wrong recipe; place: its function (lowest)." Bindings rise by function, so it is the first that is wrong; where none is, what
-- comes next.
unfoldable pub unless_wrong : {A : Type 0} → Terms → List ℕ → Ruling A → Ruling A
unless_wrong t [] next = next
unless_wrong t (w ∷ ws) next =
    if not (is_right (claim_in t.sources t.targets w) t.width)
    then Names (claim_in t.sources t.targets w) t.width
    else unless_wrong t ws next
