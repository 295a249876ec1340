-- Rightness: "A binding, or the recipe of a rule, is right if at the job's width, for every left, every right and both carries, its
-- four ports equal those of its source function at the same left, right and carry; else it is wrong."
use Rattle.std.specs.Prelude.{ℕ, zero, suc, ◌^◌, ◌<◌, ◌≡◌, Bool, true, false, ◌&&◌, eqb}
use Rattle.std.specs.Bool.{beq}
use Rattle.words.specs.Paper.{source_place}
use Rattle.bits.specs.declared.Ports.{Ports}
use Rattle.recipe.specs.Fields.{source_of}
use Rattle.binding.specs.Binding.{plain, side_shows, recipe_of, shows}
use Rattle.binding.specs.declared.Side.{Side}
use Rattle.binding.specs.declared.Recipe.{Recipe}
use Rattle.binding.specs.declared.Claim.{Claim}

-- a recipe shows at these operands what a source side shows
abbrev pub Agrees : Side → Recipe → ℕ → ℕ → ℕ → Bool → Type 0
Agrees s t n left right carry = shows t n left right carry ≡ side_shows s n left right carry

abbrev pub RightFor : Side → Recipe → ℕ → Type 0
RightFor s t n = (left right : ℕ) (carry : Bool) → left < 2 ^ n → right < 2 ^ n → Agrees s t n left right carry

-- What is claimed of a recipe: that it shows what the side of its source shows. A claim holds, so the recipe is right, at width n
abbrev pub Right : Claim → ℕ → Type 0
Right c n = RightFor c.source c.recipe n

-- the claim of a recipe word whose target is negated or not: its source function on its own inputs
abbrev pub claim_against : Bool → ℕ → Claim
claim_against negated w =
    record { function = source_place (source_of w); source = plain (source_of w); recipe = recipe_of negated w }

-- and of one whose target is plain
abbrev pub claim_of : ℕ → Claim
claim_of w = claim_against false w

-- ---- the same as a test, for definitions that choose by it. It is never computed: it tries all operands.

-- p at each number below n
unfoldable pub every : ℕ → (ℕ → Bool) → Bool
every zero p = true
every (suc k) p = every k p && p k

abbrev pub same_ports : Ports → Ports → Bool
same_ports p q =
    eqb p.o0 q.o0 && (beq p.ocout q.ocout && (beq p.ovf q.ovf && beq p.o1 q.o1))

abbrev pub agrees : Side → Recipe → ℕ → ℕ → ℕ → Bool → Bool
agrees s t n left right carry = same_ports (shows t n left right carry) (side_shows s n left right carry)

unfoldable pub is_right_for : Side → Recipe → ℕ → Bool
is_right_for s t n =
    every (2 ^ n) (λ left. every (2 ^ n) (λ right. agrees s t n left right false && agrees s t n left right true))

abbrev pub is_right : Claim → ℕ → Bool
is_right c n = is_right_for c.source c.recipe n
