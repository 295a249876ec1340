-- What the search for operands at which a recipe fails has found.
-- Nothing here has to be believed: the proofs show that what it finds is what Verdicts.antt of the crate verdict says.
use Rattle.std.specs.Prelude.{ℕ, Bool, ◌^◌, ◌<◌, false, ◌≡◌, Option, Some, None, if◌then◌else◌}
use Rattle.bits.specs.Bits.{bit}
use Rattle.binding.specs.Right.{RightFor, Agrees}
use Rattle.binding.specs.declared.Side.{Side}
use Rattle.binding.specs.declared.Recipe.{Recipe}
use Rattle.equivalence.specs.Sets.{failing, Refuted}
use Rattle.search.specs.declared.Counterexample.{Counterexample}

-- a start state does not fail, or operands at which the recipe fails from it, with its carry
abbrev pub ConcludedFrom : Side → Recipe → ℕ → ℕ → Bool → Option Counterexample → Type 0
ConcludedFrom s t k start carry None = bit (failing s t k) start ≡ false
ConcludedFrom s t k start carry (Some x) = (x.carry ≡ carry) × Refuted s t k start x.left x.right

-- neither start state fails, or operands at which the recipe fails
abbrev pub Concluded : Side → Recipe → ℕ → ℕ → ℕ → Option Counterexample → Type 0
Concluded s t k plain carried None = (bit (failing s t k) plain ≡ false) × (bit (failing s t k) carried ≡ false)
Concluded s t k plain carried (Some x) = Refuted s t k (if x.carry then carried else plain) x.left x.right

-- what is found
abbrev pub Found : Side → Recipe → ℕ → Option Counterexample → Type 0
Found s t n None = RightFor s t n
Found s t n (Some x) = (x.left < 2 ^ n) × (x.right < 2 ^ n) × (Agrees s t n x.left x.right x.carry → ⊥)
