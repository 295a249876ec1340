-- A recipe that is right at every width, by one computed test: a set of states of the machine that holds both starts and is never left, and
-- at each of which all ports agree whatever the next bits are.
use mathlib.Core.Path.{◌≡◌, subst}
use Prim.Native.Nat.{ℕ, zero, suc, ◌+◌, ◌/◌, ◌^◌, ◌<◌}
use native.Mathlib.Omega.{arith}
use mathlib.Core.Bool.{Bool, true, false, ◌&&◌}
use Rattle.words.proofs.Choices.{and_split, and_join}
use Rattle.bits.specs.Bits.{bit}
use Rattle.recipe.specs.Fields.{source_of}
use Rattle.binding.specs.Binding.{plain, recipe_of}
use Rattle.binding.specs.Right.{RightFor, Right, claim_of, every}
use Rattle.binding.specs.declared.Side.{Side}
use Rattle.binding.specs.declared.Recipe.{Recipe}
use Rattle.binding.proofs.Tests.{every-at}
use Rattle.automaton.specs.Machine.{first, next, alike, last, low_bit, agrees_from}
use Rattle.automaton.specs.declared.State.{State}
use Rattle.automaton.proofs.Runs.{decided}
use Rattle.equivalence.specs.States.{index_of, state_of}
use Rattle.equivalence.proofs.States.{index_lt, state_index}

-- ---- the test

-- at both values of a bit
abbrev pub both : (Bool → Bool) → Bool
both p = p false && p true

-- a set of states is one number, bit i for the state i
abbrev has : ℕ → State → Bool
has set a = bit set (index_of a)

module _ (s : Side) (t : Recipe) where
  -- a set, and the states that runs of fewer than k places from a state reach outside it
  abbrev reach : ℕ → State → ℕ → ℕ
  reach zero a set = set
  reach (suc k) a set =
      elim (has set a) [
        | true ↦ set
        | false ↦
            reach k (next s t a true true)
            (reach k (next s t a true false)
            (reach k (next s t a false true)
            (reach k (next s t a false false) (set + 2 ^ index_of a))))
      ]

  -- 64 places are enough, since there are 64 states; were they not, the set would be left and the test fail
  abbrev reached : ℕ
  reached = reach 64 (first s t true) (reach 64 (first s t false) 0)

  -- at the next two bits all ports agree, and the machine stays in the set
  abbrev stays : ℕ → State → Bool → Bool → Bool
  stays set a x y = last s t a x y && has set (next s t a x y)

  abbrev stays_at : ℕ → ℕ → Bool
  stays_at set i = elim (bit set i) [ true ↦ both (λ x. both (stays set (state_of i) x)) | false ↦ true ]

  abbrev starts : ℕ → Bool
  starts set = both (λ c. has set (first s t c))

  abbrev closed : ℕ → Bool
  closed set = starts set && every 64 (stays_at set)

abbrev pub right_always : ℕ → Bool
right_always w = closed (plain (source_of w)) (recipe_of false w) (reached (plain (source_of w)) (recipe_of false w))

-- ---- a recipe that passes is right at every width

pub at_both : (p : Bool → Bool) → both p ≡ true → (b : Bool) → p b ≡ true
at_both p h false = (and_split (p false) (p true) h).0
at_both p h true = (and_split (p false) (p true) h).1

module _ (s : Side) (t : Recipe) (set : ℕ) (h : closed s t set ≡ true) where
  started : (c : Bool) → has set (first s t c) ≡ true
  started = at_both (λ c. has set (first s t c)) (and_split (starts s t set) (every 64 (stays_at s t set)) h).0

  stayed : (a : State) → has set a ≡ true → (x y : Bool) → (last s t a x y ≡ true) × (has set (next s t a x y) ≡ true)
  stayed a m x y =
      let at = every-at 64 (stays_at s t set) (and_split (starts s t set) (every 64 (stays_at s t set)) h).1 (index_of a) (index_lt a) in
      let pairs : both (λ u. both (stays s t set (state_of (index_of a)) u)) ≡ true = rw (m, stays_at) at at in
      let ours = subst (λ (b : State). both (λ u. both (stays s t set b u)) ≡ true) (state_index a) pairs in
      and_split (last s t a x y) (has set (next s t a x y)) (at_both (stays s t set a x) (at_both (λ u. both (stays s t set a u)) ours x) y)

  agrees_in : (j : ℕ) (a : State) → has set a ≡ true → (l r : ℕ) → agrees_from s t j a l r ≡ true
  unfolding agrees_from
  agrees_in zero a m l r = (stayed a m (low_bit l) (low_bit r)).0
  agrees_in (suc j) a m l r =
      let k = stayed a m (low_bit l) (low_bit r) in
      and_join (and_split (alike s t a (low_bit l) (low_bit r)) _ k.0).0
      (agrees_in j (next s t a (low_bit l) (low_bit r)) k.1 (l / 2) (r / 2))

  closed_right : (n : ℕ) → 0 < n → RightFor s t n
  closed_right zero g = absurd (omega arith)
  closed_right (suc k) g = λ l r c hl hr. (decided s t k l r c hl hr).1 (agrees_in k (first s t c) (started c) l r)

pub always_right : (w : ℕ) → right_always w ≡ true → (n : ℕ) → 0 < n → Right (claim_of w) n
always_right w = closed_right (plain (source_of w)) (recipe_of false w) (reached (plain (source_of w)) (recipe_of false w))
