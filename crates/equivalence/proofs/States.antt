-- Numbers of states.
use mathlib.Core.Path.{◌≡◌, refl, sym, ap, ap₂, ◌∙◌}
use Prim.Native.Nat.{ℕ, ◌+◌, ◌*◌, ◌/◌, ◌%◌, ◌<◌}
use native.Mathlib.Omega.{arith}
use mathlib.Core.Bool.{Bool, true, false}
use lib.Dec.{ltb}
use borrow.Author.Tests.{lt-ltb, true-ltb}
use Rattle.words.proofs.Choices.{and_join, and_split}
use Rattle.bits.specs.Bits.{num}
use Rattle.bits.specs.Wiring.{carried}
use Rattle.bits.proofs.Sums.{num-lt}
use Rattle.binding.specs.declared.Side.{Side}
use Rattle.binding.specs.declared.Recipe.{Recipe}
use Rattle.automaton.specs.Place.{wire}
use Rattle.automaton.specs.Machine.{first, next, low_bit}
use Rattle.automaton.specs.declared.Ripple.{Ripple}
use Rattle.automaton.specs.declared.State.{State}
use Rattle.equivalence.specs.Shown.{high, memory, ripple_of, group_of}
use Rattle.equivalence.specs.States.{state_in, index_of, state_of, memories, can_be}
use Rattle.equivalence.proofs.Memories.{started, stepped}

-- ---- two bits and their number

pub low_of : (b c : Bool) → low_bit (num b + 2 * num c) ≡ b
low_of true true = refl
low_of true false = refl
low_of false true = refl
low_of false false = refl

pub high_of : (b c : Bool) → high (num b + 2 * num c) ≡ c
high_of true true = refl
high_of true false = refl
high_of false true = refl
high_of false false = refl

two_lt : (b c : Bool) → num b + 2 * num c < 4
two_lt b c = omega (arith, num-lt b, num-lt c)

pub memory_lt : (r : Ripple) → memory r < 4
memory_lt r = two_lt r.lo r.hi

ripple-memory : (r : Ripple) → ripple_of (memory r) ≡ r
ripple-memory r = λ i. record { lo = low_of r.lo r.hi i; hi = high_of r.lo r.hi i }

-- ---- states

module _ (a : State) where
  group_high : group_of (memory a.source) (memory a.target) / 4 ≡ memory a.source
  group_high = omega (arith, memory_lt a.target)

  group_low : group_of (memory a.source) (memory a.target) % 4 ≡ memory a.target
  group_low = omega (arith, memory_lt a.target)

  index_group : index_of a / 4 ≡ group_of (memory a.source) (memory a.target)
  index_group = omega (arith, two_lt a.any a.all)

  index_rest : index_of a % 4 ≡ num a.any + 2 * num a.all
  index_rest = omega (arith, two_lt a.any a.all)

  pub index_lt : index_of a < 64
  index_lt = omega (arith, two_lt a.any a.all, memory_lt a.source, memory_lt a.target)

  pub state_index : state_of (index_of a) ≡ a
  state_index =
      ap₂ state_in index_group index_rest
      ∙ (λ i. record {
        source = (ap ripple_of group_high ∙ ripple-memory a.source) i;
        target = (ap ripple_of group_low ∙ ripple-memory a.target) i;
        any = low_of a.any a.all i;
        all = high_of a.any a.all i;
      })

-- a number of a group
pub state_at : (g k : ℕ) → k < 4 → state_of (4 * g + k) ≡ state_in g k
state_at g k h = let e : (4 * g + k) / 4 ≡ g = omega arith in let r : (4 * g + k) % 4 ≡ k = omega arith in ap₂ state_in e r

-- ---- what can be: the states of runs

module _ (s : Side) (t : Recipe) where
  -- both sides can remember what a state says
  abbrev pub held : State → Bool
  held a = can_be s t (index_of a / 4)

  known : (a : State) → memory a.source < memories s.kind → memory a.target < memories t.target.kind → held a ≡ true
  known a p q =
      ap (can_be s t) (index_group a)
      ∙ and_join
      (ap (λ (m : ℕ). ltb m (memories s.kind)) (group_high a) ∙ lt-ltb _ _ p)
      (ap (λ (m : ℕ). ltb m (memories t.target.kind)) (group_low a) ∙ lt-ltb _ _ q)

  pub first_held : (c : Bool) → held (first s t c) ≡ true
  first_held c =
      known (first s t c) (started s.kind (carried s.carry c)) (started t.target.kind (carried t.target.carry c))

  pub next_held : (a : State) (x y : Bool) → held a ≡ true → held (next s t a x y) ≡ true
  next_held a x y h =
      let p = and_split _ _ (sym (ap (can_be s t) (index_group a)) ∙ h) in
      known (next s t a x y)
      (stepped s.kind a.source (wire s.left x y) (wire s.right x y) (rw (group_high a) at (true-ltb (group_of (memory a.source) (memory a.target) / 4) (memories s.kind) (sym p.0))))
      (stepped t.target.kind a.target (wire t.target.left x y) (wire t.target.right x y) (rw (group_low a) at (true-ltb (group_of (memory a.source) (memory a.target) % 4) (memories t.target.kind) (sym p.1))))
