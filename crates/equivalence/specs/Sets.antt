-- What the search for operands at which a recipe fails goes by: sets of failing states from the top place down, and a walk from the lowest
-- place up.
-- Nothing here has to be believed: the proofs show that what is found is what Verdicts.antt of the crate verdict says.
use Rattle.std.specs.Prelude.{ℕ, zero, suc, ◌+◌, ◌-◌, ◌*◌, ◌/◌, ◌%◌, ◌^◌, ◌≤◌, ◌<◌, Bool, true, false, not, ◌&&◌, ◌||◌, eqb, ltb, bit_or, bit_xor, get_or, ◌≡◌, Option, Some, None, if◌then◌else◌}
use Rattle.std.specs.Bool.{beq}
use Rattle.bits.specs.Bits.{num, bit, word}
use Rattle.binding.specs.declared.Side.{Side}
use Rattle.output.specs.declared.Outputs.{Outputs}
use Rattle.binding.specs.declared.Recipe.{Recipe}
use Rattle.automaton.specs.Machine.{cell_of, next_by, alike_by, last_by, low_bit, agrees_from}
use Rattle.automaton.specs.declared.Cell.{Cell}
use Rattle.automaton.specs.declared.State.{State}
use Rattle.equivalence.specs.Shown.{high, group_of, whole}
use Rattle.equivalence.specs.States.{state_in, index_of, state_of, can_be, shown_at}
use Rattle.equivalence.specs.declared.shown.Shown.{Shown}
use Rattle.equivalence.specs.declared.sides.Sides.{Sides}
use Rattle.equivalence.specs.declared.rounds.Rounds.{Rounds}
use Rattle.equivalence.specs.declared.witness.Step.{Step}

-- ---- states that fail at one place

abbrev pub recipe : Sides → Recipe
recipe m = record { target = m.target.side; outputs = m.target.outputs }

-- the place is the top one, and a port differs there
-- or it is not, and O0 differs there, or the state after it is in the set of those that fail from the place above
abbrev pub fails_by : Outputs → Option ℕ → Cell → Cell → Bool → Bool → Bool
fails_by o None p q any all = not (last_by o p q any all)
fails_by o (Some set) p q any all = not (alike_by o p q) || bit set (index_of (next_by p q any all))

abbrev pub fails : Side → Recipe → Option ℕ → State → ℕ → Bool
fails s t above a pair =
    fails_by t.outputs above (cell_of s a.source (high pair) (low_bit pair)) (cell_of t.target a.target (high pair) (low_bit pair)) a.any a.all

-- for some pair of bits
abbrev pub some : (ℕ → Bool) → Bool
some f = f 0 || (f 1 || (f 2 || f 3))

-- what becomes of any and all at a bit of the target's O0: the number in the group
abbrev pub after : Bool → ℕ → ℕ
after true k = 2 * (k / 2) + 1
after false k = k % 2

-- the states of a group that a bit leads to those of a group
unfoldable pub pulled : Bool → ℕ → ℕ
pulled b group = word 4 (λ k. bit group (after b k))

-- all four states if something differs
abbrev pub all_if : Bool → ℕ
all_if differs = 15 * num differs

-- of the four states that share what source and target remember those that fail, by what both show
abbrev pub group_by : Option ℕ → Shown → Shown → ℕ
group_by None u v =
    bit_or (pulled v.bit (bit_xor u.orders v.orders))
    (all_if (not (beq v.main u.main) || (not (beq v.cout u.cout) || not (beq v.ovf u.ovf))))
group_by (Some set) u v = bit_or (pulled v.bit (set / 2 ^ (4 * group_of u.memory v.memory) % 16)) (all_if (not (beq v.main u.main)))

-- ---- sets of failing states: bit i for the state i

-- whether a state can be and fails
abbrev pub member : Side → Recipe → Option ℕ → ℕ → Bool
member s t above i = can_be s t (i / 4) && some (fails s t above (state_of i))

-- of a group, those that fail by a pair of bits, and those that can be and fail
unfoldable pub group_by_pair : Side → Recipe → Option ℕ → ℕ → ℕ → ℕ
group_by_pair s t above g pair = word 4 (λ k. fails s t above (state_in g k) pair)

unfoldable pub group_at : Side → Recipe → Option ℕ → ℕ → ℕ
group_at s t above g = word 4 (λ k. member s t above (4 * g + k))

-- of those in which the source remembers p
unfoldable pub of_row : Side → Recipe → Option ℕ → ℕ → ℕ → Bool
of_row s t above p k = member s t above (16 * p + k)

unfoldable pub row_at : Side → Recipe → Option ℕ → ℕ → ℕ
row_at s t above p = word 16 (of_row s t above p)

unfoldable pub round : Side → Recipe → Option ℕ → ℕ
round s t above = word 64 (member s t above)

-- the states that fail with j + 1 places to go
unfoldable pub failing : Side → Recipe → ℕ → ℕ
failing s t zero = round s t None
failing s t (suc j) = round s t (Some (failing s t j))

-- those that fail from the place above
abbrev pub above_at : Side → Recipe → ℕ → Option ℕ
above_at s t zero = None
above_at s t (suc j) = Some (failing s t j)

-- past the last set that is kept all are the same
abbrev pub kept_at : ℕ → ℕ → ℕ
kept_at last j = if ltb j last then j else last

-- the set for the place above one with j + 1 places to go, if there is such a place
abbrev pub kept_above : Rounds → ℕ → Option ℕ
kept_above rounds zero = None
kept_above rounds (suc j) = Some (get_or rounds.sets (kept_at rounds.last j) 0)

-- the sets with up to k + 1 places to go. How many are kept is the program's choice
pub record Kept (s : Side) (t : Recipe) (k : ℕ) (rounds : Rounds) : Type 0 where
  pub most : rounds.last ≤ k
  pub at : (j : ℕ) → j ≤ k → get_or rounds.sets (kept_at rounds.last j) 0 ≡ failing s t j

-- ---- operands at which the recipe fails

-- the state i fails with j + 1 places to go, and the sets below are kept
pub record Failing (s : Side) (t : Recipe) (rounds : Rounds) (j i : ℕ) : Type 0 where
  pub last_fits : rounds.last < 64
  pub places : j < 64
  pub state : i < 64
  pub below : (m : ℕ) → m < j → get_or rounds.sets (kept_at rounds.last m) 0 ≡ failing s t m
  pub member : bit (failing s t j) i ≡ true

-- the recipe fails there
pub record Refuted (s : Side) (t : Recipe) (j i left right : ℕ) : Type 0 where
  pub left_fits : left < 2 ^ suc j
  pub right_fits : right < 2 ^ suc j
  pub fails : agrees_from s t j (state_of i) left right ≡ false

-- where a state leads by a pair of bits, unless O0 differs
abbrev pub leads_by : Shown → Shown → ℕ → Option ℕ
leads_by u v k = if beq v.main u.main then Some (4 * group_of u.memory v.memory + after v.bit k) else None

unfoldable pub leads : Side → Recipe → ℕ → ℕ → Option ℕ
leads s t i pair = leads_by (shown_at whole s (i / 4 / 4) pair) (shown_at t.outputs t.target (i / 4 % 4) pair) (i % 4)

-- a bit at each of d places, below a word
abbrev pub run : ℕ → ℕ → ℕ → ℕ
run d b l = b * (2 ^ d - 1) + 2 ^ d * l

-- for how many places a state leads on by the same pair of bits: if it leads to itself, down to the last set that is kept
abbrev pub places_of : ℕ → ℕ → ℕ → Option ℕ → ℕ
places_of last j i None = 1
places_of last j i (Some m) = if eqb m i && ltb last j then j - last else 1

-- operands that begin with the pair fail, or do so if those above fail from the state m
abbrev pub Goes : Side → Recipe → Rounds → ℕ → ℕ → ℕ → ℕ → Option ℕ → Type 0
Goes s t rounds j i pair places None =
    (places ≡ 1) × ((l r : ℕ) → agrees_from s t j (state_of i) (run 1 (pair / 2) l) (run 1 (pair % 2) r) ≡ false)
Goes s t rounds j i pair places (Some m) =
    (0 < places) × (places ≤ j) × Failing s t rounds (j - places) m
    × ((l r : ℕ) → agrees_from s t (j - places) (state_of m) l r ≡ false
    → agrees_from s t j (state_of i) (run places (pair / 2) l) (run places (pair % 2) r) ≡ false)

abbrev pub Stepped : Side → Recipe → Rounds → ℕ → ℕ → Step → Type 0
Stepped s t rounds j i r = (r.pair < 4) × Goes s t rounds j i r.pair r.places r.leads
