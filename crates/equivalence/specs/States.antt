-- States by number, what a side can remember, and what a side shows at a place for each of these and each pair of bits.
-- Nothing here has to be believed: the proofs show that what is found is what Verdicts.antt of the crate verdict says.
use Rattle.std.specs.Prelude.{ℕ, ◌+◌, ◌*◌, ◌/◌, ◌%◌, ◌<◌, Bool, false, ◌&&◌, ltb, get_or, ◌≡◌, List}
use Rattle.bits.specs.Bits.{num}
use Rattle.alu.specs.declared.Kind.{Kind}
use Rattle.alu.specs.declared.Kind.TheVariants.{Arithmetic, Logic, Comparison}
use Rattle.binding.specs.declared.Side.{Side}
use Rattle.output.specs.declared.Outputs.{Outputs}
use Rattle.binding.specs.declared.Recipe.{Recipe}
use Rattle.automaton.specs.Machine.{cell_of, low_bit}
use Rattle.automaton.specs.declared.State.{State}
use Rattle.equivalence.specs.Shown.{high, memory, ripple_of, group_of, shown_of}
use Rattle.equivalence.specs.declared.shown.Shown.{Shown}

-- ---- states by number

-- the k-th state of a group
abbrev pub state_in : ℕ → ℕ → State
state_in g k = record { source = ripple_of (g / 4); target = ripple_of (g % 4); any = low_bit k; all = high k }

-- a state's number, below 64, and back
abbrev pub index_of : State → ℕ
index_of a = 4 * group_of (memory a.source) (memory a.target) + num a.any + 2 * num a.all

abbrev pub state_of : ℕ → State
state_of i = state_in (i / 4) (i % 4)

-- ---- what can be remembered

-- how many things: nothing, a carry or none, an order or none
abbrev pub memories : Kind → ℕ
memories (Logic v) = 1
memories (Arithmetic p q k) = 2
memories (Comparison l e g) = 3

-- both sides can remember what the states of a group do
abbrev pub can_be : Side → Recipe → ℕ → Bool
can_be s t g = ltb (g / 4) (memories s.kind) && ltb (g % 4) (memories t.target.kind)

-- ---- what a side shows at a place, for each memory that it can have and each pair of bits

abbrev pub nothing : Shown
nothing = record { memory = 0; bit = false; main = false; cout = false; ovf = false; orders = 0 }

abbrev pub shown_at : Outputs → Side → ℕ → ℕ → Shown
shown_at o s m pair = shown_of o (cell_of s (ripple_of m) (high pair) (low_bit pair))

pub record Shows (o : Outputs) (s : Side) (count : ℕ) (found : List Shown) : Type 0 where
  pub counted : count ≡ memories s.kind
  pub at : (m pair : ℕ) → m < count → pair < 4 → get_or found (4 * m + pair) nothing ≡ shown_at o s m pair
