-- The machine that compares a source side and a recipe: it reads the bits of left and right, lowest first.
-- Nothing here has to be believed: the proofs show that its runs agree exactly where binding's Right.antt says that they do.
use Rattle.std.specs.Prelude.{ℕ, zero, suc, ◌/◌, ◌%◌, Bool, true, false, ◌&&◌, ◌||◌, eqb}
use Rattle.std.specs.Bool.{beq}
use Rattle.output.specs.Output.{shown_bit, shown_comparison}
use Rattle.binding.specs.declared.Side.{Side}
use Rattle.output.specs.declared.Outputs.{Outputs}
use Rattle.binding.specs.declared.Recipe.{Recipe}
use Rattle.automaton.specs.Place.{side_start, side_step, side_bit, side_carry, side_overflow, side_order}
use Rattle.automaton.specs.declared.Ripple.{Ripple}
use Rattle.automaton.specs.declared.State.{State}
use Rattle.automaton.specs.declared.Cell.{Cell}

-- before the lowest place
abbrev pub first : Side → Recipe → Bool → State
first s t c = record { source = side_start s c; target = side_start t.target c; any = false; all = true }

-- what a side does at the bits x and y of a place
abbrev pub cell_of : Side → Ripple → Bool → Bool → Cell
cell_of s a x y =
    record {
      ripple = side_step s a x y;
      bit = side_bit s a x y;
      carry = side_carry s a x y;
      overflow = side_overflow s a x y;
      order = side_order s a x y;
    }

-- ---- from what the source (p) and the target (q) do at a place

abbrev pub next_by : Cell → Cell → Bool → Bool → State
next_by p q any all = record { source = p.ripple; target = q.ripple; any = any || q.bit; all = all && q.bit }

abbrev pub alike_by : Outputs → Cell → Cell → Bool
alike_by o p q = beq (shown_bit o.main q.bit) p.bit

abbrev pub last_by : Outputs → Cell → Cell → Bool → Bool → Bool
last_by o p q any all =
    alike_by o p q
    && (beq (shown_bit o.cout q.carry) p.carry
    && (beq (shown_bit o.ovf q.overflow) p.overflow
    && beq (shown_comparison o.code q.order (any || q.bit) (all && q.bit) q.bit q.overflow) p.order))

-- ---- from a state

-- after a place with the bits x and y
abbrev pub next : Side → Recipe → State → Bool → Bool → State
next s t a x y = next_by (cell_of s a.source x y) (cell_of t.target a.target x y) a.any a.all

-- O0 agrees at a place
abbrev pub alike : Side → Recipe → State → Bool → Bool → Bool
alike s t a x y = alike_by t.outputs (cell_of s a.source x y) (cell_of t.target a.target x y)

-- all ports agree at the top place, O0 as far as that place goes
abbrev pub last : Side → Recipe → State → Bool → Bool → Bool
last s t a x y = last_by t.outputs (cell_of s a.source x y) (cell_of t.target a.target x y) a.any a.all

-- the lowest bit of a word
abbrev pub low_bit : ℕ → Bool
low_bit a = eqb (a % 2) 1

-- from a state on all ports agree, at operands of j + 1 more bits
unfoldable pub agrees_from : Side → Recipe → ℕ → State → ℕ → ℕ → Bool
agrees_from s t zero a l r = last s t a (low_bit l) (low_bit r)
agrees_from s t (suc j) a l r =
    alike s t a (low_bit l) (low_bit r) && agrees_from s t j (next s t a (low_bit l) (low_bit r)) (l / 2) (r / 2)
