-- One place of a function: what its bits do there, from what the lower places leave.
-- Nothing here has to be believed: the proofs show that runs of it give the ports of alu's Function.antt.
use Rattle.std.specs.Prelude.{ℕ, Bool, true, false, not, ◌&&◌, ◌||◌, [], ◌∷◌, get_or, if◌then◌else◌}
use Rattle.bits.specs.Bits.{exor}
use Rattle.bits.specs.Wiring.{carried}
use Rattle.bits.specs.Vector.{minterm}
use Rattle.alu.specs.declared.Kind.{Kind}
use Rattle.alu.specs.declared.Kind.TheVariants.{Arithmetic, Logic, Comparison}
use Rattle.binding.specs.declared.Side.{Side}
use Rattle.automaton.specs.declared.Ripple.{Ripple}
use Rattle.automaton.specs.declared.Cell.{Cell}

-- a wiring code on one bit of each operand
abbrev pub wire : ℕ → Bool → Bool → Bool
wire code x y = get_or (false ∷ true ∷ x ∷ not x ∷ y ∷ not y ∷ []) code false

-- the carry out of a full adder, and its sum bit
abbrev pub majority : Bool → Bool → Bool → Bool
majority true y c = y || c
majority false y c = y && c

abbrev pub parity : Bool → Bool → Bool → Bool
parity x y c = exor x (exor y c)

-- x below y, or where they are equal what the lower places said
abbrev pub less_at : Bool → Bool → Bool → Bool
less_at true y l = y && l
less_at false y l = y || l

-- nothing ripples
abbrev pub still : Ripple
still = record { lo = false; hi = false }

-- ---- a function of a kind, at the bits x and y of its inputs

-- before the lowest place
abbrev pub start : Kind → Bool → Ripple
start (Arithmetic p q k) c = record { lo = carried k c; hi = false }
start (Logic v) c = still
start (Comparison l e g) c = still

-- after a place
abbrev pub step : Kind → Ripple → Bool → Bool → Ripple
step (Arithmetic p q k) a x y = record { lo = majority (wire p x y) (wire q x y) a.lo; hi = false }
step (Logic v) a x y = still
step (Comparison l e g) a x y = record { lo = less_at x y a.lo; hi = less_at y x a.hi }

-- the bit of O0 at a place
abbrev pub out_bit : Kind → Ripple → Bool → Bool → Bool
out_bit (Arithmetic p q k) a x y = parity (wire p x y) (wire q x y) a.lo
out_bit (Logic v) a x y = minterm v x y
out_bit (Comparison l e g) a x y = false

-- OCOUT, OVF and O1, where x and y are the top bits
abbrev pub top_carry : Kind → Ripple → Bool → Bool → Bool
top_carry (Arithmetic p q k) a x y = majority (wire p x y) (wire q x y) a.lo
top_carry (Logic v) a x y = false
top_carry (Comparison l e g) a x y = false

abbrev pub top_overflow : Kind → Ripple → Bool → Bool → Bool
top_overflow (Arithmetic p q k) a x y = exor a.lo (majority (wire p x y) (wire q x y) a.lo)
top_overflow (Logic v) a x y = false
top_overflow (Comparison l e g) a x y = false

-- the top bit counts negative, so the top bits change places
abbrev pub ordered : Bool → Bool → Bool → Ripple → Bool → Bool → Bool
ordered l e g a x y = if less_at y x a.lo then l else if less_at x y a.hi then g else e

abbrev pub top_order : Kind → Ripple → Bool → Bool → Bool
top_order (Arithmetic p q k) a x y = false
top_order (Logic v) a x y = false
top_order (Comparison l e g) a x y = ordered l e g a x y

-- all of it
abbrev pub cell : Kind → Ripple → Bool → Bool → Cell
cell k a x y =
    record {
      ripple = step k a x y;
      bit = out_bit k a x y;
      carry = top_carry k a x y;
      overflow = top_overflow k a x y;
      order = top_order k a x y;
    }

-- ---- the same of a side, at the bits x and y of left and right; of a negated one each bit of O0, and O1, is complemented

abbrev pub side_start : Side → Bool → Ripple
side_start s c = start s.kind (carried s.carry c)

abbrev pub side_step : Side → Ripple → Bool → Bool → Ripple
side_step s a x y = step s.kind a (wire s.left x y) (wire s.right x y)

abbrev pub side_bit : Side → Ripple → Bool → Bool → Bool
side_bit s a x y = exor s.negated (out_bit s.kind a (wire s.left x y) (wire s.right x y))

abbrev pub side_carry : Side → Ripple → Bool → Bool → Bool
side_carry s a x y = top_carry s.kind a (wire s.left x y) (wire s.right x y)

abbrev pub side_overflow : Side → Ripple → Bool → Bool → Bool
side_overflow s a x y = top_overflow s.kind a (wire s.left x y) (wire s.right x y)

abbrev pub side_order : Side → Ripple → Bool → Bool → Bool
side_order s a x y = exor s.negated (top_order s.kind a (wire s.left x y) (wire s.right x y))
