-- Document 01, "What a binding shows".
use Rattle.std.specs.Prelude.{ℕ, Bool, false, not, if◌then◌else◌}
use Rattle.bits.specs.Wiring.{complement, wired, carried, I0, I1, ICIN}
use Rattle.alu.specs.Function.{function_of, ports}
use Rattle.bits.specs.declared.Ports.{Ports}
use Rattle.alu.specs.declared.Kind.TheVariants.{Logic}
use Rattle.recipe.specs.Fields.{from_scratch, vector_of, fields_of}
use Rattle.recipe.specs.declared.Fields.{Fields}
use Rattle.output.specs.Output.{outputs_show}
use Rattle.binding.specs.declared.Side.{Side}
use Rattle.binding.specs.declared.Recipe.{Recipe}

-- ---- inputs: "The wirings and the carry in give two words and a bit ... TO0, TOCOUT, TOVF and TO1 are what the target shows at these."

-- request #105, of a negated target: "its O0 and O1 come out complemented, OCOUT and OVF do not"
abbrev pub complemented : ℕ → Ports → Ports
complemented n p = record { o0 = complement n p.o0; ocout = p.ocout; ovf = p.ovf; o1 = not p.o1 }

abbrev pub as_marked : Bool → ℕ → Ports → Ports
as_marked negated n p = if negated then complemented n p else p

-- a side is a function on wired inputs, and may be negated: what it shows of left, right and carry
unfoldable pub side_shows : Side → ℕ → ℕ → ℕ → Bool → Ports
side_shows s n left right carry =
    as_marked s.negated n
    (ports s.kind n (wired n s.left left right) (wired n s.right left right) (carried s.carry carry))

-- a function on its own inputs: SI0 is left, SI1 right, SICIN the carry
abbrev pub plain : ℕ → Side
plain f = record { kind = function_of f; left = I0; right = I1; carry = ICIN; negated = false }

-- ---- a recipe

-- "From scratch, each bit of O0 is the vector's bit for the bits of left and right at that place; the other ports show 0."
abbrev pub from_vector : ℕ → Recipe
from_vector v =
    record {
      target = record { kind = Logic v; left = I0; right = I1; carry = ICIN; negated = false };
      outputs = record { main = 1; cout = 0; ovf = 0; code = 0 };
    }

abbrev pub from_target : Bool → Fields → Recipe
from_target negated r =
    record {
      target = record { kind = function_of r.target; left = r.left; right = r.right; carry = r.carry; negated = negated };
      outputs = record { main = r.main; cout = r.cout; ovf = r.ovf; code = r.code };
    }

-- of a word whose target is negated or not; from scratch there is no target
unfoldable pub recipe_of : Bool → ℕ → Recipe
recipe_of negated w = if from_scratch w then from_vector (vector_of w) else from_target negated (fields_of w)

abbrev pub shows : Recipe → ℕ → ℕ → ℕ → Bool → Ports
shows r n left right carry = outputs_show r.outputs n (side_shows r.target n left right carry)
