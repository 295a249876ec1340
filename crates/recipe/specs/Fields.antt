-- Document 01, "Words": "Each recipe field is packed into its own bits of one word."
use Rattle.std.specs.Prelude.{ℕ, ◌+◌, ◌*◌, ◌^◌, Bool, eqb}
use Rattle.words.specs.Field.{field}
use Rattle.recipe.specs.declared.Fields.{Fields}

-- the source function of a recipe word, and its target function
abbrev pub source_of : ℕ → ℕ
source_of w = field w 23 5

abbrev pub target_of : ℕ → ℕ
target_of w = field w 18 5

-- "target function, or 0 for from scratch"
abbrev pub SCRATCH : ℕ
SCRATCH = 0

abbrev pub from_scratch : ℕ → Bool
from_scratch w = eqb (target_of w) SCRATCH

-- from scratch: "bits 3..0 are a logic vector"
abbrev pub vector_of : ℕ → ℕ
vector_of w = field w 0 4

abbrev pub fields_of : ℕ → Fields
fields_of w =
    record {
      source = source_of w;
      target = target_of w;
      left = field w 15 3;
      right = field w 12 3;
      carry = field w 10 2;
      main = field w 8 2;
      cout = field w 6 2;
      ovf = field w 5 1;
      blank = field w 4 1;
      code = field w 0 4;
    }

-- the word of a kind and fields
abbrev pub packed : ℕ → Fields → ℕ
packed kind r =
    kind * 2 ^ 28 + r.source * 2 ^ 23 + r.target * 2 ^ 18 + r.left * 2 ^ 15 + r.right * 2 ^ 12 + r.carry * 2 ^ 10
    + r.main * 2 ^ 8 + r.cout * 2 ^ 6 + r.ovf * 2 ^ 5 + r.blank * 2 ^ 4 + r.code
