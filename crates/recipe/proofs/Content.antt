-- A rule and the binding made of it differ in their kind alone: words with the same content have the same fields.
use mathlib.Core.Path.{◌≡◌}
use Prim.Native.Nat.{ℕ}
use native.Mathlib.Omega.{arith}
use lib.Dec.{eqb}
use Rattle.words.specs.Field.{content_of}
use Rattle.words.proofs.Fields.{same_field}
use Rattle.recipe.specs.Fields.{source_of, target_of, SCRATCH, from_scratch, vector_of, fields_of}

module _ (v w : ℕ) (e : content_of v ≡ content_of w) where
  pub same_source : source_of v ≡ source_of w
  same_source = same_field v w 23 5 e (omega arith)

  pub same_target : target_of v ≡ target_of w
  same_target = same_field v w 18 5 e (omega arith)

  pub same_vector : vector_of v ≡ vector_of w
  same_vector = same_field v w 0 4 e (omega arith)

  pub same_fields : fields_of v ≡ fields_of w
  same_fields =
      λ i. record {
        source = same_source i;
        target = same_target i;
        left = same_field v w 15 3 e (omega arith) i;
        right = same_field v w 12 3 e (omega arith) i;
        carry = same_field v w 10 2 e (omega arith) i;
        main = same_field v w 8 2 e (omega arith) i;
        cout = same_field v w 6 2 e (omega arith) i;
        ovf = same_field v w 5 1 e (omega arith) i;
        blank = same_field v w 4 1 e (omega arith) i;
        code = same_vector i;
      }

  pub same_from_scratch : from_scratch v ≡ from_scratch w
  same_from_scratch = λ i. eqb (same_target i) SCRATCH
