-- A rule written as a binding has another kind and the same recipe: the same fields, refusals, glue and claim.
use mathlib.Core.Path.{◌≡◌, refl, ap₂}
use mathlib.Core.Bool.{true}
use mathlib.Core.List.{List, [], ◌∷◌}
use Prim.Native.Nat.{ℕ}
use native.Mathlib.Omega.{arith}
use lib.Bits.{bit_or}
use Rattle.std.specs.Prelude.{if◌then◌else◌}
use Rattle.words.specs.Field.{kind_of, content_of}
use Rattle.words.specs.Kinds.{BINDING}
use Rattle.words.specs.Paper.{source_place}
use Rattle.words.specs.declared.Prices.{Prices}
use Rattle.words.proofs.Fields.{field_lt}
use Rattle.recipe.specs.Fields.{source_of, target_of}
use Rattle.layout.specs.Layout.{recipe_fault}
use Rattle.recipe.proofs.Content.{same_source, same_target, same_from_scratch, same_vector, same_fields}
use Rattle.layout.proofs.Content.{same_fault}
use Rattle.binding.specs.Binding.{plain, from_vector, from_target, recipe_of}
use Rattle.wellformed.proofs.Parts.{kind_of-laid, content_of-laid}
use Rattle.table.specs.Table.{lists_target, lists_negated, has_target}
use Rattle.claims.specs.Claim.{claim_in}
use Rattle.usage.specs.Sets.{usage}
use Rattle.usage.proofs.Joining.{usage-content}
use Rattle.glue.specs.Glue.{glue}
use Rattle.tally.proofs.Joining.{glue_same}
use Rattle.writer.specs.Write.{binding_word, binding_words}

module _ (w : ℕ) where
  content_same : content_of (binding_word w) ≡ content_of w
  content_same = content_of-laid BINDING (content_of w) (field_lt w 0 28)

  pub binding_kind : kind_of (binding_word w) ≡ BINDING
  binding_kind = kind_of-laid BINDING (content_of w) (omega arith) (field_lt w 0 28)

  pub source_same : source_of (binding_word w) ≡ source_of w
  source_same = same_source (binding_word w) w content_same

  pub fault_same : recipe_fault (binding_word w) ≡ recipe_fault w
  fault_same = same_fault (binding_word w) w content_same

  -- the targets mark both alike
  recipe_same : (targets : List ℕ) → recipe_of (lists_negated targets (target_of (binding_word w))) (binding_word w)
      ≡ recipe_of (lists_negated targets (target_of w)) w
  unfolding recipe_of
  recipe_same targets =
      λ i.
      if same_from_scratch (binding_word w) w content_same i then from_vector (same_vector (binding_word w) w content_same i)
      else
      from_target (lists_negated targets (same_target (binding_word w) w content_same i)) (same_fields (binding_word w) w content_same i)

  pub claim_same : (sources targets : List ℕ) → claim_in sources targets (binding_word w) ≡ claim_in sources targets w
  claim_same sources targets =
      λ i. record { function = source_place (source_same i); source = plain (source_same i); recipe = recipe_same targets i }

  pub has_target-same : (targets : List ℕ) → has_target targets (binding_word w) ≡ has_target targets w
  unfolding has_target
  has_target-same targets =
      λ i.
      if same_from_scratch (binding_word w) w content_same i then true
      else lists_target targets (same_target (binding_word w) w content_same i)

usage-same : (ws : List ℕ) → usage (binding_words ws) ≡ usage ws
unfolding usage binding_words
usage-same [] = refl
usage-same (w ∷ ws) = ap₂ bit_or (usage-content (binding_word w) w (content_same w)) (usage-same ws)

pub glue_of-bindings : (n : ℕ) (p : Prices) (ws : List ℕ) → glue n p (binding_words ws) ≡ glue n p ws
glue_of-bindings n p ws = glue_same n p (binding_words ws) ws (usage-same ws)
