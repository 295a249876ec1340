-- Words with the same content have the same refusals.
use mathlib.Core.Path.{◌≡◌, refl}
use mathlib.Core.Bool.{false, not}
use Prim.Native.Nat.{ℕ}
use native.Mathlib.Omega.{arith}
use Rattle.std.specs.Prelude.{Some, None, if◌then◌else◌}
use Rattle.words.specs.Field.{content_of}
use Rattle.words.specs.declared.Fault.TheVariants.{NotLaidOut, ReadsUndriven, OtherOutputs}
use Rattle.words.proofs.Fields.{same_field}
use Rattle.alu.specs.Range.{is_function}
use Rattle.recipe.proofs.Content.{same_source, same_fields, same_from_scratch}
use Rattle.layout.specs.Layout.{scratch_laid_out, target_laid_out, laid_out, reads_driven, reads_undriven, shows_source, shows_other, recipe_fault}

module _ (v w : ℕ) (e : content_of v ≡ content_of w) where
  same_scratch : scratch_laid_out v ≡ scratch_laid_out w
  unfolding scratch_laid_out
  same_scratch = rw (same_source v w e, same_field v w 4 14 e (omega arith)) refl

  same_layout : laid_out v ≡ laid_out w
  unfolding laid_out
  same_layout =
      λ i.
      if not (is_function (same_source v w e i)) then false
      else if same_from_scratch v w e i then same_scratch i
      else target_laid_out (same_fields v w e i)

  pub same_fault : recipe_fault v ≡ recipe_fault w
  unfolding recipe_fault reads_undriven shows_other
  same_fault =
      λ i.
      if not (same_layout i) then Some NotLaidOut
      else if (if same_from_scratch v w e i then false else not (reads_driven (same_fields v w e i))) then Some ReadsUndriven
      else if (if same_from_scratch v w e i then false else not (shows_source (same_fields v w e i))) then Some OtherOutputs
      else None
