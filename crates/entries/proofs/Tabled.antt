-- The entry of a function in sound tables is one of the entries.
use mathlib.Core.Path.{◌≡◌, sym, ◌∙◌}
use mathlib.Core.Bool.{true}
use Prim.Native.Nat.{ℕ, ◌<◌}
use native.Mathlib.Omega.{arith}
use Rattle.std.specs.Prelude.{Option, Some}
use Rattle.sequence.specs.Limits.{most_sources}
use Rattle.soundness.specs.Shape.{TablesShaped}
use Rattle.soundness.specs.Sound.{sources_on, tables_sound}
use Rattle.soundness.specs.declared.Tables.{Tables}
use Rattle.soundness.proofs.Shapes.{sources_few}
use Rattle.soundness.proofs.Soundness.{few_sources}
use Rattle.entries.specs.Entries.{entry_of}
use Rattle.entries.proofs.Searching.{entry_place}

pub entry_few : (t : Tables) (f i : ℕ) (r : Option ℕ) → r ≡ entry_of (sources_on t) f → r ≡ Some i → TablesShaped t → tables_sound t ≡ true → i < most_sources
entry_few t f i r er e h s =
    omega (arith, (entry_place (sources_on t) f i (sym er ∙ e)).1, sources_few t h (few_sources t s))
