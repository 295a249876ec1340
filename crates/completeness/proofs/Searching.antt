-- 9: the search of a source without a binding, as a chain goes about it.
use mathlib.Core.Path.{◌≡◌, refl}
use mathlib.Core.Bool.{Bool, true, false, not}
use mathlib.Core.List.{List, [], ◌∷◌, map}
use Prim.Native.Nat.{ℕ}
use Rattle.std.specs.Prelude.{Option, Some, find, if◌then◌else◌}
use Rattle.words.specs.Field.{source_function}
use Rattle.completeness.specs.Complete.{binds, first_unbound}

pub first_found : (ss ws : List ℕ) → find (λ f. not (binds ws f)) (map source_function ss) ≡ first_unbound ss ws
unfolding first_unbound
first_found [] ws = refl
first_found (s ∷ ss) ws = go (not (binds ws (source_function s))) (first_found ss ws)
  where
    go : (b : Bool) {rest others : Option ℕ} → rest ≡ others → (if b then Some (source_function s) else rest) ≡ (if b then Some (source_function s) else others)
    go true e = refl
    go false e = e
