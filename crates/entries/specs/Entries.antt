-- The entries of a bench, one for each source in table order: where a source's is, whether something is bound to it, and the first in
-- which nothing stands.
use Rattle.std.specs.Prelude.{ℕ, Bool, not, Option, None, Some, List, [], ◌∷◌, length, eqb, get_or, position, if◌then◌else◌}
use Rattle.words.specs.Field.{source_function}
use Rattle.soundness.specs.Sound.{nothing}

-- the entry of the source whose function it is
abbrev pub entry_of : List ℕ → ℕ → Option ℕ
entry_of sources f = position (λ s. eqb (source_function s) f) sources

-- something stands in an entry; where there is none, in the one past the sources
abbrev pub holds_one : List ℕ → List ℕ → Option ℕ → Bool
holds_one sources bound None = not (eqb (get_or bound (length sources) nothing) nothing)
holds_one sources bound (Some i) = not (eqb (get_or bound i nothing) nothing)

-- something is bound to a function: it stands in the entry of its source
unfoldable pub is_bound : List ℕ → List ℕ → ℕ → Bool
is_bound sources bound f = holds_one sources bound (entry_of sources f)

-- the function of the first source, which is the lowest, with nothing bound
unfoldable pub first_empty : List ℕ → List ℕ → Option ℕ
first_empty [] bound = None
first_empty (s ∷ ss) [] = None
first_empty (s ∷ ss) (w ∷ bound) = if eqb w nothing then Some (source_function s) else first_empty ss bound
