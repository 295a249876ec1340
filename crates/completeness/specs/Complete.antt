-- Document 01, refusal 9: a mapping "is complete if 9 does not" hold.
use Rattle.std.specs.List.{list_any}
use Rattle.std.specs.Prelude.{ℕ, Bool, not, List, [], ◌∷◌, Option, Some, None, eqb, if◌then◌else◌}
use Rattle.words.specs.Field.{source_function}
use Rattle.recipe.specs.Fields.{source_of}

-- a binding has the function as its source
unfoldable pub binds : List ℕ → ℕ → Bool
binds bindings f = list_any (λ w. eqb (source_of w) f) bindings

-- "9. A source without a binding; place: lowest such function." Sources rise, so it is the first.
unfoldable pub first_unbound : List ℕ → List ℕ → Option ℕ
first_unbound [] bindings = None
first_unbound (s ∷ sources) bindings =
    if not (binds bindings (source_function s)) then Some (source_function s) else first_unbound sources bindings
