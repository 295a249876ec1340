-- Document 01, "Mapper and bench": the choice, a rule for each source in turn.
use Rattle.std.specs.Prelude.{ℕ, List, [], ◌∷◌, ◌++◌, Option, Some, None, Result, Ok, Err}
use Rattle.words.specs.Field.{source_function}
use Rattle.words.specs.Paper.{source_place}
use Rattle.table.specs.Parts.{Terms}
use Rattle.glue.specs.Glue.{glue}
use Rattle.best.specs.Best.{best_of}
use Rattle.best.specs.declared.Best.{Best}

-- "the glue of the bindings so far": those bound already, and this rule
abbrev pub with_rule : Terms → List ℕ → ℕ → ℕ
with_rule t bound w = glue t.width t.prices (bound ++ w ∷ [])

-- the best rule is bound, and the next source has its turn; or there is none, and the function is unmappable
abbrev pub bind_best : Option Best → ℕ → (ℕ → Result (List ℕ) ℕ) → Result (List ℕ) ℕ
bind_best (Some best) f next = next best.word
bind_best None f next = Err (source_place f)

-- "Sources are taken in order; each gets the usable rule that makes the glue of the bindings so far least, the earlier rule on
-- equal glue." Every source has its rule, in order; or the first source, which is the lowest, without a usable rule.
unfoldable pub choose : Terms → List ℕ → List ℕ → List ℕ → Result (List ℕ) ℕ
choose t rules bound [] = Ok bound
choose t rules bound (s ∷ ss) =
    bind_best (best_of (with_rule t bound) t (source_function s) None rules) (source_function s)
    (λ w. choose t rules (bound ++ w ∷ []) ss)
