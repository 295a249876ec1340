-- Codes in a row, as the code counts them. Nobody has to believe this: Glue.antt lists the codes of each port.
use Rattle.std.specs.Prelude.{ℕ, zero, suc, List, [], ◌∷◌}

-- the codes from one on, so many
abbrev pub codes : ℕ → ℕ → List ℕ
codes from zero = []
codes from (suc size) = from ∷ codes (suc from) size
