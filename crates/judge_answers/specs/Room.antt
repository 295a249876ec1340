-- How many bytes stand behind a word at most. Nobody has to believe this: each caller proves that there is room.
use Rattle.std.specs.Prelude.{ℕ}

abbrev pub most_behind_bytes : ℕ
most_behind_bytes = 152
