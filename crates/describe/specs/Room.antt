-- How many bytes the parts of a line have at most. Nobody has to believe this: each caller proves that there is room.
use Rattle.std.specs.Prelude.{ℕ}

abbrev pub most_inputs : ℕ
most_inputs = 46

abbrev pub most_outputs : ℕ
most_outputs = 90

-- a recipe behind its source's name
abbrev pub most_from : ℕ
most_from = 147

abbrev pub most_recipe : ℕ
most_recipe = 152

-- a word of any kind
abbrev pub most_kind : ℕ
most_kind = 160

-- a refusal behind what stands before it
abbrev pub most_fault : ℕ
most_fault = 28

-- all between the digits and the line's end
abbrev pub most_meaning : ℕ
most_meaning = 190
