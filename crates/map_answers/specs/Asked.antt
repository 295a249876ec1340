-- What these functions ask of their callers. Nobody has to believe this: each caller proves it.
use Rattle.std.specs.Prelude.{ℕ, ◌+◌, ◌*◌, ◌≤◌, List, length, Result}
use Rattle.listing.specs.Listing.{most_binding_bytes}
use Rattle.lines.specs.Lines.{most_line_bytes}
use Rattle.words.specs.declared.Refusal.{Refusal}
use Rattle.map_answers.specs.Answers.{words_written}

-- behind what stands of a text, a line for each lent word, and the longest line
abbrev pub Room : ℕ → List ℕ → List ℕ → Type 0
Room room lent text = length text + most_binding_bytes * length lent + most_line_bytes ≤ room

pub record RoomFor (room : ℕ) (a : Result ℕ Refusal) (lent text : List ℕ) : Type 0 where
  pub enough : Room room lent text
  pub within : words_written a ≤ length lent
