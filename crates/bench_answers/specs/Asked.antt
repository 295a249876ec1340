-- What these functions ask of their callers. Nobody has to believe this: each caller proves it.
use Rattle.std.specs.Prelude.{ℕ, ◌+◌, ◌*◌, ◌≤◌, List, length, Result}
use Rattle.listing.specs.Listing.{most_binding_bytes}
use Rattle.lines.specs.Lines.{most_line_bytes}
use Rattle.sequence.specs.Limits.{most_mapping_words}
use Rattle.bench.specs.declared.CallError.{CallError}
use Rattle.bench_answers.specs.Answers.{words_finished}

-- no text has more bytes: a line for each word of a mapping, and the longest line
abbrev pub most_text_bytes : ℕ
most_text_bytes = most_binding_bytes * most_mapping_words + most_line_bytes

-- for a mapping in the lent words and the longest line, and for any text
pub record Room (room : ℕ) (lent text : List ℕ) : Type 0 where
  pub lines : length text + most_binding_bytes * length lent + most_line_bytes ≤ room
  pub enough : length text + most_text_bytes ≤ room

pub record LineRoom (room : ℕ) (done text : List ℕ) : Type 0 where
  pub short_done : length done ≤ most_line_bytes
  pub enough : length text + most_line_bytes ≤ room

pub record MappingRoom (room : ℕ) (answer : Result ℕ CallError) (lent text : List ℕ) : Type 0 where
  pub within : words_finished answer ≤ length lent
  pub space : Room room lent text

-- for the line of each source
abbrev pub EntryRoom : ℕ → List ℕ → List ℕ → Type 0
EntryRoom room sources text = length text + most_binding_bytes * length sources ≤ room
