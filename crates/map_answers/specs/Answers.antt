-- What map_job says of what it read: document 01, "prints, per binding, ..; then the count. A refusal prints only REFUSED, number and place
-- in decimal; a last word cut short is 2 at its index, before all else." An input that could not be read is said to have failed.
use Rattle.std.specs.Prelude.{ℕ, ◌≡◌, Option, Some, None, List, ◌++◌, take, Result, Ok, Err}
use Rattle.listing.specs.Listing.{mapped_text}
use Rattle.lines.specs.Lines.{refused_line}
use Rattle.console.specs.declared.Failed.{Failed}
use Rattle.input.specs.declared.Input.{Input}
use Rattle.input.specs.Read.{cut}
use Rattle.mapper.specs.Mapping.{answer_of, lent_after_map}
use Rattle.words.specs.declared.Refusal.{Refusal}

-- ---- the text of an answer

-- the mapper's answer, with the words lent to it as they are after it
abbrev pub map_text : Result ℕ Refusal → List ℕ → List ℕ
map_text (Ok n) lent = mapped_text (take n lent)
map_text (Err r) lent = refused_line r

-- how many words of a mapping it wrote
abbrev pub words_written : Result ℕ Refusal → ℕ
words_written (Ok n) = n
words_written (Err r) = 0

-- ---- the answer to an input, by the refusal of a last word of it that is cut short

abbrev pub answer_at : Option Refusal → List ℕ → List ℕ → Result ℕ Refusal
answer_at (Some r) job lent = Err r
answer_at None job lent = answer_of job lent

unfoldable pub job_answer : Input → List ℕ → Result ℕ Refusal
job_answer input lent = answer_at (cut input) input.words lent

-- the lent words afterwards
abbrev pub lent_at : Option Refusal → List ℕ → List ℕ → List ℕ
lent_at (Some r) job lent = lent
lent_at None job lent = lent_after_map job lent

unfoldable pub job_lent : Input → List ℕ → List ℕ
job_lent input lent = lent_at (cut input) input.words lent

-- the text of an answer stands behind what stood before, and how many words of a mapping it wrote is said
pub record SaysAnswer (a : Result ℕ Refusal) (lent old new : List ℕ) (count : ℕ) : Type 0 where
  pub text : new ≡ old ++ map_text a lent
  pub words : count ≡ words_written a

-- by whether the input was read: of one that failed nothing is put or written, and that it failed is said
abbrev pub SaysMapped : Result Input Failed → List ℕ → List ℕ → List ℕ → List ℕ → Result ℕ Failed → Type 0
SaysMapped (Err e) lent lent_after old new r = (r ≡ Err e) × (lent_after ≡ lent) × (new ≡ old)
SaysMapped (Ok input) lent lent_after old new (Err e) = ⊥
SaysMapped (Ok input) lent lent_after old new (Ok count) =
    (lent_after ≡ job_lent input lent) × SaysAnswer (job_answer input lent) (job_lent input lent) old new count
