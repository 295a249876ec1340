-- What is said of a file that was read: "a last word cut short is 2 at its index". Which bytes a file has, and whether a read failed, is
-- the system's choice; all else follows from it.
use Rattle.std.specs.Prelude.{ℕ, ◌+◌, ◌*◌, ◌/◌, ◌%◌, ◌≡◌, Option, None, Some, List, Result, Ok, Err, ⊤, eqb, length, take, if◌then◌else◌}
use Rattle.words.specs.Paper.{refusal}
use Rattle.words.specs.declared.Refusal.{Refusal}
use Rattle.words.specs.declared.Fault.TheVariants.{OutOfSequence}
use Rattle.sequence.specs.Limits.{most_job_words}
use Rattle.files.specs.Files.{words_of}
use Rattle.console.specs.declared.Failed.{Failed}

-- Of a file longer than any job so many words are kept, one more than a job can have; and their bytes.
abbrev pub kept_words : ℕ
kept_words = most_job_words + 1

abbrev pub kept_bytes : ℕ
kept_bytes = 4 * kept_words

-- what is kept of a file: its first words, and how many bytes it has
pub record Words : Type 0 where
  pub words : List ℕ
  pub bytes : ℕ

-- the whole words of the file, kept or not
abbrev pub whole : Words → ℕ
whole input = input.bytes / 4

-- "a last word cut short is 2 at its index": that refusal, if it is cut short
abbrev pub cut : Words → Option Refusal
cut input = if eqb (input.bytes % 4) 0 then None else Some (refusal OutOfSequence (whole input))

-- of so many bytes of a file of these words
abbrev pub kept_of : List ℕ → ℕ → Words
kept_of words bytes = record { words = take kept_words (take (bytes / 4) words); bytes = bytes }

abbrev pub input_of : List ℕ → Words
input_of file = record { words = words_of (take kept_bytes file); bytes = length file }

-- what was read: the file's bytes
pub record ReadToEnd (input : Words) : Type 0 where
  pub file : List ℕ
  pub same : input ≡ input_of file

-- or that a read failed
abbrev pub Read : Result Words Failed → Type 0
Read (Ok input) = ReadToEnd input
Read (Err e) = ⊤
