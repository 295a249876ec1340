-- What reading hands on from one read to the next. Nobody has to believe this: Read.antt says what is read in the end.
use Rattle.std.specs.Prelude.{ℕ, ◌-◌, ◌≡◌, List, Result, Ok, Err, min, length, take}
use Rattle.std.proofs.lemmas.List.Edits.{sets}
use Rattle.files.specs.Files.{words_of}
use Rattle.console.specs.declared.Failed.{Failed}
use Rattle.input.specs.Read.{Words, kept_bytes}

-- the bytes that a read brings are kept behind those before, as far as there is room
pub record BringsBytes (kept : List ℕ) (at : ℕ) (after : List ℕ) (count : ℕ) : Type 0 where
  pub chunk : List ℕ
  pub counted : count ≡ length chunk
  pub kept_behind : after ≡ sets kept at (take (length kept - at) chunk)

-- what is kept after the system's answer to a read into a chunk: the bytes that it brought, behind those before; of a failure none
abbrev pub kept_after : List ℕ → ℕ → List ℕ → Result ℕ Failed → List ℕ
kept_after kept at chunk (Ok count) = sets kept at (take (length kept - at) (take count chunk))
kept_after kept at chunk (Err e) = kept

-- one that fails brings none
abbrev pub Brings : List ℕ → ℕ → List ℕ → Result ℕ Failed → Type 0
Brings kept at after (Ok count) = BringsBytes kept at after count
Brings kept at after (Err e) = after ≡ kept

-- so many bytes were read, and are kept as far as there is room
pub record Keeps (kept after : List ℕ) (bytes : ℕ) : Type 0 where
  pub file : List ℕ
  pub size : bytes ≡ length file
  pub kept_first : after ≡ sets kept 0 (take (length kept) file)

-- what is read of a file of so many bytes, by those of them that were kept
abbrev pub words_from : List ℕ → ℕ → Words
words_from bytes size = record { words = words_of (take (min size kept_bytes) bytes); bytes = size }

abbrev pub input_from : List ℕ → Result ℕ Failed → Result Words Failed
input_from bytes (Ok size) = Ok (words_from bytes size)
input_from bytes (Err e) = Err e
