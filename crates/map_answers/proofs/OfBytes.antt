-- What is said of the words that were kept of a file is what its bytes ask for: of a file longer than any job one word more than a job can
-- have is kept, which is refusal 1 as for all its words.
use mathlib.Core.Path.{◌≡◌, refl, sym, ap, subst, ◌∙◌}
use mathlib.Core.Bool.{Bool, true, false, not}
use mathlib.Core.List.{List, ◌++◌}
use Prim.Native.Nat.{ℕ, ◌/◌, ◌%◌, ◌<◌}
use native.Mathlib.Omega.{arith}
use borrow.Author.Tests.{ltb-true, ltb-false, lt-ltb, le-ltb}
use lib.Dec.{eqb, ltb}
use lib.ListN.{length, take, length-take}
use lib.Seq.{take_all}
use Rattle.std.specs.Prelude.{if◌then◌else◌, Some, None, Ok, Err}
use Rattle.words.specs.Paper.{refusal}
use Rattle.sequence.specs.Limits.{most_job_words}
use Rattle.files.specs.Files.{words_of}
use Rattle.reader.specs.Words.{words_read}
use Rattle.reader.specs.Job.{job_of}
use Rattle.input.specs.Read.{kept_bytes, input_of, ReadToEnd}
use Rattle.input.specs.declared.Input.{Input}
use Rattle.input.proofs.Chunks.{words_length}
use Rattle.mapper.specs.Mapping.{answer_of, lent_after_map}
use Rattle.map_answers.specs.Answers.{map_text, answer_at, job_answer, lent_at, job_lent, SaysMapped}
use Rattle.map_answers.specs.Bytes.{job_text}
use Rattle.words.specs.declared.Fault.TheVariants.{BadLength, OutOfSequence}

-- the text for words that were read whole
words_text : List ℕ → List ℕ → List ℕ
words_text ws lent = map_text (answer_of ws lent) (lent_after_map ws lent)

module _ (ws lent : List ℕ) (h : most_job_words < length ws) where
  too_long : answer_of ws lent ≡ Err (refusal BadLength 0)
  unfolding answer_of job_of words_read
  too_long = rw (le-ltb (length ws) 1 (omega arith), lt-ltb most_job_words (length ws) h) refl

  too_long_text : words_text ws lent ≡ map_text (Err (refusal BadLength 0)) lent
  unfolding words_text
  too_long_text = rw too_long refl

kept_enough : (file lent : List ℕ) (b : Bool) → ltb kept_bytes (length file) ≡ b → words_text (words_of (take kept_bytes file)) lent ≡ words_text (words_of file) lent
kept_enough file lent false e = ap (λ (f : List ℕ). words_text (words_of f) lent) (take_all kept_bytes file (ltb-false kept_bytes (length file) e))
kept_enough file lent true e =
    let h = ltb-true kept_bytes (length file) e in
    too_long_text (words_of (take kept_bytes file)) lent
    (omega (arith, words_length (take kept_bytes file), length-take kept_bytes file))
    ∙ sym (too_long_text (words_of file) lent (omega (arith, words_length file)))

-- the text for what was kept of a file that was read to its end
pub says_of_the_bytes : (file lent : List ℕ) → map_text (job_answer (input_of file) lent) (job_lent (input_of file) lent) ≡ job_text file lent
unfolding job_answer job_lent job_text words_text
says_of_the_bytes file lent = by_rest (eqb (length file % 4) 0)
  where
    by_rest : (whole : Bool)
        → map_text (answer_at (if whole then None else Some (refusal OutOfSequence (length file / 4))) (words_of (take kept_bytes file)) lent)
        (lent_at (if whole then None else Some (refusal OutOfSequence (length file / 4))) (words_of (take kept_bytes file)) lent)
        ≡ (if not whole then map_text (Err (refusal OutOfSequence (length file / 4))) lent else words_text (words_of file) lent)
    by_rest false = refl
    by_rest true = kept_enough file lent (ltb kept_bytes (length file)) refl

-- ---- what map_job prints for an input that was read to its end

pub prints_for_the_bytes : (input : Input) (k : ReadToEnd input) (lent lent_after old new : List ℕ) (count : ℕ)
    → SaysMapped (Ok input) lent lent_after old new (Ok count) → new ≡ old ++ job_text k.file lent
prints_for_the_bytes input k lent lent_after old new count s =
    let p : SaysMapped (Ok (input_of k.file)) lent lent_after old new (Ok count) =
    subst (λ (i : Input). SaysMapped (Ok i) lent lent_after old new (Ok count)) k.same s
    in p.1.text ∙ ap (λ (t : List ℕ). old ++ t) (says_of_the_bytes k.file lent)
