-- "1 first; then word by word, 2 to 6 in each": what reading refuses is refused with a number of 1 to 6.
use mathlib.Core.Path.{◌≡◌, subst}
use mathlib.Core.Bool.{not}
use mathlib.Core.List.{List, [], ◌∷◌}
use Prim.Native.Nat.{ℕ, ◌+◌, ◌≤◌}
use native.Mathlib.Omega.{arith}
use lib.Dec.{eqb, ltb}
use lib.ListN.{length}
use Rattle.words.specs.Field.{kind_of}
use Rattle.words.specs.Kinds.{GLUE, is_recipe}
use Rattle.words.specs.Paper.{number_of, unless_fault}
use Rattle.words.specs.declared.Fault.{Fault}
use Rattle.words.specs.declared.Refusal.{Refusal}
use Rattle.words.proofs.Choices.{either}
use Rattle.layout.specs.Layout.{reads_undriven, shows_other}
use Rattle.sequence.specs.Sequence.{stage_of, in_sequence}
use Rattle.grammar.specs.Reading.{fits, rises, word_fault, beginning, after, reading}
use Rattle.reader.specs.Words.{most_words, words_read}
use Rattle.reader.specs.Job.{job_ended, job_of}
use Rattle.reader.specs.Mapping.{mapping_ended, mapping_of}
use Rattle.sequence.specs.declared.File.{File}
use Rattle.sequence.specs.declared.File.TheVariants.{AsJob, AsMapping}
use Rattle.sequence.specs.declared.State.{State}
use Rattle.std.specs.Prelude.{Option, Some, None, Result, Ok, Err}

-- a number of document 01's list
abbrev Listed : Fault → Type 0
Listed fault = (1 ≤ number_of fault) × (number_of fault ≤ 6)

-- if there is a fault, or a refusal, its number is listed
abbrev Faults : Option Fault → Type 0
Faults (Some fault) = Listed fault
Faults None = Unit

abbrev Refuses : {A : Type 0} → Result A Refusal → Type 0
Refuses (Err r) = Listed r.fault
Refuses (Ok x) = Unit

word_faults : (file : File) (s : State) (w : ℕ) → Faults (word_fault file s w)
unfolding word_fault
word_faults file s w =
    either Faults (not (in_sequence file s (kind_of w))) (λ _. omega arith)
    (λ _. either Faults (not (fits file w)) (λ _. omega arith)
    (λ _. either Faults (not (rises s w)) (λ _. omega arith)
    (λ _. either Faults (not (is_recipe (kind_of w))) (λ _. tt)
    (λ _. either Faults (reads_undriven w) (λ _. omega arith)
    (λ _. either Faults (shows_other w) (λ _. omega arith) (λ _. tt))))))

stops : (o : Option Fault) (place : ℕ) (x : Result State Refusal) → Faults o → Refuses x → Refuses (unless_fault o place x)
stops None place x f g = g
stops (Some fault) place x f g = f

reading_refuses : (file : File) (ws : List ℕ) (s : State) (place : ℕ) → Refuses (reading file s place ws)
reading_refuses file [] s place = tt
reading_refuses file (w ∷ ws) s place =
    stops (word_fault file s w) place _ (word_faults file s w) (reading_refuses file ws (after s w) (place + 1))

words_refuse : (file : File) (ws : List ℕ) → Refuses (words_read file ws)
unfolding words_read
words_refuse file ws =
    either Refuses (ltb (length ws) 1) (λ _. omega arith)
    (λ _. either Refuses (ltb (most_words file) (length ws)) (λ _. omega arith) (λ _. reading_refuses file ws beginning 0))

job_refuses : (ws : List ℕ) (x : Result State Refusal) → Refuses x → Refuses (job_ended ws x)
job_refuses ws (Err r) h = h
job_refuses ws (Ok s) h = either Refuses (ltb s.sources 1) (λ _. omega arith) (λ _. tt)

mapping_refuses : (ws : List ℕ) (x : Result State Refusal) → Refuses x → Refuses (mapping_ended ws x)
mapping_refuses ws (Err r) h = h
mapping_refuses ws (Ok s) h = either Refuses (not (eqb (stage_of s) GLUE)) (λ _. omega arith) (λ _. tt)

module _ (r : Refusal) (ws : List ℕ) where
  pub job_number : job_of ws ≡ Err r → Listed r.fault
  unfolding job_of
  job_number e = subst Refuses e (job_refuses ws (words_read AsJob ws) (words_refuse AsJob ws))

  pub mapping_number : mapping_of ws ≡ Err r → Listed r.fault
  unfolding mapping_of
  mapping_number e = subst Refuses e (mapping_refuses ws (words_read AsMapping ws) (words_refuse AsMapping ws))
