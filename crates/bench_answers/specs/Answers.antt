-- What work_bench says of its job's file and of each command: OPENED, BOUND, RELEASED, map_job's lines, GLUE and the count, or the refusal.
use Rattle.std.specs.Prelude.{ℕ, Option, None, Some, ◌≡◌, List, [], ◌∷◌, ◌++◌, Result, Ok, Err, eqb, take, if◌then◌else◌, ⊤, is_ok}
use Rattle.std.specs.Result.{result_unwrap_or}
use Rattle.words.specs.Field.{source_function}
use Rattle.words.specs.declared.Refusal.{Refusal}
use Rattle.text.specs.Text.{bytes, name_of}
use Rattle.lines.specs.Lines.{refused_line, wrong_line}
use Rattle.listing.specs.Listing.{binding_line, glue_line, mapped_text}
use Rattle.writer.specs.Write.{binding_word}
use Rattle.soundness.specs.Sound.{nothing, sources_on}
use Rattle.console.specs.declared.Failed.{Failed}
use Rattle.input.specs.declared.Input.{Input}
use Rattle.input.specs.Read.{cut}
use Rattle.commands.specs.declared.Command.{Command}
use Rattle.commands.specs.declared.Command.TheVariants as command
use Rattle.bench.specs.Calls.{refuses, bench_of_zeros, open_of, Binds, release_of, price_of, finish_of, lent_after_finish}
use Rattle.bench.specs.declared.Bench.{Bench}
use Rattle.bench.specs.declared.After.{After}
use Rattle.bench.specs.declared.CallError.{CallError}
use Rattle.bench.specs.declared.CallError.TheVariants.{Refused, Wrong}
use Rattle.bench_answers.specs.declared.Worked.{Worked}

-- ---- the text of an answer

abbrev pub error_text : CallError → List ℕ
error_text (Refused r) = refused_line r
error_text (Wrong v) = wrong_line v

-- what is said of what a call gives, or why it is refused
abbrev pub answer_text : {A : Type 0} → (A → List ℕ) → Result A CallError → List ℕ
answer_text given (Ok value) = given value
answer_text given (Err e) = error_text e

-- the mapping that a finish wrote into lent words
abbrev pub written_text : List ℕ → ℕ → List ℕ
written_text lent n = mapped_text (take n lent)

-- how many words of a mapping it wrote
abbrev pub words_finished : Result ℕ CallError → ℕ
words_finished answer = result_unwrap_or answer 0

-- the text of a call's answer stands behind what stood before, and the bench that came back is handed on
pub record SaysCall {A : Type 0} (call : After A) (given : A → List ℕ) (words : ℕ) (old new : List ℕ) (r : Worked) : Type 0 where
  pub next : r.bench ≡ call.bench
  pub text : new ≡ old ++ answer_text given call.answer
  pub counted : r.words ≡ words

-- ---- the job's file: "a last word cut short is 2 at its index, before all else"

abbrev pub open_at : Option Refusal → List ℕ → After ⊤
open_at (Some r) job = refuses bench_of_zeros r
open_at None job = open_of job

unfoldable pub open_input : Input → After ⊤
open_input input = open_at (cut input) input.words

-- the bench that comes back, and whether it is that of a job that is opened
abbrev pub opened_bench : After ⊤ → Result Bench Bench
opened_bench call = if is_ok call.answer then Ok call.bench else Err call.bench

pub record SaysOpened (call : After ⊤) (old new : List ℕ) (r : Result Bench Bench) : Type 0 where
  pub opens : r ≡ opened_bench call
  pub text : new ≡ old ++ answer_text (λ _. bytes "OPENED\n") call.answer

-- by whether the file was read: one that could not be read is not opened, and nothing is put
abbrev pub SaysInput : Result Input Failed → List ℕ → List ℕ → Result Bench Bench → Type 0
SaysInput (Err e) old new r = (r ≡ Err bench_of_zeros) × (new ≡ old)
SaysInput (Ok input) old new r = SaysOpened (open_input input) old new r

-- ---- show: a line for each source, as map_job prints a binding, or its name and " -"

abbrev pub entry_line : ℕ → ℕ → List ℕ
entry_line source word =
    if eqb word nothing then name_of (source_function source) ++ bytes " -\n" else binding_line (binding_word word)

unfoldable pub entry_lines : List ℕ → List ℕ → List ℕ
entry_lines [] bound = []
entry_lines (s ∷ ss) [] = []
entry_lines (s ∷ ss) (w ∷ bound) = entry_line s w ++ entry_lines ss bound

abbrev pub bench_text : Bench → List ℕ
bench_text b = entry_lines (sources_on b.tables) b.bound

-- ---- a command

-- a text that no call answers; the bench stays
pub record SaysText (text old new : List ℕ) (b : Bench) (r : Worked) : Type 0 where
  pub same_bench : r.bench ≡ b
  pub says : new ≡ old ++ text
  pub no_words : r.words ≡ 0

-- a bind: of a wrong recipe the operands and the carry are the program's choice
pub record SaysBind (b : Bench) (word : ℕ) (old new : List ℕ) (r : Worked) : Type 0 where
  pub call : After ⊤
  pub binds : Binds b word call
  pub said : SaysCall call (λ _. bytes "BOUND\n") 0 old new r

-- a finish, and the lent words afterwards
abbrev pub SaysFinish : Bench → List ℕ → List ℕ → List ℕ → List ℕ → Worked → Type 0
SaysFinish b lent lent_after old new r =
    (lent_after ≡ lent_after_finish b lent)
    × SaysCall (finish_of b lent) (written_text (lent_after_finish b lent)) (words_finished (finish_of b lent).answer) old new r

-- what a command says, and the lent words afterwards
abbrev pub SaysCommand : Command → Bench → List ℕ → List ℕ → List ℕ → List ℕ → Worked → Type 0
SaysCommand command.Pass b lent lent_after old new r = (lent_after ≡ lent) × SaysText [] old new b r
SaysCommand (command.Bind w) b lent lent_after old new r = (lent_after ≡ lent) × SaysBind b w old new r
SaysCommand (command.Release f) b lent lent_after old new r =
    (lent_after ≡ lent) × SaysCall (release_of b f) (λ _. bytes "RELEASED\n") 0 old new r
SaysCommand command.Price b lent lent_after old new r = (lent_after ≡ lent) × SaysCall (price_of b) glue_line 0 old new r
SaysCommand command.Show b lent lent_after old new r = (lent_after ≡ lent) × SaysText (bench_text b) old new b r
SaysCommand command.Finish b lent lent_after old new r = SaysFinish b lent lent_after old new r

-- what a line says
abbrev pub Says : Option Command → Bench → List ℕ → List ℕ → List ℕ → List ℕ → Worked → Type 0
Says (Some c) b lent lent_after old new r = SaysCommand c b lent lent_after old new r
Says None b lent lent_after old new r = (lent_after ≡ lent) × SaysText (bytes "NOT A COMMAND\n") old new b r
