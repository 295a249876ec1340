-- What check_mapping says of what it read: "a last word cut short is 2 at its index", the job's before all else, the mapping's before the
-- mapping's other refusals; "the checker's 1 to 6 also say which of the two is meant". A file that could not be read has no answer.
use Rattle.std.specs.Prelude.{ℕ, ◌≡◌, Option, Some, None, List, ◌++◌, Result, Ok, Err, ⊤}
use Rattle.text.specs.Text.{bytes}
use Rattle.lines.specs.Lines.{refused_line, refused_file_line, wrong_line}
use Rattle.verdict.specs.Verdicts.{Ruling, Gives}
use Rattle.reader.specs.Job.{job_of}
use Rattle.checker.specs.declared.CheckError.{CheckError}
use Rattle.reader.specs.declared.Job.{Job}
use Rattle.words.specs.declared.Refusal.{Refusal}
use Rattle.console.specs.declared.Failed.{Failed}
use Rattle.input.specs.declared.Input.{Input}
use Rattle.input.specs.Read.{cut}
use Rattle.checker.specs.Check.{CheckRuled, ruling_of}
use Rattle.checker.specs.declared.CheckError.TheVariants.{JobRefused, MappingRefused, Refused, Wrong}
use Rattle.sequence.specs.declared.File.TheVariants.{AsJob, AsMapping}

-- the text of the checker's answer
abbrev pub refused_text : CheckError → List ℕ
refused_text (JobRefused r) = refused_file_line r AsJob
refused_text (MappingRefused r) = refused_file_line r AsMapping
refused_text (Refused r) = refused_line r
refused_text (Wrong v) = wrong_line v

abbrev pub checked_text : Result ⊤ CheckError → List ℕ
checked_text (Ok tt) = bytes "ACCEPTED\n"
checked_text (Err e) = refused_text e

-- ---- the answer to two files, by the refusal of a last word of each that is cut short

-- a mapping that is refused so, with a job that was read
abbrev pub cut_mapping : Refusal → Result Job Refusal → Result ⊤ CheckError
cut_mapping refused (Ok job) = Err (MappingRefused refused)
cut_mapping refused (Err r) = Err (JobRefused r)

abbrev pub ruling_at : Option Refusal → Option Refusal → List ℕ → List ℕ → Ruling (Result ⊤ CheckError)
ruling_at (Some r) c job mapping = Gives (Err (JobRefused r))
ruling_at None (Some r) job mapping = Gives (cut_mapping r (job_of job))
ruling_at None None job mapping = ruling_of job mapping

unfoldable pub files_ruling : Input → Input → Ruling (Result ⊤ CheckError)
files_ruling job mapping = ruling_at (cut job) (cut mapping) job.words mapping.words

-- the text of the answer to two files stands behind what stood before
pub record SaysRuled (ruling : Ruling (Result ⊤ CheckError)) (old new : List ℕ) : Type 0 where
  pub answer : Result ⊤ CheckError
  pub ruled : CheckRuled ruling answer
  pub text : new ≡ old ++ checked_text answer

-- by whether the job's file was read, and the mapping's: of a file that failed nothing is put
abbrev pub SaysChecked : Result Input Failed → Result Input Failed → List ℕ → List ℕ → Type 0
SaysChecked (Err e) mapping old new = new ≡ old
SaysChecked (Ok job) (Err e) old new = new ≡ old
SaysChecked (Ok job) (Ok mapping) old new = SaysRuled (files_ruling job mapping) old new
