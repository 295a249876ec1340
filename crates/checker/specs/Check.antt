-- Document 01, "Refusals that come from the input": what the checker answers to a job and a mapping.
use Rattle.std.specs.Prelude.{ℕ, ◌≡◌, not, List, [], eqb, length, if◌then◌else◌, Result, Ok, Err, ⊤, Option, Some, None}
use Rattle.words.specs.Paper.{Paper, refusal, source_place, accepted, told, told_of_job, told_of_mapping}
use Rattle.verdict.specs.Verdicts.{Differs, wrong_paper, Ruling, Gives, Names}
use Rattle.reader.specs.Starts.{glue_place}
use Rattle.reader.specs.declared.Mapping.{Mapping}
use Rattle.table.specs.Parts.{Terms}
use Rattle.fitting.specs.Pairing.{Pairing, pairing_of}
use Rattle.fitting.specs.Fitting.{fit_of}
use Rattle.checker.specs.declared.CheckError.{CheckError}
use Rattle.fitting.specs.declared.PairError.{PairError}
use Rattle.words.specs.declared.Refusal.{Refusal}
use Rattle.fitting.specs.declared.PairError.TheVariants as pair
use Rattle.glue.specs.Glue.{glue}
use Rattle.completeness.specs.Complete.{first_unbound}
use Rattle.rightness.specs.Rightness.{unless_wrong}
use Rattle.checker.specs.declared.CheckError.TheVariants.{JobRefused, MappingRefused, Refused, Wrong}
use Rattle.words.specs.declared.Fault.TheVariants.{Incomplete, OtherGlue}

-- the answer in document 01's numbers
abbrev pub paper_of : Result ⊤ CheckError → Paper
paper_of (Ok tt) = accepted []
paper_of (Err (JobRefused r)) = told_of_job r
paper_of (Err (MappingRefused r)) = told_of_mapping r
paper_of (Err (Refused r)) = told r
paper_of (Err (Wrong v)) = wrong_paper v

-- what a ruling makes of an answer
abbrev pub CheckRuled : Ruling (Result ⊤ CheckError) → Result ⊤ CheckError → Type 0
CheckRuled (Gives answer) r = r ≡ answer
CheckRuled (Names c n) (Ok tt) = ⊥
CheckRuled (Names c n) (Err (JobRefused r)) = ⊥
CheckRuled (Names c n) (Err (MappingRefused r)) = ⊥
CheckRuled (Names c n) (Err (Refused r)) = ⊥
CheckRuled (Names c n) (Err (Wrong v)) = Differs c n v

-- ---- 11

-- "11. Glue count differs; place: its word."
unfoldable pub account_of : Terms → Mapping → List ℕ → Result ⊤ CheckError
account_of t mapping bindings =
    if not (eqb (glue t.width t.prices bindings) mapping.glue) then Err (Refused (refusal OtherGlue (glue_place (length bindings))))
    else Ok tt

-- ---- the order: "1 first; then word by word, 2 to 6 in each; then 7 to 11"

-- 9 names the source without a binding
abbrev pub unless_unbound : Option ℕ → Ruling (Result ⊤ CheckError) → Ruling (Result ⊤ CheckError)
unless_unbound (Some f) next = Gives (Err (Refused (refusal Incomplete (source_place f))))
unless_unbound None next = next

-- a mapping that fits: 9, 10, 11
unfoldable pub fitting_of : Terms → Mapping → List ℕ → Ruling (Result ⊤ CheckError)
fitting_of t mapping bindings =
    unless_unbound (first_unbound t.sources bindings) (unless_wrong t bindings (Gives (account_of t mapping bindings)))

abbrev pub unless_misfit : Result ⊤ Refusal → Ruling (Result ⊤ CheckError) → Ruling (Result ⊤ CheckError)
unless_misfit (Err r) next = Gives (Err (Refused r))
unless_misfit (Ok tt) next = next

-- a mapping that was read, judged under the terms of a job that was read: 7 to 11
unfoldable pub judgement_of : Terms → Mapping → List ℕ → Ruling (Result ⊤ CheckError)
judgement_of t mapping bindings = unless_misfit (fit_of t mapping bindings) (fitting_of t mapping bindings)

-- a refusal of the two read together
abbrev pub of_pair : PairError → CheckError
of_pair (pair.JobRefused r) = JobRefused r
of_pair (pair.MappingRefused r) = MappingRefused r
of_pair (pair.Refused r) = Refused r

abbrev pub ruled_of : Result Pairing PairError → Ruling (Result ⊤ CheckError)
ruled_of (Err refused) = Gives (Err (of_pair refused))
ruled_of (Ok p) = judgement_of p.terms p.mapping p.bindings

unfoldable pub ruling_of : List ℕ → List ℕ → Ruling (Result ⊤ CheckError)
ruling_of job_words mapping_words = ruled_of (pairing_of job_words mapping_words)

-- what the checker's answer to a job and a mapping is
abbrev pub Checks : List ℕ → List ℕ → Result ⊤ CheckError → Type 0
Checks job_words mapping_words r = CheckRuled (ruling_of job_words mapping_words) r
