-- What the mapper answers and writes: the refusals 1 to 6 of the job first, then 12, and 23 last.
use Rattle.std.specs.Prelude.{ℕ, List, [], ◌∷◌, ◌++◌, length, if◌then◌else◌, Result, Ok, Err}
use Rattle.words.specs.Paper.{Paper, refusal, accepted, told}
use Rattle.book.specs.Book.{book}
use Rattle.reader.specs.Job.{job_of}
use Rattle.reader.specs.declared.Job.{Job}
use Rattle.words.specs.declared.Refusal.{Refusal}
use Rattle.table.specs.Parts.{sources_of, rules_of, terms_of}
use Rattle.pricer.specs.Pricing.{glue_of}
use Rattle.writer.specs.Write.{mapping_words, written_of, lent_after}
use Rattle.choice.specs.Choose.{choose}
use Rattle.words.specs.declared.Fault.TheVariants.{Unmappable}

-- request #101: "Header bit 7 of a job .. places the book after the job's own rules"
abbrev pub book_of : Job → List ℕ
book_of job = if job.book then book else []

abbrev pub rules_for : List ℕ → Job → List ℕ
rules_for ws job = rules_of ws job ++ book_of job

-- the choice for a job; "the mapper's choice and refusal 12 then range over both"
abbrev pub choice_of : List ℕ → Job → Result (List ℕ) ℕ
choice_of ws job = choose (terms_of ws job) (rules_for ws job) [] (sources_of ws job)

-- the mapping that binds by these rules, with its glue count
abbrev pub chosen_words : Job → List ℕ → List ℕ
chosen_words job bound = mapping_words job.width bound (glue_of job bound)

-- ---- the answer

-- "12. Unmappable; place: lowest function without a usable rule."; and "23. Lent words fewer than sources + 2; place: words needed. Last"
abbrev pub answer_to : Result (List ℕ) ℕ → List ℕ → Result ℕ Refusal
answer_to (Err place) lent = Err (refusal Unmappable place)
answer_to (Ok bound) lent = written_of (length bound) lent

abbrev pub answer_for : List ℕ → Result Job Refusal → List ℕ → Result ℕ Refusal
answer_for ws (Err r) lent = Err r
answer_for ws (Ok job) lent = answer_to (choice_of ws job) lent

unfoldable pub answer_of : List ℕ → List ℕ → Result ℕ Refusal
answer_of ws lent = answer_for ws (job_of ws) lent

-- ---- the lent words afterwards: as they were, unless a mapping is written

abbrev pub lent_to : Job → Result (List ℕ) ℕ → List ℕ → List ℕ
lent_to job (Err place) lent = lent
lent_to job (Ok bound) lent = lent_after (chosen_words job bound) lent

abbrev pub lent_for : List ℕ → Result Job Refusal → List ℕ → List ℕ
lent_for ws (Err r) lent = lent
lent_for ws (Ok job) lent = lent_to job (choice_of ws job) lent

unfoldable pub lent_after_map : List ℕ → List ℕ → List ℕ
lent_after_map ws lent = lent_for ws (job_of ws) lent

-- the answer in document 01's numbers
abbrev pub paper_of : Result ℕ Refusal → Paper
paper_of (Ok n) = accepted (n ∷ [])
paper_of (Err r) = told r
