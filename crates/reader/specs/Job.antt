-- Document 01, "Words" and refusals 1 to 6: the reading of a job.
use Rattle.std.specs.Prelude.{ℕ, ◌≡◌, List, [], ◌∷◌, eqb, ltb, length, get_or, if◌then◌else◌, Result, Ok, Err}
use Rattle.words.specs.Field.{field}
use Rattle.words.specs.Paper.{Paper, refusal, accepted, told}
use Rattle.words.specs.declared.Prices.{Prices}
use Rattle.reader.specs.Words.{words_read}
use Rattle.sequence.specs.declared.File.TheVariants.{AsJob}
use Rattle.sequence.specs.declared.State.{State}
use Rattle.words.specs.declared.Refusal.{Refusal}
use Rattle.reader.specs.declared.Job.{Job}
use Rattle.words.specs.declared.Fault.TheVariants.{OutOfSequence}

-- "bits 23..16 inverter a, 15..8 two-input gate b, 7..0 two-way multiplexer m"
abbrev pub prices_in : ℕ → Prices
prices_in w = record { inverter = field w 16 8; gate = field w 8 8; multiplexer = field w 0 8 }

-- what a header, with "bits 6..0 width" and bit 7 for the book (request #101), a word of prices and the words behind them say
abbrev pub job_facts : ℕ → ℕ → State → Job
job_facts header prices s =
    record {
      width = field header 0 7;
      prices = prices_in prices;
      sources = s.sources;
      targets = s.targets;
      rules = s.rules;
      book = eqb (field header 7 1) 1;
    }

-- the words passed one by one; "or file ended early (place: word count)": a job has "1 to 27 sources"
abbrev pub job_ended : List ℕ → Result State Refusal → Result Job Refusal
job_ended ws (Err r) = Err r
job_ended ws (Ok s) =
    if ltb s.sources 1 then Err (refusal OutOfSequence (length ws)) else Ok (job_facts (get_or ws 0 0) (get_or ws 1 0) s)

unfoldable pub job_of : List ℕ → Result Job Refusal
job_of ws = job_ended ws (words_read AsJob ws)

-- "A job .. is well formed if none of 1 to 6 below holds of its words": it then says this
abbrev pub WellFormedJob : List ℕ → Job → Type 0
WellFormedJob ws job = job_of ws ≡ Ok job

-- the answer in document 01's numbers
abbrev pub paper_of : Result Job Refusal → Paper
paper_of (Ok job) =
    accepted
    (job.width ∷ job.prices.inverter ∷ job.prices.gate ∷ job.prices.multiplexer ∷ job.sources ∷ job.targets ∷ job.rules
    ∷ (if job.book then 1 else 0) ∷ [])
paper_of (Err r) = told r
