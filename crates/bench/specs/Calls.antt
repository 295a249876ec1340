-- Document 01, "Mapper and bench" and "Refusals that come from the state", and requests #102 and #103: what each call answers, and the
-- bench afterwards.
use Rattle.std.specs.Prelude.{ℕ, ◌≡◌, Bool, not, List, [], ◌∷◌, length, set, replicate, if◌then◌else◌, Option, None, Some, Result, Ok, Err, ⊤}
use Rattle.words.specs.Paper.{Paper, refusal, unless_fault, source_place, accepted, told}
use Rattle.recipe.specs.Fields.{source_of}
use Rattle.binding.specs.Right.{is_right}
use Rattle.binding.specs.declared.Claim.{Claim}
use Rattle.verdict.specs.Verdicts.{Differs, wrong_paper, Ruling, Gives, Names}
use Rattle.sequence.specs.Limits.{most_sources}
use Rattle.reader.specs.Job.{job_of}
use Rattle.reader.specs.declared.Job.{Job}
use Rattle.words.specs.declared.Refusal.{Refusal}
use Rattle.table.specs.Table.{in_job}
use Rattle.claims.specs.Claim.{claim_in}
use Rattle.writer.specs.Write.{mapping_words, written_of, lent_after}
use Rattle.soundness.specs.Sound.{nothing, filled, sources_on, targets_on, rule_fault, glue_on, is_sound}
use Rattle.soundness.specs.declared.Tables.{Tables}
use Rattle.opening.specs.Opening.{tables_in, tables_of_zeros}
use Rattle.entries.specs.Entries.{entry_of, is_bound, first_empty}
use Rattle.bench.specs.declared.Bench.{Bench}
use Rattle.bench.specs.declared.CallError.{CallError}
use Rattle.bench.specs.declared.CallError.TheVariants.{Refused, Wrong}
use Rattle.bench.specs.declared.After.{After}
use Rattle.words.specs.declared.Fault.TheVariants.{AlreadyBound, NotBound, NotInJob, NotSound, Unbound}

-- ---- a bench

-- a bench with these tables and bindings, and the count that it stores
abbrev pub bench_with : Tables → List ℕ → ℕ → Bench
bench_with tables bound stored = record { tables = tables; bound = bound; glue = stored }

-- the same bench with other bindings, and their count: "store the count in the bench and keep it true"
abbrev pub holding : Bench → List ℕ → Bench
holding b bound = bench_with b.tables bound (glue_on b.tables bound)

-- "A sound bench has values in range .."
abbrev pub sound_bench : Bench → Bool
sound_bench b = is_sound b.tables b.bound b.glue

-- the bindings, in table order
abbrev pub bindings_on : Bench → List ℕ
bindings_on b = filled b.bound

-- the entry of a function's source, and whether something is bound there
abbrev pub entry_for : Bench → ℕ → Option ℕ
entry_for b f = entry_of (sources_on b.tables) f

abbrev pub has_binding : Bench → ℕ → Bool
has_binding b f = is_bound (sources_on b.tables) b.bound f

-- exactly one entry changed, and the count with it; where there is none, the one past the sources
abbrev pub bound_at : Bench → Option ℕ → ℕ → Bench
bound_at b None w = holding b (set b.bound (length (sources_on b.tables)) w)
bound_at b (Some i) w = holding b (set b.bound i w)

abbrev pub gives : {A : Type 0} → Bench → Result A CallError → After A
gives b a = record { bench = b; answer = a }

-- a bench handed back with a refusal
abbrev pub refuses : Bench → Refusal → After ⊤
refuses b r = gives b (Err (Refused r))

-- the bench that comes next, or the same one with the refusal
abbrev pub next_of : Bench → Result Bench CallError → After ⊤
next_of b (Ok next) = gives next (Ok tt)
next_of b (Err e) = gives b (Err e)

-- ---- open: "Opening takes no bench and binds nothing; refused, it hands back one of zeros only"

-- a bench with nothing bound: "The empty bench prices at 0."
abbrev pub empty_bench : Tables → Bench
empty_bench tables = bench_with tables (replicate most_sources nothing) 0

abbrev pub opened : List ℕ → Job → Bench
opened ws job = empty_bench (tables_in ws job)

-- "one of zeros only, which is not sound"
abbrev pub bench_of_zeros : Bench
bench_of_zeros = empty_bench tables_of_zeros

abbrev pub open_for : List ℕ → Result Job Refusal → After ⊤
open_for ws (Err r) = refuses bench_of_zeros r
open_for ws (Ok job) = gives (opened ws job) (Ok tt)

unfoldable pub open_of : List ℕ → After ⊤
open_of ws = open_for ws (job_of ws)

-- ---- bind: "20, 2, 3, 5, 6, 8, 21, 10; word places are 0"

-- not "8. Source or target function not in the job"
abbrev pub in_tables : Bench → ℕ → Bool
in_tables b w = in_job (sources_on b.tables) (targets_on b.tables) w

-- "8. Source or target function not in the job"; "21. .. place: function"
unfoldable pub table_check : Bench → ℕ → Result ⊤ Refusal
table_check b w =
    if not (in_tables b w) then Err (refusal NotInJob 0)
    else if has_binding b (source_of w) then Err (refusal AlreadyBound (source_place (source_of w)))
    else Ok tt

-- the refusals before 10: "word places are 0"; "21. .. place: function"
unfoldable pub bind_check : Bench → ℕ → Result ⊤ Refusal
bind_check b w =
    if not (sound_bench b) then Err (refusal NotSound 0)
    else unless_fault (rule_fault w) 0 (table_check b w)

-- the claim of a recipe on a bench
abbrev pub claim_on : Bench → ℕ → Claim
claim_on b w = claim_in (sources_on b.tables) (targets_on b.tables) w

abbrev pub bind_for : Bench → ℕ → Result ⊤ Refusal → Ruling (After ⊤)
bind_for b w (Err r) = Gives (refuses b r)
bind_for b w (Ok tt) =
    if not (is_right (claim_on b w) b.tables.width) then Names (claim_on b w) b.tables.width
    else Gives (gives (bound_at b (entry_for b (source_of w)) w) (Ok tt))

unfoldable pub bind_of : Bench → ℕ → Ruling (After ⊤)
bind_of b w = bind_for b w (bind_check b w)

-- the answer says that a claim is wrong at width n
abbrev pub WrongAt : Claim → ℕ → Result ⊤ CallError → Type 0
WrongAt c n (Ok tt) = ⊥
WrongAt c n (Err (Refused r)) = ⊥
WrongAt c n (Err (Wrong v)) = Differs c n v

-- what the ruling on a bind of a bench makes of an answer; "Lent words and the bench stay unchanged", of refusal 10 too
abbrev pub BindRuled : Bench → Ruling (After ⊤) → After ⊤ → Type 0
BindRuled b (Gives a) r = r ≡ a
BindRuled b (Names c n) r = (r.bench ≡ b) × WrongAt c n r.answer

abbrev pub Binds : Bench → ℕ → After ⊤ → Type 0
Binds b w r = BindRuled b (bind_of b w) r

-- ---- release: 20, then "24, the function to be released has no binding (place: function)"

unfoldable pub release_of : Bench → ℕ → After ⊤
release_of b f =
    if not (sound_bench b) then refuses b (refusal NotSound 0)
    else if not (has_binding b f) then refuses b (refusal NotBound (source_place f))
    else gives (bound_at b (entry_for b f) nothing) (Ok tt)

-- ---- price: 20, then the stored count

unfoldable pub price_of : Bench → After ℕ
price_of b = gives b (if not (sound_bench b) then Err (Refused (refusal NotSound 0)) else Ok b.glue)

-- ---- finish: 20, 22 (lowest), 23 last; writes the mapping

-- the function of the first source with nothing bound
abbrev pub unbound_on : Bench → Option ℕ
unbound_on b = first_empty (sources_on b.tables) b.bound

-- "Lent words fewer than sources + 2; place: words needed."
abbrev pub finish_written : Result ℕ Refusal → Result ℕ CallError
finish_written (Err r) = Err (Refused r)
finish_written (Ok n) = Ok n

-- "header, 0 to 27 bindings, glue count", which is the stored one
abbrev pub mapping_on : Bench → List ℕ
mapping_on b = mapping_words b.tables.width (bindings_on b) b.glue

-- by the first source with nothing bound
abbrev pub finish_for : Bench → List ℕ → Option ℕ → Result ℕ CallError
finish_for b lent (Some f) = Err (Refused (refusal Unbound (source_place f)))
finish_for b lent None = finish_written (written_of b.tables.nsources lent)

unfoldable pub finish_of : Bench → List ℕ → After ℕ
finish_of b lent = gives b (if not (sound_bench b) then Err (Refused (refusal NotSound 0)) else finish_for b lent (unbound_on b))

-- the lent words afterwards
abbrev pub lent_for : Bench → List ℕ → Option ℕ → List ℕ
lent_for b lent (Some f) = lent
lent_for b lent None = lent_after (mapping_on b) lent

unfoldable pub lent_after_finish : Bench → List ℕ → List ℕ
lent_after_finish b lent = if not (sound_bench b) then lent else lent_for b lent (unbound_on b)

-- ---- an answer in document 01's numbers

abbrev pub error_paper : CallError → Paper
error_paper (Refused r) = told r
error_paper (Wrong v) = wrong_paper v

-- of a call that hands back the bench alone
abbrev pub paper_of : Result ⊤ CallError → Paper
paper_of (Ok tt) = accepted []
paper_of (Err e) = error_paper e

-- of one that gives a number too
abbrev pub number_paper_of : Result ℕ CallError → Paper
number_paper_of (Ok n) = accepted (n ∷ [])
number_paper_of (Err e) = error_paper e
