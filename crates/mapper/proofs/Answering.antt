-- The mapper's answer and the lent words, from the choice.
use mathlib.Core.Path.{◌≡◌, refl, sym, ap, ◌∙◌, subst}
use mathlib.Core.Bool.{true, false}
use mathlib.Core.List.{List, [], ◌++◌}
use Prim.Native.Nat.{ℕ, ◌+◌, ◌^◌, ◌<◌, ◌≤◌}
use native.Mathlib.Omega.{arith}
use lib.ListN.{length, take, drop, length-drop}
use lib.Seq.{length-take-le}
use Rattle.bits.specs.Asked.{Width}
use Rattle.words.specs.Paper.{refusal}
use Rattle.words.specs.declared.Refusal.{Refusal}
use Rattle.book.specs.Book.{book}
use Rattle.sequence.specs.Limits.{most_sources, most_rules}
use Rattle.reader.specs.Starts.{sources_start, rules_start}
use Rattle.reader.specs.Job.{WellFormedJob}
use Rattle.reader.specs.declared.Job.{Job}
use Rattle.std.specs.Prelude.{Result, Ok, Err}
use Rattle.wellformed.proofs.JobWords.{JobFacts, well_formed}
use Rattle.table.specs.Parts.{sources_of, rules_of, Terms, terms_of}
use Rattle.glue.specs.Glue.{glue}
use Rattle.tally.specs.Parts.{set_count}
use Rattle.tally.proofs.Joining.{price_is_glue}
use Rattle.writer.specs.Asked.{Writable}
use Rattle.writer.specs.Write.{written_of, lent_after}
use Rattle.choice.specs.Choose.{choose}
use Rattle.choice.specs.Chosen.{KeptChoice, WritableChoice, kept_as}
use Rattle.mapper.specs.Mapping.{book_of, choice_of, chosen_words, answer_to, lent_to}
use Rattle.choice.specs.declared.Chosen.{Chosen}
use Rattle.words.specs.declared.Fault.TheVariants.{Unmappable}

-- ---- the parts of a job's words

module _ (ws : List ℕ) (job : Job) (e : WellFormedJob ws job) where
  facts : JobFacts ws job
  facts = well_formed ws job e

  pub job_width : Width job.width
  job_width = record { least = facts.width_least; most = facts.width_most }

  pub few_sources : job.sources ≤ most_sources
  few_sources = facts.sources_most

  pub sources_length : length (sources_of ws job) ≡ job.sources
  sources_length =
      length-take-le job.sources (drop sources_start ws) (omega (arith, length-drop sources_start ws, facts.size))

  rules_length : length (rules_of ws job) ≤ most_rules
  rules_length = omega (arith, length-drop (rules_start job) ws, facts.size, facts.rules_most)

  -- the book where it is asked for, and nothing where it is not
  pub book-asked : job.book ≡ true → book ≡ book_of job
  book-asked h = rw h refl

  pub no_book : job.book ≡ false → [] ≡ book_of job
  no_book h = rw h refl

  module _ (t : Terms) (rs : List ℕ) (et : t ≡ terms_of ws job) (er : rs ≡ rules_of ws job) where
    counted : length t.sources ≡ job.sources
    counted = ap (λ (x : Terms). length x.sources) et ∙ sources_length

    pub sources_few : length t.sources ≤ most_sources
    sources_few = omega (arith, counted, facts.sources_most)

    pub rules_few : (n : ℕ) → n ≤ most_rules → length rs + n < 2 ^ 32
    rules_few n h = omega (arith, ap length er, rules_length)

    pub kept_choice : (bs : List ℕ) → bs ≡ book_of job
        → (c : Result Chosen ℕ) → KeptChoice c (length t.sources) (choose t (rs ++ bs) [] t.sources)
        → KeptChoice c job.sources (choice_of ws job)
    kept_choice bs eb c k =
        subst (λ (m : ℕ). KeptChoice c m (choice_of ws job)) counted
        (subst (KeptChoice c (length t.sources)) (λ i. choose (et i) (er i ++ eb i) [] (et i).sources) k)

-- ---- the writing

module _ (job : Job) (c : Chosen) (b : WritableChoice job c) where
  pub sources_within : job.sources ≤ length c.words
  sources_within = omega (arith, b.few, b.size)

  pub bound_length : job.sources ≡ length (take job.sources c.words)
  bound_length = sym (length-take-le job.sources c.words sources_within)

  pub writable : (count : ℕ) → count ≤ 612000 → Writable job.width count (take job.sources c.words)
  writable count most =
      record { width_fits = b.width.most; glue_fits = omega arith; few_bound = omega (arith, bound_length, b.few) }

  module _ (count : ℕ) (ec : (count ≡ set_count job.width job.prices c.used) × (count ≤ 612000)) where
    pub count_is : count ≡ glue job.width job.prices (take job.sources c.words)
    count_is =
        ec.0 ∙ ap (set_count job.width job.prices) b.uses
        ∙ price_is_glue job.width job.prices (take job.sources c.words)

-- ---- the answer

module _ (ws : List ℕ) (job : Job) (e : WellFormedJob ws job) (d : Result Chosen ℕ) (k : KeptChoice d job.sources (choice_of ws job)) (lent : List ℕ) where
  choice_is : (x : Result Chosen ℕ) → d ≡ x → kept_as x job.sources ≡ choice_of ws job
  choice_is x u = ap (λ (y : Result Chosen ℕ). kept_as y job.sources) (sym u) ∙ k.same

  module _ (f : ℕ) (u : d ≡ Err f) where
    pub unmapped_answer : Err (refusal Unmappable f) ≡ answer_to (choice_of ws job) lent
    unmapped_answer = ap (λ (x : Result (List ℕ) ℕ). answer_to x lent) (choice_is (Err f) u)

    pub unmapped_lent : lent ≡ lent_to job (choice_of ws job) lent
    unmapped_lent = ap (λ (x : Result (List ℕ) ℕ). lent_to job x lent) (choice_is (Err f) u)

  module _ (c : Chosen) (u : d ≡ Ok c) where
    pub ready : WritableChoice job c
    ready =
        let q : KeptChoice (Ok c) job.sources (choice_of ws job) =
        subst (λ (x : Result Chosen ℕ). KeptChoice x job.sources (choice_of ws job)) u k
        in record { width = job_width ws job e; few = few_sources ws job e; size = q.size; uses = q.uses }

    answered : answer_to (choice_of ws job) lent ≡ answer_to (Ok (take job.sources c.words)) lent
    answered = sym (ap (λ (x : Result (List ℕ) ℕ). answer_to x lent) (choice_is (Ok c) u))

    pub mapped_lent : (after : List ℕ) → after ≡ lent_after (chosen_words job (take job.sources c.words)) lent
        → after ≡ lent_to job (choice_of ws job) lent
    mapped_lent after ea = ea ∙ ap (λ (x : Result (List ℕ) ℕ). lent_to job x lent) (choice_is (Ok c) u)

    pub mapped_answer : (r : Result ℕ Refusal) → r ≡ written_of job.sources lent → r ≡ answer_to (choice_of ws job) lent
    mapped_answer r er = er ∙ ap (λ (x : ℕ). written_of x lent) (bound_length job c ready) ∙ sym answered
