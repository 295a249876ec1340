-- The ways out of the mapper: what it answers, in document 01's numbers, and the lent words afterwards.
use mathlib.Core.Path.{◌≡◌, refl, ap, ◌∙◌}
use mathlib.Core.List.{List, [], ◌∷◌, ◌++◌}
use Prim.Native.Nat.{ℕ, ◌≤◌, ◌<◌}
use native.Mathlib.Decide.{dec_lt}
use native.Mathlib.Omega.{arith}
use lib.ListN.{length, drop}
use borrow.Author.Tests.{lt-ltb, le-ltb}
use Rattle.words.specs.Paper.{Paper, accepted, refused, told}
use Rattle.words.specs.declared.Refusal.{Refusal}
use Rattle.reader.specs.Job.{job_of, WellFormedJob}
use Rattle.reader.specs.declared.Job.{Job}
use Rattle.std.specs.Prelude.{Result, Ok, Err}
use Rattle.pricer.specs.Pricing.{glue_of}
use Rattle.writer.specs.Write.{words_needed, written_of}
use Rattle.writer.proofs.Writing.{mapping_length, written_words, untouched}
use Rattle.mapper.specs.Mapping.{choice_of, chosen_words, answer_of, lent_after_map, paper_of}
use Rattle.demands.proofs.Chosen.{one_each}

-- what comes with an acceptance does not come with a refusal
pub accepted_apart : {Q : Type 0} (n number place : ℕ) → accepted (n ∷ []) ≡ refused number place → Q
accepted_apart n number place e =
    let vs : n ∷ [] ≡ [] = ap (λ (p : Paper). p.values) e in
    let z : ◌≡◌ {A = ℕ} 0 1 = cc in
    absurd (omega arith)

pub data Outcome (ws lent : List ℕ) : Type 0 where
  Unread : (r : Refusal) → job_of ws ≡ Err r → paper_of (answer_of ws lent) ≡ told r
      → lent_after_map ws lent ≡ lent → Outcome ws lent
  Unmapped : (job : Job) (place : ℕ) → WellFormedJob ws job → choice_of ws job ≡ Err place
      → paper_of (answer_of ws lent) ≡ refused 12 place → lent_after_map ws lent ≡ lent → Outcome ws lent
  Short : (job : Job) (bound : List ℕ) → WellFormedJob ws job → choice_of ws job ≡ Ok bound
      → length lent < words_needed job.sources → paper_of (answer_of ws lent) ≡ refused 23 (words_needed job.sources)
      → lent_after_map ws lent ≡ lent → Outcome ws lent
  Writes : (job : Job) (bound : List ℕ) → WellFormedJob ws job → choice_of ws job ≡ Ok bound
      → words_needed job.sources ≤ length lent → paper_of (answer_of ws lent) ≡ accepted (words_needed job.sources ∷ [])
      → lent_after_map ws lent ≡ chosen_words job bound ++ drop (words_needed job.sources) lent → Outcome ws lent

module _ (ws lent : List ℕ) where
  of_refused : (r : Refusal) → job_of ws ≡ Err r → Outcome ws lent
  unfolding answer_of lent_after_map
  of_refused r e = Unread r e (rw e refl) (rw e refl)

  -- where a job is read its choice decides
  module _ (job : Job) (e : WellFormedJob ws job) where
    pub unmappable_answer : (place : ℕ) → choice_of ws job ≡ Err place → paper_of (answer_of ws lent) ≡ refused 12 place
    unfolding answer_of
    unmappable_answer place c = rw e (rw c refl)

    of_unmappable : (place : ℕ) → choice_of ws job ≡ Err place → Outcome ws lent
    unfolding lent_after_map
    of_unmappable place c = Unmapped job place e c (unmappable_answer place c) (rw e (rw c refl))

    module _ (bound : List ℕ) (c : choice_of ws job ≡ Ok bound) where
      one : length bound ≡ job.sources
      one = one_each ws job e bound c

      words_needed_lem : length (chosen_words job bound) ≡ words_needed job.sources
      words_needed_lem = mapping_length job.width (glue_of job bound) bound ∙ ap words_needed one

      of_short : length lent < words_needed job.sources → Outcome ws lent
      unfolding answer_of lent_after_map written_of
      of_short h =
          Short job bound e c h (rw e (rw c (rw one (rw (lt-ltb (length lent) (words_needed job.sources) h) refl))))
          (rw e (rw c (untouched (chosen_words job bound) lent (omega (arith, words_needed_lem)))))

      pub mapped_writes : words_needed job.sources ≤ length lent
          → (paper_of (answer_of ws lent) ≡ accepted (words_needed job.sources ∷ []))
          × (lent_after_map ws lent ≡ chosen_words job bound ++ drop (words_needed job.sources) lent)
      unfolding answer_of lent_after_map written_of
      mapped_writes h = (
        rw e (rw c (rw one (rw (le-ltb (length lent) (words_needed job.sources) h) refl))),
        rw e
            (rw c
            (written_words (chosen_words job bound) lent (omega (arith, words_needed_lem))
            ∙ ap (λ (x : ℕ). chosen_words job bound ++ drop x lent) words_needed_lem)),
      )

      of_mapped : Outcome ws lent
      of_mapped =
          elim (dec_lt (length lent) (words_needed job.sources)) [
            | yes l ↦ of_short l
            | no l ↦
                let h : words_needed job.sources ≤ length lent = omega arith in
                let w = mapped_writes h in
                Writes job bound e c h w.0 w.1
          ]

    of_job : (c : Result (List ℕ) ℕ) → choice_of ws job ≡ c → Outcome ws lent
    of_job (Ok bound) c = of_mapped bound c
    of_job (Err place) c = of_unmappable place c

  of_read : (r : Result Job Refusal) → job_of ws ≡ r → Outcome ws lent
  of_read (Ok job) e = of_job job e (choice_of ws job) refl
  of_read (Err r) e = of_refused r e

  pub outcome : Outcome ws lent
  outcome = of_read (job_of ws) refl
