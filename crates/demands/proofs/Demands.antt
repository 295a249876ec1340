-- Demand 3, as theorems of the contracts; demand 1 is Refusals.antt, demand 2 Values.antt. A contract says of a call's answer which
-- definition it equals; here stands what that amounts to. Answers are told in document 01's numbers, by each call's `paper_of`.
use mathlib.Core.Path.{◌≡◌, refl, sym, ap, subst, ◌∙◌}
use mathlib.Core.Logic.{◌↔◌}
use mathlib.Core.Bool.{true}
use mathlib.Core.List.{List, [], ◌∷◌, ◌++◌, Permᴰ}
use Prim.Native.Nat.{ℕ, ◌≤◌, ◌<◌}
use native.Mathlib.Omega.{arith}
use lib.ListN.{length, drop, get_or}
use Rattle.words.specs.Paper.{Paper, number_of, accepted}
use Rattle.binding.specs.Right.{Right}
use Rattle.binding.specs.declared.Claim.{Claim}
use Rattle.verdict.specs.Verdicts.{Says, verdict_paper, Ruling, Judged, judgement_paper}
use Rattle.verdict.specs.declared.Verdict.{Verdict}
use Rattle.verdict.specs.declared.Verdict.TheVariants.{Right as IsRight, Wrong}
use Rattle.std.specs.Prelude.{None, Result, ⊤, Ok}
use Rattle.checker.specs.declared.CheckError.{CheckError}
use Rattle.words.specs.declared.Refusal.{Refusal}
use Rattle.verdict.proofs.Verdicting.{not_right}
use Rattle.sequence.specs.Limits.{most_sources}
use Rattle.reader.specs.Job.{WellFormedJob}
use Rattle.reader.specs.declared.Job.{Job}
use Rattle.reader.specs.declared.Mapping.{Mapping}
use Rattle.table.specs.Parts.{sources_of, terms_of}
use Rattle.pricer.specs.Pricing.{glue_of}
use Rattle.writer.specs.Write.{words_needed}
use Rattle.mapper.specs.Mapping.{rules_for, choice_of, chosen_words, answer_of, lent_after_map}
use Rattle.mapper.specs.Mapping as mapper
use Rattle.mapper.proofs.Answering.{sources_length}
use Rattle.checker.specs.Check.{Checks}
use Rattle.checker.specs.Check as checker
use Rattle.soundness.specs.Sound.{table_words}
use Rattle.opening.specs.Opening.{table_of}
use Rattle.bench.specs.Calls.{sound_bench, holding, opened, open_of, unbound_on, mapping_on, finish_of}
use Rattle.bench.specs.Calls as bench
use Rattle.bench.specs.Shape.{Shaped}
use Rattle.bench.specs.declared.Bench.{Bench}
use Rattle.bench.specs.declared.After.{After}
use Rattle.demands.specs.Mapped.{RightRecipe, Fitting, Complete, RightAt, RightlyMapped, NamesWrong}
use Rattle.demands.specs.Choice.{Mappable, Maps}
use Rattle.demands.specs.Benches.{Reached, BenchOf, BindsAll, Finishes}
use Rattle.demands.proofs.Choice.{all_served}
use Rattle.demands.proofs.Written.{Bindable}
use Rattle.demands.proofs.Chosen.{chosen_bindable}
use Rattle.demands.proofs.Accepted.{rightly_mapped}
use Rattle.demands.proofs.Sources.{at_served}
use Rattle.demands.proofs.Outcomes.{accepted_apart, Outcome, Unread, Unmapped, Short, Writes, outcome, mapped_writes}
use Rattle.demands.proofs.Accepting.{accepted_exactly, wrong_whatever_the_price}
use Rattle.demands.proofs.Allowed.{Allowed, allowed_gives}
use Rattle.demands.proofs.Finished.{finishes}
use Rattle.demands.proofs.Benches.{opens, reached_of_job}
use Rattle.demands.proofs.AnyOrder.{choice_allowed, order_binds, order_ends, order_of_job}
use Rattle.demands.proofs.Finishing.{bench_shaped, bound_rightly_mapped, same_count, same_answer, same_lent}
use Rattle.demands.proofs.OwnJob.{of_own_job}
use Rattle.demands.proofs.Values.{chosen_each}
use Rattle.demands.proofs.Judging.{judged_right, right_judged}

-- ---- the verdict: "A binding, or the recipe of a rule, is right if at the job's width, for every left, every right and both carries,
-- its four ports equal those of its source function at the same left, right and carry; else it is wrong."
pub accepts_exactly_the_right : (c : Claim) (n : ℕ) (v : Verdict) → Says c n v → (verdict_paper v ≡ accepted []) ↔ Right c n
accepts_exactly_the_right c n IsRight says = (λ _. says, λ _. refl)
accepts_exactly_the_right c n (Wrong x) says = (
  λ e. let z : ◌≡◌ {A = ℕ} 10 0 = ap (λ (x : Paper). x.number) e in absurd (omega arith),
  λ h. absurd (not_right c n x says h),
)

-- `judge` accepts exactly the right recipes, whatever word, width and mark are handed in
pub judge_accepts-exactly_the_right : (w n mark : ℕ) (j : Result Verdict Refusal) → Judged w n mark j
    → (judgement_paper j ≡ accepted []) ↔ RightRecipe w n mark
judge_accepts-exactly_the_right w n mark j answer = (judged_right w n mark j answer, right_judged w n mark j answer)

-- ---- the checker: "A mapping is accepted exactly when job and mapping are well formed, it fits, is complete and rightly priced, and
-- every binding equals its source function on every port, for all operands and both carries, at the job's width."
pub accepts_exactly_the_rightly_mapped : (jw mw : List ℕ) (r : Result ⊤ CheckError) → Checks jw mw r
    → (checker.paper_of r ≡ accepted []) ↔ RightlyMapped jw mw
accepts_exactly_the_rightly_mapped jw mw r answer = accepted_exactly jw mw r answer

-- "If well formed, fitting and complete but some binding differs somewhere, it is refused whatever its price, naming the lowest such
-- function, operands and carry where it differs, and the lowest port differing there."
pub names-the_lowest_wrong : (jw mw : List ℕ) (r : Result ⊤ CheckError) → Checks jw mw r → (job : Job) (m : Mapping) → Fitting jw mw job m
    → Complete jw mw job m → (k : ℕ) → k < m.bindings → (RightAt (terms_of jw job) mw k → ⊥) → NamesWrong (terms_of jw job) mw m r
names-the_lowest_wrong jw mw r answer job m fits complete k h wrong =
    wrong_whatever_the_price jw mw r answer job m fits complete k h wrong

-- ---- the mapper, over a job's words and lent words

module _ (ws lent : List ℕ) where
  -- "For every job the mapper writes a mapping exactly when the job is well formed, each source has a usable rule and the lent words
  -- suffice; its bindings are document 01's choice": where they do,
  pub maps_what_can_be_mapped : (m : Mappable ws) → words_needed m.job.sources ≤ length lent → Maps ws lent
  maps_what_can_be_mapped m h =
      let job = m.job in
      let e = m.well_formed in
      let n = sources_length ws job e in
      let c =
      all_served (terms_of ws job) (rules_for ws job) (sources_of ws job) []
      (λ k l. at_served ws job k (omega arith) (m.each_served k (omega arith))) in
      let w = mapped_writes ws lent job e c.0 c.1 h in
      record { job = job; well_formed = e; bound = c.0; choice = c.1; enough = h; answer = w.0; lent_after = w.1 }

  -- and where it writes one, they do.
  pub writes_only_what_can_be_mapped : (n : ℕ) → mapper.paper_of (answer_of ws lent) ≡ accepted (n ∷ [])
      → (m : Mappable ws) × (words_needed m.job.sources ≤ length lent)
  writes_only_what_can_be_mapped n a = by_outcome (outcome ws lent)
    where
      by_outcome : Outcome ws lent → (m : Mappable ws) × (words_needed m.job.sources ≤ length lent)
      by_outcome (Unread r e p _) = accepted_apart n (number_of r.fault) r.place (sym a ∙ p)
      by_outcome (Unmapped job place e c p _) = accepted_apart n 12 place (sym a ∙ p)
      by_outcome (Short job bound e c h p _) = accepted_apart n 23 (words_needed job.sources) (sym a ∙ p)
      by_outcome (Writes job bound e c h _ _) =
          (record { job = job; well_formed = e; each_served = chosen_each ws job e bound c }, h)

  module _ (m : Maps ws lent) where
    usable-rules : Bindable ws m.job m.bound
    usable-rules = chosen_bindable ws m.job m.well_formed m.bound m.choice

    -- "the checker accepts it"
    pub accepted_by_the_checker : (r : Result ⊤ CheckError) → Checks ws (chosen_words m.job m.bound) r → checker.paper_of r ≡ accepted []
    accepted_by_the_checker r answer =
        (accepted_exactly ws (chosen_words m.job m.bound) r answer).1
        (rightly_mapped ws m.job m.well_formed m.bound usable-rules)

-- ---- the bench

module _ (ws : List ℕ) (job : Job) (e : WellFormedJob ws job) where
  -- "A sound bench has ..": every bench that calls come to from opening the job on is sound, with the job's tables
  pub every-bench_is_sound : (b : Bench) → Reached ws b → BenchOf ws job b
  every-bench_is_sound b q = reached_of_job ws job e b q

  -- a sound bench with every source bound finishes, and what it writes is accepted with the job it was opened from
  pub sound_bench-finishes : (b : Bench) → BenchOf ws job b → unbound_on b ≡ None → (lent : List ℕ) → words_needed job.sources ≤ length lent
      → Finishes ws job b lent
  sound_bench-finishes b o u lent h =
      let n : b.tables.nsources ≡ job.sources = ap (λ (x : Bench). x.tables.nsources) o.as_opened in
      let f = finishes b (bench_shaped ws job e b o) o.sound u lent (omega arith) in
      record {
        answer =
            ap (λ (x : After ℕ). bench.number_paper_of x.answer) f.answer ∙ ap (λ (x : ℕ). accepted (words_needed x ∷ [])) n;
        bench_after = ap (λ (x : After ℕ). x.bench) f.answer;
        lent_after = f.words ∙ ap (λ (x : ℕ). mapping_on b ++ drop (words_needed x) lent) n;
        accepted_with_job = λ r answer. (accepted_exactly ws (mapping_on b) r answer).1 (bound_rightly_mapped ws job e b o u);
      }

  -- binding the mapper's choice in any order and finishing writes what the mapper writes:
  module _ (bound : List ℕ) (choice : choice_of ws job ≡ Ok bound) where
    -- a chosen rule can be bound as long as its source is not,
    pub choice_can_be_bound : (b : Bench) → BenchOf ws job b → (k : ℕ) → k < length bound → get_or b.bound k 0 ≡ 0
        → (r : After ⊤) → bench.Binds b (get_or bound k 0) r → bench.paper_of r.answer ≡ accepted []
    choice_can_be_bound b o k h free r answer =
        let same = o.as_opened in
        let a : Allowed b (get_or bound k 0) =
        subst (λ (x : Bench). Allowed x (get_or bound k 0)) (sym same)
        (choice_allowed ws job e bound choice b.bound (ap sound_bench (sym same) ∙ o.sound) k h free) in
        ap (λ (x : After ⊤). bench.paper_of x.answer)
        (subst (λ (x : Ruling (After ⊤)). bench.BindRuled b x r) (allowed_gives b (get_or bound k 0) a) answer)

    module _ (order : List ℕ) (p : Permᴰ bound order) where
      -- so every order can be carried out,
      pub every-order_binds : (end : Bench) × BindsAll (open_of ws).bench order end
      every-order_binds = (
        holding (opened ws job) (table_of most_sources bound),
        subst (λ (x : Bench). BindsAll x order (holding (opened ws job) (table_of most_sources bound))) (sym (opens ws job e))
            (order_binds ws job e bound choice order p),
      )

      -- and whatever it comes to holds the choice, stores the mapper's count, and answers and writes as the mapper does.
      module _ (end : Bench) (q : BindsAll (open_of ws).bench order end) where
        the_end : end ≡ holding (opened ws job) (table_of most_sources bound)
        the_end =
            order_ends ws job e bound choice order p end (subst (λ (x : Bench). BindsAll x order end) (opens ws job e) q)

        pub every-order_holds_the_choice : end.bound ≡ table_of most_sources bound
        every-order_holds_the_choice = ap (λ (x : Bench). x.bound) the_end

        pub every-order_ends_with_the_count : end.glue ≡ glue_of job bound
        every-order_ends_with_the_count =
            ap (λ (x : Bench). x.glue) the_end ∙ same_count ws job e bound choice (order_of_job ws job e bound choice order p)

        pub every-order_answers_the_same : (lent : List ℕ)
            → bench.number_paper_of (finish_of end lent).answer ≡ mapper.paper_of (answer_of ws lent)
        every-order_answers_the_same lent =
            ap (λ (x : Bench). bench.number_paper_of (finish_of x lent).answer) the_end
            ∙ same_answer ws job e bound choice (order_of_job ws job e bound choice order p) lent

        pub every-order_writes_the_same : (lent : List ℕ) → bench.lent_after_finish end lent ≡ lent_after_map ws lent
        every-order_writes_the_same lent =
            ap (λ (x : Bench). bench.lent_after_finish x lent) the_end
            ∙ same_lent ws job e bound choice (order_of_job ws job e bound choice order p) lent

-- a sound bench with every source bound finishes, however it came about, and what it writes is accepted with the job of its own tables
pub every-sound_bench_finishes : (b : Bench) → Shaped b → sound_bench b ≡ true → unbound_on b ≡ None → (lent : List ℕ)
    → words_needed b.tables.nsources ≤ length lent
    → (job : Job) × (WellFormedJob (table_words b.tables) job × Finishes (table_words b.tables) job b lent)
every-sound_bench_finishes b h s u lent enough =
    let j = of_own_job b h s in
    let n = ap (λ (x : Bench). x.tables.nsources) j.1.1.as_opened in
    (j.0, (j.1.0, sound_bench-finishes (table_words b.tables) j.0 j.1.0 b j.1.1 u lent (omega (arith, n))))
