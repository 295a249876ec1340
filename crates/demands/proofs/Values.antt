-- Demand 2, as theorems of the contracts: "Function values are those of the report's tables as document 01 settles them, at widths 1 to
-- 64. Glue count and choice are document 01's. A function is unmappable only if no usable rule for it is in the job. A bind adds just its
-- own binding. A written mapping reads back to the same bindings and count."
use mathlib.Core.Path.{◌≡◌, refl, sym, ap, subst, ◌∙◌}
use mathlib.Core.Bool.{Bool, true, false, not}
use mathlib.Core.List.{List, [], ◌∷◌}
use Prim.Native.Nat.{ℕ, ◌^◌, ◌≤◌, ◌<◌}
use native.Mathlib.Omega.{arith}
use lib.Dec.{eqb, ltb}
use lib.ListN.{length, take, drop}
use borrow.Author.Tests.{lt-leb, le-ltb}
use Rattle.std.specs.Prelude.{if◌then◌else◌, Option, None, Some, Result, Ok, Err, ⊤}
use Rattle.words.specs.Paper.{Paper, number_of, refusal, accepted, refused, source_place}
use Rattle.bits.specs.Bits.{num}
use Rattle.bits.specs.declared.Ports.{Ports}
use Rattle.alu.specs.Function.{function_of, ports}
use Rattle.alu.specs.Range.{is_function, is_width}
use Rattle.alu.specs.Evaluate.{first_out_of_range, evaluation}
use Rattle.alu.specs.Evaluate as alu
use Rattle.sequence.specs.Limits.{most_sources}
use Rattle.reader.specs.Starts.{bindings_start}
use Rattle.reader.specs.Job.{WellFormedJob}
use Rattle.reader.specs.Mapping.{mapping_of}
use Rattle.reader.specs.Mapping as reader
use Rattle.reader.specs.declared.Job.{Job}
use Rattle.checker.specs.declared.CheckError.{CheckError}
use Rattle.words.specs.declared.Refusal.{Refusal}
use Rattle.reader.specs.declared.Mapping.{Mapping}
use Rattle.wellformed.proofs.Numbers.{job_number}
use Rattle.table.specs.Parts.{sources_of, targets_of, bindings_of, terms_of}
use Rattle.fitting.specs.Pair.{pair_of}
use Rattle.pricer.specs.Pricing.{counted, glue_of, pricing_of}
use Rattle.pricer.specs.Pricing as pricer
use Rattle.writer.specs.Write.{binding_words, words_needed, written_of}
use Rattle.writer.proofs.Writing.{bindings_length}
use Rattle.mapper.specs.Mapping.{rules_for, choice_of, chosen_words, answer_of}
use Rattle.mapper.specs.Mapping as mapper
use Rattle.mapper.proofs.Answering.{sources_length}
use Rattle.checker.specs.Check.{Checks}
use Rattle.soundness.specs.Sound.{glue_on}
use Rattle.bench.specs.Calls.{sound_bench, bindings_on, opened, price_of, unbound_on, mapping_on, finish_written, finish_for, finish_of}
use Rattle.bench.specs.Calls as bench
use Rattle.bench.specs.Shape.{Shaped}
use Rattle.bench.specs.declared.Bench.{Bench}
use Rattle.bench.specs.declared.CallError.TheVariants.{Refused}
use Rattle.bench.specs.declared.After.{After}
use Rattle.bench.proofs.Pricing.{empty_price}
use Rattle.demands.specs.Mapped.{source_at, Fitting, Bound, NamesUnbound}
use Rattle.demands.specs.Choice.{Served, BookHas, ServedAt, LeastAt, LowestUnserved, Maps}
use Rattle.demands.specs.Benches.{BenchOf, Adds, ReadsBack, LowestUnbound}
use Rattle.demands.proofs.Rules.{book-serves}
use Rattle.demands.proofs.Choice.{chosen_served, mapped_chosen}
use Rattle.demands.proofs.Chosen.{least_at, chosen_bindable}
use Rattle.demands.proofs.Sources.{served_at, unmappable_lowest}
use Rattle.demands.proofs.Outcomes.{accepted_apart, Outcome, Unread, Unmapped, Short, Writes, outcome, unmappable_answer}
use Rattle.demands.proofs.Written.{reads_back, same_bindings}
use Rattle.demands.proofs.Accepting.{unbound_whatever_the_bindings}
use Rattle.demands.proofs.Allowed.{Outcome as Bind, Bound as IsBound, Unchanged, outcome as bind}
use Rattle.demands.proofs.OpenedSound.{filled_none, opened_sound}
use Rattle.demands.proofs.Finished.{binding_number}
use Rattle.demands.proofs.Benches.{all_bindable}
use Rattle.demands.proofs.Finishing.{same_words}
use Rattle.demands.proofs.OwnJob.{of_own_job}
use Rattle.demands.proofs.Entries.{adds, lowest_unbound}
use Rattle.words.specs.declared.Fault.TheVariants.{NotSound, TooFewWords}

-- ---- values and counts

-- the four ports, in document 01's order
abbrev shown : Ports → List ℕ
shown p = p.o0 ∷ num p.ocout ∷ num p.ovf ∷ num p.o1 ∷ []

-- what the evaluator shows of a function, a width, operands and a carry in range
pub evaluates : (f n left right carry : ℕ) → is_function f ≡ true → is_width n ≡ true → left < 2 ^ n → right < 2 ^ n → carry ≤ 1
    → alu.paper_of (evaluation f n left right carry) ≡ accepted (shown (ports (function_of f) n left right (eqb carry 1)))
unfolding evaluation first_out_of_range
evaluates f n left right carry ef en hl hr hc =
    rw (ef, en, lt-leb (2 ^ n) left hl, lt-leb (2 ^ n) right hr, le-ltb 1 carry hc) refl

-- the pricer gives the glue count of the bindings of a mapping that fits its job, whatever count the mapping has
pub prices_the_glue : (jw mw : List ℕ) (job : Job) (m : Mapping) → Fitting jw mw job m
    → pricer.paper_of (pricing_of jw mw) ≡ accepted (glue_of job (bindings_of mw m) ∷ [])
unfolding pricing_of pair_of
prices_the_glue jw mw job m q =
    rw q.job_well_formed
    (rw q.mapping_well_formed (ap (λ (x : Result ⊤ Refusal). pricer.paper_of (counted x (glue_of job (bindings_of mw m)))) q.fits))

-- ---- the mapper, over a job's words and lent words

-- a choice was made, so each source has a usable rule
pub chosen_each : (ws : List ℕ) (job : Job) → WellFormedJob ws job → (bound : List ℕ) → choice_of ws job ≡ Ok bound
    → (k : ℕ) → k < job.sources → ServedAt ws job k
chosen_each ws job e bound c k h =
    let size = sources_length ws job e in
    served_at ws job k h
    (chosen_served (terms_of ws job) (rules_for ws job) (sources_of ws job) bound
    (mapped_chosen (terms_of ws job) (rules_for ws job) (sources_of ws job) [] bound c) k (omega arith))

module _ (ws lent : List ℕ) where
  -- "A function is unmappable only if no usable rule for it is in the job": it is the lowest such function,
  pub unmappable_names_the_lowest : (place : ℕ) → mapper.paper_of (answer_of ws lent) ≡ refused 12 place
      → (job : Job) × (WellFormedJob ws job × LowestUnserved ws job place)
  unmappable_names_the_lowest place a = by_outcome (outcome ws lent)
    where
      by_outcome : Outcome ws lent → (job : Job) × (WellFormedJob ws job × LowestUnserved ws job place)
      by_outcome (Unread r e p _) =
          let z : 12 ≡ number_of r.fault = ap (λ (x : Paper). x.number) (sym a ∙ p) in
          absurd (omega (arith, job_number r ws e))
      by_outcome (Unmapped job i e c p _) =
          (job, (e, subst (LowestUnserved ws job) (ap (λ (x : Paper). x.place) (sym p ∙ a)) (unmappable_lowest ws job e i c)))
      by_outcome (Short job bound e c h p _) =
          let z : ◌≡◌ {A = ℕ} 12 23 = ap (λ (x : Paper). x.number) (sym a ∙ p) in absurd (omega arith)
      by_outcome (Writes job bound e c h p _) = accepted_apart (words_needed job.sources) 12 place (sym p ∙ a)

  -- and where there is one the job is refused so.
  pub unmappable_is_refused : (job : Job) → WellFormedJob ws job → (k : ℕ) → k < job.sources → (ServedAt ws job k → ⊥)
      → (place : ℕ) × (mapper.paper_of (answer_of ws lent) ≡ refused 12 place)
  unmappable_is_refused job e k h unserved = by_choice (choice_of ws job) refl
    where
      by_choice : (c : Result (List ℕ) ℕ) → choice_of ws job ≡ c → (place : ℕ) × (mapper.paper_of (answer_of ws lent) ≡ refused 12 place)
      by_choice (Ok bound) c = absurd (unserved (chosen_each ws job e bound c k h))
      by_choice (Err place) c = (place, unmappable_answer ws lent job e place c)

  -- "Header bit 7 of a job .. places the book after the job's own rules; the mapper's choice and refusal 12 then range over both": with it, a
  -- source for which the book has a rule from scratch or from a target of the job is never the one that 12 names, at any width.
  pub book-keeps_from_12 : (job : Job) → WellFormedJob ws job → job.book ≡ true → (k : ℕ) → k < job.sources
      → BookHas (targets_of ws job) (source_at ws k) → mapper.paper_of (answer_of ws lent) ≡ refused 12 (source_place (source_at ws k)) → ⊥
  book-keeps_from_12 job e asked k h b a =
      let named = unmappable_names_the_lowest (source_place (source_at ws k)) a in
      let same : named.0 ≡ job = read_once named.0 named.1.0 in
      let low = subst (λ (x : Job). LowestUnserved ws x (source_place (source_at ws k))) same named.1.1 in
      low.unserved (subst (λ (f : ℕ). Served (terms_of ws job) f (rules_for ws job)) (sym low.is_place) (book-serves ws job e asked k b))
    where
      read_once : (other : Job) → WellFormedJob ws other → other ≡ job
      read_once other u = let z : Ok other ≡ Ok job = sym u ∙ e in cc

  module _ (m : Maps ws lent) where
    -- each chosen rule is a rule of the job, usable, and no usable rule gives less at its turn, none earlier gives as little
    pub each_choice_least : (k : ℕ) → k < length m.bound → LeastAt ws m.job m.bound k
    each_choice_least k h = least_at ws m.job m.well_formed m.bound m.choice k h

    -- "A written mapping reads back to the same bindings and count."
    pub reads_back_the_same : reader.paper_of (mapping_of (chosen_words m.job m.bound))
        ≡ accepted (m.job.width ∷ length (binding_words m.bound) ∷ glue_of m.job m.bound ∷ [])
    reads_back_the_same =
        ap reader.paper_of
        (reads_back ws m.job m.well_formed m.bound (chosen_bindable ws m.job m.well_formed m.bound m.choice))

    pub reads_back_the_same_bindings : take (length (binding_words m.bound)) (drop bindings_start (chosen_words m.job m.bound))
        ≡ binding_words m.bound
    reads_back_the_same_bindings =
        same_bindings ws m.job m.well_formed m.bound (chosen_bindable ws m.job m.well_formed m.bound m.choice)

-- ---- the checker

-- "9. A source without a binding; place: lowest such function."
pub names-the_lowest_unbound : (jw mw : List ℕ) (r : Result ⊤ CheckError) → Checks jw mw r → (job : Job) (m : Mapping) → Fitting jw mw job m
    → (i : ℕ) → i < job.sources → (Bound mw m (source_at jw i) → ⊥) → NamesUnbound jw mw job m r
names-the_lowest_unbound jw mw r answer job m fits i h unbound = unbound_whatever_the_bindings jw mw r answer job m fits i h unbound

-- ---- the bench, whatever it is

module _ (b : Bench) (h : Shaped b) where
  -- "A bind adds just its own binding."
  pub accepted_bind_adds : (w : ℕ) (r : After ⊤) → bench.Binds b w r → bench.paper_of r.answer ≡ accepted [] → Adds b w r.bench
  accepted_bind_adds w r answer taken = by_outcome (bind b w r answer)
    where
      by_outcome : Bind b w r → Adds b w r.bench
      by_outcome (IsBound a e) = subst (λ (x : After ⊤). Adds b w x.bench) (sym e) (adds b h w a)
      by_outcome (Unchanged refused _) = absurd (refused taken)

  -- "22. Finish: source unbound; place: lowest."
  pub unbound_names_the_lowest : (lent : List ℕ) (place : ℕ) → bench.number_paper_of (finish_of b lent).answer ≡ refused 22 place
      → LowestUnbound b place
  unfolding finish_of written_of
  unbound_names_the_lowest lent place e = by_soundness (sound_bench b) refl (unbound_on b) refl e
    where
      other : {Q : Type 0} (n i : ℕ) → (n ≡ 22 → ⊥) → refused n i ≡ refused 22 place → Q
      other n i apart e = absurd (apart (ap (λ (x : Paper). x.number) e))

      written_or_short : (c : Bool)
          → bench.number_paper_of (finish_written (if c then Err (refusal TooFewWords (words_needed b.tables.nsources)) else Ok (words_needed b.tables.nsources)))
          ≡ refused 22 place
          → LowestUnbound b place
      written_or_short true e = other 23 (words_needed b.tables.nsources) (λ z. omega arith) e
      written_or_short false e = accepted_apart (words_needed b.tables.nsources) 22 place e

      by_soundness : (p : Bool) → sound_bench b ≡ p → (q : Option ℕ) → unbound_on b ≡ q
          → bench.number_paper_of (if not p then Err (Refused (refusal NotSound 0)) else finish_for b lent q) ≡ refused 22 place
          → LowestUnbound b place
      by_soundness false s q u e = other 20 0 (λ z. omega arith) e
      by_soundness true s None u e = written_or_short (ltb (length lent) (words_needed b.tables.nsources)) e
      by_soundness true s (Some f) u e =
          subst (LowestUnbound b) (ap (λ (x : Paper). x.place) e) (lowest_unbound b h s f u)

  -- what finish writes reads back to the bench's bindings and count
  pub finish_reads_back : sound_bench b ≡ true → unbound_on b ≡ None → ReadsBack b (mapping_on b)
  unfolding glue_on
  finish_reads_back s u =
      let j = of_own_job b h s in
      back _ j.0 j.1.0 j.1.1
    where
      back : (ws : List ℕ) (job : Job) → WellFormedJob ws job → BenchOf ws job b → ReadsBack b (mapping_on b)
      back ws job e o =
          let bindable = all_bindable ws job e b o u in
          let same = same_words ws job e b o in
          let size : length (binding_words (bindings_on b)) ≡ b.tables.nsources
          = bindings_length (bindings_on b) ∙ binding_number b h s u in
          let opened = o.as_opened in
          record {
            answer =
                ap (λ (l : List ℕ). reader.paper_of (mapping_of l)) same
                ∙ ap reader.paper_of (reads_back ws job e (bindings_on b) bindable)
                ∙ ap (λ (k : ℕ). accepted (job.width ∷ k ∷ glue_of job (bindings_on b) ∷ [])) size
                ∙ ap (λ (x : Bench). accepted (x.tables.width ∷ b.tables.nsources ∷ x.glue ∷ [])) (sym opened);
            bindings =
                ap (λ (l : List ℕ). take b.tables.nsources (drop bindings_start l)) same
                ∙ ap (λ (k : ℕ). take k (drop bindings_start (chosen_words job (bindings_on b)))) (sym size)
                ∙ same_bindings ws job e (bindings_on b) bindable;
          }

-- "The empty bench prices at 0.": a sound bench with nothing bound, and so the bench of an opened job
pub empty_bench-prices_at_zero : (b : Bench) → sound_bench b ≡ true → bindings_on b ≡ [] → bench.number_paper_of (price_of b).answer ≡ accepted (0 ∷ [])
empty_bench-prices_at_zero b s none = ap (λ (x : After ℕ). bench.number_paper_of x.answer) (empty_price b s none)

pub opened_bench_prices_at_zero : (ws : List ℕ) (job : Job) → WellFormedJob ws job
    → bench.number_paper_of (price_of (opened ws job)).answer ≡ accepted (0 ∷ [])
opened_bench_prices_at_zero ws job e = empty_bench-prices_at_zero (opened ws job) (opened_sound ws job e) (filled_none most_sources)
