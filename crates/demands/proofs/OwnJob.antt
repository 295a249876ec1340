-- A sound bench is a bench of the job of its own tables, however it came about.
use mathlib.Core.Path.{◌≡◌, refl, sym, ap, ap₂, ◌∙◌}
use mathlib.Core.Bool.{true, false, not, false≢true}
use mathlib.Core.List.{List, [], ◌∷◌, ◌++◌, append-nil}
use Prim.Native.Nat.{ℕ, suc, ◌-◌, ◌≤◌}
use native.Mathlib.Omega.{arith}
use lib.Dec.{eqb}
use lib.ListN.{length, take, drop, replicate, length-drop, take-append-drop}
use lib.Seq.{length-take-le, take_at, drop_at}
use borrow.Author.Tests.{eqb-true}
use Rattle.words.specs.Kinds.{HEADER, PRICES}
use Rattle.words.proofs.Choices.{either, and_split}
use Rattle.sequence.specs.Limits.{most_sources, most_targets}
use Rattle.reader.specs.Starts.{targets_start}
use Rattle.reader.specs.Job.{job_of, WellFormedJob}
use Rattle.reader.specs.declared.Job.{Job}
use Rattle.std.specs.Prelude.{Result, Ok, Err}
use Rattle.words.specs.declared.Refusal.{Refusal}
use Rattle.wellformed.proofs.Parts.{content_of-laid}
use Rattle.wellformed.proofs.JobWords.{JobFacts, well_formed}
use Rattle.wellformed.proofs.JobAccepting.{laid_prices}
use Rattle.table.specs.Parts.{sources_of, targets_of}
use Rattle.soundness.specs.Sound.{empty, sources_on, targets_on, table_words, holds, glue_on}
use Rattle.soundness.specs.declared.Tables.{Tables}
use Rattle.soundness.proofs.Soundness.{Sound, sound_holds}
use Rattle.opening.specs.Opening.{table_of, tables_in}
use Rattle.bench.specs.Calls.{bench_with, sound_bench}
use Rattle.bench.specs.Shape.{Shaped}
use Rattle.bench.specs.declared.Bench.{Bench}
use Rattle.demands.specs.Benches.{BenchOf}

-- ---- a table with nothing past its words is made of them

empty_zeros : (l : List ℕ) → empty l ≡ true → l ≡ replicate (length l) 0
unfolding empty
empty_zeros [] e = refl
empty_zeros (w ∷ l) e =
    either (λ b. b ≡ true → w ∷ l ≡ replicate (length (w ∷ l)) 0) (not (eqb w 0)) (λ _ u. absurd (false≢true u))
    (λ z u. ap₂ (λ (x : ℕ) (y : List ℕ). x ∷ y) (zero_word (eqb w 0) refl z) (empty_zeros l u)) e
  where
    zero_word : (b : _) → eqb w 0 ≡ b → not b ≡ false → w ≡ 0
    zero_word true e z = eqb-true w 0 e
    zero_word false e z = absurd (false≢true (sym z))

module _ (most n : ℕ) (l : List ℕ) (size : length l ≡ most) (few : n ≤ most) where
  taken : length (take n l) ≡ n
  taken = length-take-le n l (omega arith)

  remade : empty (drop n l) ≡ true → table_of most (take n l) ≡ l
  unfolding table_of
  remade e =
      let rest : length (drop n l) ≡ most - length (take n l) = omega (arith, length-drop n l, taken) in
      ap (λ (k : ℕ). take n l ++ replicate k 0) (sym rest)
      ∙ ap (λ (r : List ℕ). take n l ++ r) (sym (empty_zeros (drop n l) e))
      ∙ take-append-drop n l

-- ---- the job of a bench's own tables

module _ (b : Bench) (h : Shaped b) (s : sound_bench b ≡ true) where
  abbrev t : Tables
  t = b.tables

  abbrev words : List ℕ
  words = table_words t

  sound : Sound t b.bound b.glue
  sound = sound_holds t b.bound b.glue s

  -- the job that its words are read as
  record Own (job : Job) : Type 0 where
    reads : WellFormedJob words job
    sources : job.sources ≡ t.nsources
    targets : job.targets ≡ t.ntargets

  own_job : (r : Result Job Refusal) → job_of words ≡ r → holds t.nsources t.ntargets r ≡ true → (job : Job) × Own job
  own_job (Err r) e held = absurd (false≢true held)
  own_job (Ok job) e held =
      let p = and_split (eqb job.sources t.nsources) (eqb job.targets t.ntargets) held in (
        job,
        record {
          reads = e;
          sources = eqb-true job.sources t.nsources p.0;
          targets = eqb-true job.targets t.ntargets p.1;
        },
      )

  module _ (job : Job) (o : Own job) where
    facts : JobFacts words job
    facts = well_formed words job o.reads

    same_width : job.width ≡ t.width
    same_width =
        let most = sound.tables.width.most in
        omega (arith, facts.header, content_of-laid HEADER t.width (omega (arith, most)), most)

    laid_prices_lem : laid_prices job.prices ≡ laid_prices t.prices
    laid_prices_lem =
        let q = h.tables_shaped in
        sym facts.prices
        ∙ content_of-laid PRICES (laid_prices t.prices) (omega (arith, q.inverter_fits, q.gate_fits, q.multiplexer_fits))

    same_inverter : job.prices.inverter ≡ t.prices.inverter
    same_inverter =
        let q = h.tables_shaped in
        omega (
          arith,
          laid_prices_lem,
          q.inverter_fits,
          q.gate_fits,
          q.multiplexer_fits,
          facts.inverter_most,
          facts.gate_most,
          facts.multiplexer_most,
        )

    same_gate : job.prices.gate ≡ t.prices.gate
    same_gate =
        let q = h.tables_shaped in
        omega (
          arith,
          laid_prices_lem,
          q.inverter_fits,
          q.gate_fits,
          q.multiplexer_fits,
          facts.inverter_most,
          facts.gate_most,
          facts.multiplexer_most,
        )

    same_multiplexer : job.prices.multiplexer ≡ t.prices.multiplexer
    same_multiplexer = omega (arith, laid_prices_lem, same_inverter, same_gate)

    source_size : length (sources_on t) ≡ t.nsources
    source_size = taken most_sources t.nsources t.sources h.tables_shaped.sources_entries sound.tables.few_sources

    target_size : length (targets_on t) ≡ t.ntargets
    target_size = taken most_targets t.ntargets t.targets h.tables_shaped.targets_entries sound.tables.few_targets

    own_sources : sources_of words job ≡ sources_on t
    own_sources =
        ap (λ (n : ℕ). take n (sources_on t ++ targets_on t)) o.sources ∙ take_at (sources_on t) (targets_on t) t.nsources source_size

    after-sources : drop (targets_start job) words ≡ targets_on t
    after-sources =
        let e : targets_start job ≡ suc (suc t.nsources) = omega (arith, o.sources) in
        ap (λ (n : ℕ). drop n words) e ∙ drop_at (sources_on t) (targets_on t) t.nsources source_size

    own_targets : targets_of words job ≡ targets_on t
    own_targets =
        ap₂ (λ (n : ℕ) (l : List ℕ). take n l) o.targets after-sources ∙ whole
      where
        whole : take t.ntargets (targets_on t) ≡ targets_on t
        whole = ap (take t.ntargets) (sym (append-nil (targets_on t))) ∙ take_at (targets_on t) [] t.ntargets target_size

    own_tables : tables_in words job ≡ t
    own_tables = λ i.
        record {
          width = same_width i;
          prices = record { inverter = same_inverter i; gate = same_gate i; multiplexer = same_multiplexer i };
          sources = source_table i;
          nsources = o.sources i;
          targets = target_table i;
          ntargets = o.targets i;
        }
      where
        source_table : table_of most_sources (sources_of words job) ≡ t.sources
        source_table =
            ap (table_of most_sources) own_sources
            ∙ remade most_sources t.nsources t.sources h.tables_shaped.sources_entries sound.tables.few_sources
            sound.past_sources

        target_table : table_of most_targets (targets_of words job) ≡ t.targets
        target_table =
            ap (table_of most_targets) own_targets
            ∙ remade most_targets t.ntargets t.targets h.tables_shaped.targets_entries sound.tables.few_targets
            sound.past_targets

    own_count : b.glue ≡ glue_on (tables_in words job) b.bound
    own_count = sound.count ∙ ap (λ (x : Tables). glue_on x b.bound) (sym own_tables)

    own_bench : BenchOf words job b
    own_bench =
        record {
          as_opened = λ i. bench_with (sym own_tables i) b.bound (own_count i);
          entries = h.bound_entries;
          sound = s;
        }

  pub of_own_job : (job : Job) × (WellFormedJob words job × BenchOf words job b)
  of_own_job =
      let j = own_job (job_of words) refl sound.tables.held in
      (j.0, (j.1.reads, own_bench j.0 j.1))
