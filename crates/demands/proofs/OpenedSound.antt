-- The bench of zeros is not sound, and the bench of an opened job is.
use mathlib.Core.Path.{◌≡◌, refl, sym, ap, ap₂, subst, ◌∙◌}
use mathlib.Core.Bool.{true, false}
use mathlib.Core.List.{List, [], ◌∷◌}
use Prim.Native.Nat.{ℕ, zero, suc, ◌+◌, ◌-◌, ◌<◌}
use native.Mathlib.Omega.{arith}
use lib.ListN.{length, take, drop, get_or, replicate, length-drop}
use lib.Seq.{length-take-le, take_at, drop_at, get_or-take, get_or-drop}
use borrow.Author.Tests.{eq-eqb}
use Rattle.words.specs.Field.{content_of, target_function}
use Rattle.words.proofs.Choices.{and_join}
use Rattle.alu.specs.Range.{is_width}
use Rattle.sequence.specs.Limits.{most_sources, most_targets}
use Rattle.reader.specs.Starts.{sources_start, targets_start}
use Rattle.reader.specs.Job.{job_of, WellFormedJob}
use Rattle.reader.specs.declared.Job.{Job}
use Rattle.std.specs.Prelude.{Result, Ok, Err}
use Rattle.words.specs.declared.Refusal.{Refusal}
use Rattle.wellformed.proofs.Parts.{SourceWord, TargetWord}
use Rattle.wellformed.proofs.JobWords.{JobFacts, well_formed}
use Rattle.wellformed.proofs.JobAccepting.{laid, laid_well_formed, accepts}
use Rattle.table.specs.Parts.{sources_of, targets_of}
use Rattle.mapper.proofs.Answering.{sources_length}
use Rattle.soundness.specs.Sound.{sources_on, targets_on, table_words, holds, tables_sound, empty, filled, entry_sound, bound_sound, glue_on, is_sound}
use Rattle.soundness.specs.declared.Tables.{Tables}
use Rattle.soundness.proofs.Soundness.{sound_when}
use Rattle.glue.specs.Glue.{glue}
use Rattle.glue.proofs.Bounds.{glue_none}
use Rattle.opening.specs.Opening.{table_of, tables_in}
use Rattle.bench.specs.Calls.{sound_bench, opened, bench_of_zeros, open_of, open_for}

pub zeros-not_sound : sound_bench bench_of_zeros ≡ false
unfolding is_sound tables_sound is_width
zeros-not_sound = refl

-- ---- an opened bench is sound

zeros-empty : (n : ℕ) → empty (replicate n 0) ≡ true
unfolding empty
zeros-empty zero = refl
zeros-empty (suc n) = zeros-empty n

-- nothing is bound
zeros-bound : (width : ℕ) (all ts ss : List ℕ) (n : ℕ) → bound_sound width all ts ss (replicate n 0) ≡ true
unfolding bound_sound entry_sound
zeros-bound width all ts [] n = zeros-empty n
zeros-bound width all ts (s ∷ ss) zero = refl
zeros-bound width all ts (s ∷ ss) (suc n) = zeros-bound width all ts ss n

pub filled_none : (n : ℕ) → filled (replicate n 0) ≡ []
unfolding filled
filled_none zero = refl
filled_none (suc n) = filled_none n

pub zeros-count : (t : Tables) (n : ℕ) → glue_on t (replicate n 0) ≡ 0
unfolding glue_on
zeros-count t n = ap (glue t.width t.prices) (filled_none n) ∙ glue_none t.width t.prices

pub table_words_lem : (most : ℕ) (ws : List ℕ) (n : ℕ) → length ws ≡ n → take n (table_of most ws) ≡ ws
unfolding table_of
table_words_lem most ws n e = take_at ws (replicate (most - length ws) 0) n e

table_rest : (most : ℕ) (ws : List ℕ) (n : ℕ) → length ws ≡ n → empty (drop n (table_of most ws)) ≡ true
unfolding table_of
table_rest most ws n e = ap empty (drop_at ws (replicate (most - length ws) 0) n e) ∙ zeros-empty (most - length ws)

module _ (ws : List ℕ) (job : Job) (e : WellFormedJob ws job) where
  well : JobFacts ws job
  well = well_formed ws job e

  pub target_count : length (targets_of ws job) ≡ job.targets
  target_count =
      length-take-le job.targets (drop (targets_start job) ws) (omega (arith, length-drop (targets_start job) ws, well.size))

  source_word : (m : ℕ) → m < length (sources_of ws job) → get_or ws (sources_start + m) 0 ≡ get_or (sources_of ws job) m 0
  source_word m h =
      sym (get_or-take job.sources (drop sources_start ws) m 0 (omega (arith, sources_length ws job e)) ∙ get_or-drop sources_start ws m 0)

  target_word : (m : ℕ) → m < length (targets_of ws job) → get_or ws (targets_start job + m) 0 ≡ get_or (targets_of ws job) m 0
  target_word m h =
      sym (get_or-take job.targets (drop (targets_start job) ws) m 0 (omega (arith, target_count)) ∙ get_or-drop (targets_start job) ws m 0)

  words_of : table_words (tables_in ws job) ≡ laid job.width job.prices (sources_of ws job) (targets_of ws job)
  words_of =
      ap₂ (λ (x y : List ℕ). laid job.width job.prices x y)
      (table_words_lem most_sources (sources_of ws job) job.sources (sources_length ws job e))
      (table_words_lem most_targets (targets_of ws job) job.targets target_count)

  -- the words of its tables are those of the job, so they are accepted
  opened_job : JobFacts (table_words (tables_in ws job)) (record {
    width = job.width;
    prices = job.prices;
    sources = length (sources_of ws job);
    targets = length (targets_of ws job);
    rules = 0;
    book = false;
  })
  opened_job =
      rw words_of
      (laid_well_formed job.width job.prices (sources_of ws job) (targets_of ws job)
      well.width_least well.width_most well.inverter_most well.gate_most well.multiplexer_most
      (omega (arith, sources_length ws job e, well.sources_least)) (omega (arith, sources_length ws job e, well.sources_most))
      (omega (arith, target_count, well.targets_most))
      (λ m h. subst SourceWord (source_word m h) (well.source_words m (omega (arith, sources_length ws job e))))
      (λ m h. omega (
        arith,
        well.sources_rise m (omega (arith, sources_length ws job e)),
        ap content_of (source_word m (omega arith)),
        ap content_of (source_word (m + 1) h),
      ))
      (λ m h. subst TargetWord (target_word m h) (well.target_words m (omega (arith, target_count))))
      (λ m h. omega (
        arith,
        well.targets_rise m (omega (arith, target_count)),
        ap target_function (target_word m (omega arith)),
        ap target_function (target_word (m + 1) h),
      )))

  pub opened_sound : sound_bench (opened ws job) ≡ true
  opened_sound =
      let t = tables_in ws job in
      sound_when t (replicate most_sources 0) 0
      (record {
        tables = record {
          width = record { least = well.width_least; most = well.width_most };
          few_sources = well.sources_most;
          few_targets = well.targets_most;
          held =
              ap (holds job.sources job.targets) (accepts (table_words t) _ opened_job)
              ∙ and_join (eq-eqb (length (sources_of ws job)) job.sources (sources_length ws job e))
              (eq-eqb (length (targets_of ws job)) job.targets target_count);
        };
        past_sources = table_rest most_sources (sources_of ws job) job.sources (sources_length ws job e);
        past_targets = table_rest most_targets (targets_of ws job) job.targets target_count;
        entries = zeros-bound job.width (sources_on t) (targets_on t) (sources_on t) most_sources;
        count = sym (zeros-count t most_sources);
      })

-- said of the call
pub open_sound : (ws : List ℕ) → (open_of ws).answer ≡ (Ok tt) → sound_bench (open_of ws).bench ≡ true
unfolding open_of
open_sound ws = go (job_of ws) refl
  where
    go : (r : Result Job Refusal) → job_of ws ≡ r → (open_for ws r).answer ≡ (Ok tt) → sound_bench (open_for ws r).bench ≡ true
    go (Ok job) e d = opened_sound ws job e
    go (Err r) e d = let z : ◌≡◌ {A = ℕ} 0 1 = cc in absurd (omega arith)
