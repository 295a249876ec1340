-- Words that hold what an accepted job's words hold are accepted, with these facts; and so are words laid as a job without rules.
use mathlib.Core.Path.{◌≡◌, refl, sym, ap, subst, ◌∙◌}
use mathlib.Core.Bool.{false}
use mathlib.Core.List.{List, [], ◌∷◌, ◌++◌}
use Prim.Native.Nat.{ℕ, suc, ◌+◌, ◌*◌, ◌<◌, ◌≤◌, ◌^◌}
use native.Mathlib.Nat.{add-zero}
use native.Mathlib.Omega.{arith}
use lib.ListN.{length, drop, get_or, drop_of_length-le, length-append, get_or-append}
use lib.Seq.{get_or-append-add}
use borrow.Author.Tests.{le-ltb}
use Rattle.words.specs.Field.{field, content_of, target_function}
use Rattle.words.specs.Kinds.{HEADER, PRICES}
use Rattle.words.specs.declared.kind.WordKind.TheVariants.{Source, Target}
use Rattle.sequence.specs.Limits.{most_sources, most_targets}
use Rattle.reader.specs.Starts.{rules_start}
use Rattle.grammar.specs.Reading.{beginning, after, reading}
use Rattle.reader.specs.Words.{words_read}
use Rattle.reader.specs.Job.{job_facts, job_of, WellFormedJob}
use Rattle.sequence.specs.declared.File.TheVariants.{AsJob}
use Rattle.sequence.specs.declared.State.{State}
use Rattle.std.specs.Prelude.{Ok}
use Rattle.reader.specs.declared.Job.{Job}
use Rattle.words.specs.declared.Prices.{Prices}
use Rattle.grammar.proofs.Steps.{first_of_kind}
use Rattle.wellformed.proofs.Parts.{SourceWord, TargetWord, kind_of-laid, content_of-laid}
use Rattle.wellformed.proofs.Headers.{the_width, the_book, fits_a_job}
use Rattle.wellformed.proofs.JobWords.{JobFacts}
use Rattle.reader.proofs.Limits.{some_words}
use Rattle.wellformed.proofs.MappingAccepting.{passes}
use Rattle.wellformed.proofs.JobParts.{Reaches, InSources, InTargets, InRules, free_header, free_prices, through_sources, through_targets, through_rules}

said : (ws : List ℕ) (s : State) → words_read AsJob ws ≡ Ok s → 1 ≤ s.sources → job_of ws ≡ Ok (job_facts (get_or ws 0 0) (get_or ws 1 0) s)
unfolding job_of
said ws s e h = rw (e, le-ltb s.sources 1 h) refl

module _ (ws : List ℕ) (job : Job) (q : JobFacts ws job) where
  -- after the header and the prices
  at_tables : Reaches ws (InSources ws 0) beginning 0 2
  at_tables =
      let h = get_or ws 0 0 in
      let p = get_or ws 1 0 in
      let k = q.prices_kind in
      let a = passes AsJob ws beginning 0 (omega (arith, q.size)) (free_header beginning h refl q.header_kind (fits_a_job h job.width job.book q.header q.width_least q.width_most)) in
      let b = passes AsJob ws (after beginning h) 1 (omega (arith, q.size)) (free_prices (after beginning h) p (rw q.header_kind refl) k (omega arith)) in
      record {
        end = after (after beginning h) p;
        read = a ∙ b;
        holds = record {
          least = rw k (omega arith);
          most = rw k (omega arith);
          begun = λ z. absurd (omega arith);
          sources = rw (k, q.header_kind) refl;
          targets = rw (k, q.header_kind) refl;
          rules = rw (k, q.header_kind) refl;
          order = λ v kv _. sym (first_of_kind (after (after beginning h) p) v Source kv (rw k (λ e. omega arith)));
        };
      }

  -- a part that is passed is followed by the next
  to_targets : (s : State) → InSources ws job.sources s → InTargets ws job.sources 0 s
  to_targets s r =
      record {
        least = r.begun q.sources_least;
        most = omega (arith, r.most);
        sources = r.sources;
        targets = r.targets;
        rules = r.rules;
        order = λ v kv _. sym (first_of_kind s v Target kv (λ e. omega (arith, r.most)));
      }

  to_rules : (s : State) → InTargets ws job.sources job.targets s → InRules job.sources job.targets 0 s
  to_rules s r = record { least = r.least; most = omega (arith, r.most); sources = r.sources; targets = r.targets; rules = r.rules }

  pub accepts : WellFormedJob ws job
  accepts =
      let a = at_tables in
      let b = through_sources ws job q a.end a.holds in
      let c = through_targets ws job q b.end (to_targets b.end b.holds) in
      let d = through_rules ws job q c.end (to_rules c.end c.holds) in
      let z : drop (rules_start job + job.rules) ws ≡ [] = drop_of_length-le ws {i = rules_start job + job.rules} (omega (arith, q.size)) in
      let read = a.read ∙ b.read ∙ c.read ∙ d.read ∙ ap (reading AsJob d.end (rules_start job + job.rules)) z in
      let words = some_words AsJob ws (omega (arith, q.size)) (omega (arith, q.size)) ∙ read in
      let width = the_width (get_or ws 0 0) job.width job.book q.header q.width_least q.width_most in
      let book = the_book (get_or ws 0 0) job.width job.book q.header q.width_least q.width_most in
      let inverter : field (get_or ws 1 0) 16 8 ≡ job.prices.inverter = omega (arith, q.prices) in
      let gate : field (get_or ws 1 0) 8 8 ≡ job.prices.gate = omega (arith, q.prices) in
      let multiplexer : field (get_or ws 1 0) 0 8 ≡ job.prices.multiplexer = omega (arith, q.prices) in
      said ws d.end words (omega (arith, d.holds.sources, q.sources_least))
      ∙ ap Ok (λ x. record {
        width = width x;
        prices = record { inverter = inverter x; gate = gate x; multiplexer = multiplexer x };
        sources = d.holds.sources x;
        targets = d.holds.targets x;
        rules = d.holds.rules x;
        book = book x;
      })

-- ---- words laid one after another: a header, prices, sources and targets

-- what a word of prices holds below its kind
abbrev pub laid_prices : Prices → ℕ
laid_prices p = p.inverter * 2 ^ 16 + p.gate * 2 ^ 8 + p.multiplexer

module _ (width : ℕ) (p : Prices) (ss ts : List ℕ) where
  abbrev pub laid : List ℕ
  laid = (HEADER * 2 ^ 28 + width) ∷ (PRICES * 2 ^ 28 + laid_prices p) ∷ (ss ++ ts)

  laid_source : (m : ℕ) → m < length ss → get_or laid (2 + m) 0 ≡ get_or ss m 0
  laid_source m h =
      let e : 2 + m ≡ suc (suc m) = omega arith in
      ap (λ (x : ℕ). get_or laid x 0) e ∙ get_or-append ss ts 0 m h

  laid_target : (m : ℕ) → get_or laid (2 + length ss + m) 0 ≡ get_or ts m 0
  laid_target m =
      let e : 2 + length ss + m ≡ suc (suc (length ss + m)) = omega arith in
      ap (λ (x : ℕ). get_or laid x 0) e ∙ get_or-append-add ss ts m 0

  pub laid_well_formed : 1 ≤ width → width ≤ 64 → p.inverter ≤ 255 → p.gate ≤ 255 → p.multiplexer ≤ 255
      → 1 ≤ length ss → length ss ≤ most_sources → length ts ≤ most_targets
      → ((m : ℕ) → m < length ss → SourceWord (get_or ss m 0))
      → ((m : ℕ) → m + 1 < length ss → content_of (get_or ss m 0) < content_of (get_or ss (m + 1) 0))
      → ((m : ℕ) → m < length ts → TargetWord (get_or ts m 0))
      → ((m : ℕ) → m + 1 < length ts → target_function (get_or ts m 0) < target_function (get_or ts (m + 1) 0))
      → JobFacts laid (record { width = width; prices = p; sources = length ss; targets = length ts; rules = 0; book = false })
  laid_well_formed least most a b c some few_sources few_targets sources sources_rise targets targets_rise =
      record {
        size = omega (arith, length-append ss ts);
        width_least = least;
        width_most = most;
        inverter_most = a;
        gate_most = b;
        multiplexer_most = c;
        sources_least = some;
        sources_most = few_sources;
        targets_most = few_targets;
        rules_most = omega arith;
        header_kind = kind_of-laid HEADER width (omega arith) (omega arith);
        header = content_of-laid HEADER width (omega arith) ∙ sym (add-zero width);
        prices_kind = kind_of-laid PRICES (laid_prices p) (omega arith) (omega arith);
        prices = content_of-laid PRICES (laid_prices p) (omega arith);
        source_words = λ m h. subst SourceWord (sym (laid_source m h)) (sources m h);
        sources_rise =
            λ m h.
            omega (arith, sources_rise m h, ap content_of (laid_source m (omega arith)), ap content_of (laid_source (m + 1) h));
        target_words = λ m h. subst TargetWord (sym (laid_target m)) (targets m h);
        targets_rise =
            λ m h.
            omega (arith, targets_rise m h, ap target_function (laid_target m), ap target_function (laid_target (m + 1)));
        rule_words = λ m h. absurd (omega arith);
      }
