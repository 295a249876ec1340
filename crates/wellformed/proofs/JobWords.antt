-- The words of a job that is accepted: one record of what they hold, by one induction over them.
use mathlib.Core.Path.{◌≡◌, refl, subst}
use mathlib.Core.List.{List}
use Prim.Native.Nat.{ℕ, ◌+◌, ◌-◌, ◌*◌, ◌<◌, ◌≤◌, ◌^◌, min}
use native.Mathlib.Omega.{arith}
use lib.Dec.{ltb}
use lib.ListN.{length, get_or}
use borrow.Author.Tests.{ltb-false}
use Rattle.words.specs.Field.{field, kind_of, content_of, target_function}
use Rattle.words.proofs.Fields.{field_lt}
use Rattle.words.proofs.Choices.{either}
use Rattle.words.specs.Kinds.{HEADER, PRICES, SOURCE, TARGET, RULE}
use Rattle.words.specs.declared.kind.WordKind.TheVariants.{Source, Target}
use Rattle.words.specs.declared.Refusal.{Refusal}
use Rattle.bits.specs.Bits.{num}
use Rattle.sequence.specs.Limits.{most_sources, most_targets, most_rules, most_job_words}
use Rattle.reader.specs.Starts.{sources_start, targets_start, rules_start}
use Rattle.reader.specs.Words.{words_read}
use Rattle.sequence.specs.Sequence.{stage_of, in_sequence}
use Rattle.grammar.specs.Reading.{beginning, noted, after, function_in, reading}
use Rattle.reader.specs.Job.{job_facts, job_ended, job_of, WellFormedJob}
use Rattle.sequence.specs.declared.File.TheVariants.{AsJob}
use Rattle.sequence.specs.declared.State.{State}
use Rattle.std.specs.Prelude.{Result, Ok, Err}
use Rattle.reader.specs.declared.Job.{Job}
use Rattle.reader.proofs.Limits.{were_read}
use Rattle.wellformed.proofs.Parts.{Each, Rising, SourceWord, TargetWord, RecipeWord, each_none, each_more, rising_none, rising_more, rising_as}
use Rattle.grammar.proofs.Faultless.{Faultless, passed}
use Rattle.grammar.proofs.Stages.{by_kind}
use Rattle.wellformed.proofs.Headers.{header_whole}
use Rattle.wellformed.proofs.Words.{Last, HeaderFirst, header_first, last_more, prices_range, source_word, target_word, rule_word, function_of-source, function_of-target, risen}

-- ---- what the words so far hold

-- How many there were of each kind. Sources are counted only once their kind has been reached (27 * 0 before), and so on.
record Counts (s : State) (i : ℕ) : Type 0 where
  passed : min (stage_of s) 2 + s.sources + s.targets + s.rules ≡ i
  sources_begun : s.sources ≤ most_sources * (stage_of s - PRICES)
  targets_begun : s.targets ≤ most_targets * (stage_of s - SOURCE)
  rules_begun : s.rules ≤ most_rules * (stage_of s - TARGET)
  a_source : min (stage_of s - PRICES) 1 ≤ s.sources
  few_sources : s.sources ≤ most_sources
  few_targets : s.targets ≤ most_targets
  few_rules : s.rules ≤ most_rules

-- What stands in them.
record Held (ws : List ℕ) (s : State) (i : ℕ) : Type 0 where
  counts : Counts s i
  last : Last ws s i
  header : 1 ≤ stage_of s → HeaderFirst AsJob ws
  prices : 2 ≤ stage_of s → (kind_of (get_or ws 1 0) ≡ PRICES) × (content_of (get_or ws 1 0) < 2 ^ 24)
  source_words : Each SourceWord ws 2 s.sources
  sources_rise : Rising function_in ws 2 s.sources
  target_words : Each TargetWord ws (2 + s.sources) s.targets
  targets_rise : Rising function_in ws (2 + s.sources) s.targets
  rule_words : Each (RecipeWord RULE) ws (2 + s.sources + s.targets) s.rules

module _ (ws : List ℕ) where
  held_none : Held ws beginning 0
  held_none =
      record {
        counts = omega arith;
        last = λ p h. absurd (omega arith);
        header = λ h. absurd (omega arith);
        prices = λ h. absurd (omega arith);
        source_words = each_none ws 2 0 SourceWord refl;
        sources_rise = rising_none ws 2 0 function_in refl;
        target_words = each_none ws 2 0 TargetWord refl;
        targets_rise = rising_none ws 2 0 function_in refl;
        rule_words = each_none ws 2 0 (RecipeWord RULE) refl;
      }

  module _ (s : State) (i : ℕ) (g : Faultless AsJob s (get_or ws i 0)) (q : Held ws s i) where
    -- a word of kind k keeps it up
    abbrev Keeps : ℕ → Type 0
    Keeps k = kind_of (get_or ws i 0) ≡ k → Held ws (noted k (function_in (get_or ws i 0)) s) (i + 1)

    header_more : stage_of s ≡ 0 → Keeps HEADER
    header_more h e =
        record {
          counts = omega arith;
          last = last_more ws i;
          header = λ _. header_first AsJob s ws i (omega arith) e g;
          prices = λ l. absurd (omega arith);
          source_words = q.source_words;
          sources_rise = q.sources_rise;
          target_words = q.target_words;
          targets_rise = q.targets_rise;
          rule_words = q.rule_words;
        }

    prices_more : stage_of s ≡ HEADER → Keeps PRICES
    prices_more h e =
        let z : i ≡ 1 = omega arith in
        record {
          counts = omega arith;
          last = last_more ws i;
          header = λ _. q.header (omega arith);
          prices =
              λ _. subst (λ (x : ℕ). (kind_of (get_or ws x 0) ≡ PRICES) × (content_of (get_or ws x 0) < 2 ^ 24)) z (e, prices_range AsJob s _ g e);
          source_words = q.source_words;
          sources_rise = q.sources_rise;
          target_words = q.target_words;
          targets_rise = q.targets_rise;
          rule_words = q.rule_words;
        }

    source_more : PRICES ≤ stage_of s → stage_of s ≤ SOURCE → s.sources < most_sources → Keeps SOURCE
    source_more a b few e =
        let z : i ≡ 2 + s.sources = omega arith in
        record {
          counts = omega arith;
          last = last_more ws i;
          header = λ _. q.header (omega arith);
          prices = λ _. q.prices (omega arith);
          source_words = each_more ws 2 s.sources SourceWord i z q.source_words (source_word AsJob s _ g e);
          sources_rise =
              rising_more ws 2 s.sources function_in i z q.sources_rise
              (risen ws s i Source 2 s.sources q.last z (λ n. omega arith) (λ x. cc) e g.order);
          target_words = each_none ws (2 + (s.sources + 1)) s.targets TargetWord (omega arith);
          targets_rise = rising_none ws (2 + (s.sources + 1)) s.targets function_in (omega arith);
          rule_words = each_none ws (2 + (s.sources + 1) + s.targets) s.rules (RecipeWord RULE) (omega arith);
        }

    target_more : SOURCE ≤ stage_of s → stage_of s ≤ TARGET → s.targets < most_targets → Keeps TARGET
    target_more a b few e =
        let z : i ≡ 2 + s.sources + s.targets = omega arith in
        record {
          counts = omega arith;
          last = last_more ws i;
          header = λ _. q.header (omega arith);
          prices = λ _. q.prices (omega arith);
          source_words = q.source_words;
          sources_rise = q.sources_rise;
          target_words = each_more ws (2 + s.sources) s.targets TargetWord i z q.target_words (target_word AsJob s _ g e);
          targets_rise =
              rising_more ws (2 + s.sources) s.targets function_in i z q.targets_rise
              (risen ws s i Target (2 + s.sources) s.targets q.last z (λ n. omega arith) (λ x. cc) e g.order);
          rule_words = each_none ws (2 + s.sources + (s.targets + 1)) s.rules (RecipeWord RULE) (omega arith);
        }

    rule_more : SOURCE ≤ stage_of s → stage_of s ≤ RULE → s.rules < most_rules → Keeps RULE
    rule_more a b few e =
        let z : i ≡ 2 + s.sources + s.targets + s.rules = omega arith in
        record {
          counts = omega arith;
          last = last_more ws i;
          header = λ _. q.header (omega arith);
          prices = λ _. q.prices (omega arith);
          source_words = q.source_words;
          sources_rise = q.sources_rise;
          target_words = q.target_words;
          targets_rise = q.targets_rise;
          rule_words =
              each_more ws (2 + s.sources + s.targets) s.rules (RecipeWord RULE) i z q.rule_words
              (rule_word AsJob s _ g e);
        }

    held_more : Held ws (after s (get_or ws i 0)) (i + 1)
    unfolding in_sequence
    held_more = by_kind s Keeps _ g.in_sequence_lem header_more prices_more source_more target_more rule_more refl

-- ---- an accepted job

pub record JobFacts (ws : List ℕ) (job : Job) : Type 0 where
  pub size : rules_start job + job.rules ≡ length ws
  pub width_least : 1 ≤ job.width
  pub width_most : job.width ≤ 64
  pub inverter_most : job.prices.inverter ≤ 255
  pub gate_most : job.prices.gate ≤ 255
  pub multiplexer_most : job.prices.multiplexer ≤ 255
  pub sources_least : 1 ≤ job.sources
  pub sources_most : job.sources ≤ most_sources
  pub targets_most : job.targets ≤ most_targets
  pub rules_most : job.rules ≤ most_rules
  pub header_kind : kind_of (get_or ws 0 0) ≡ HEADER
  pub header : content_of (get_or ws 0 0) ≡ job.width + num job.book * 2 ^ 7
  pub prices_kind : kind_of (get_or ws 1 0) ≡ PRICES
  pub prices : content_of (get_or ws 1 0) ≡ job.prices.inverter * 2 ^ 16 + job.prices.gate * 2 ^ 8 + job.prices.multiplexer
  pub source_words : Each SourceWord ws sources_start job.sources
  pub sources_rise : Rising content_of ws sources_start job.sources
  pub target_words : Each TargetWord ws (targets_start job) job.targets
  pub targets_rise : Rising target_function ws (targets_start job) job.targets
  pub rule_words : Each (RecipeWord RULE) ws (rules_start job) job.rules

-- the prices take up the whole content of their word
prices_whole : (w : ℕ) → content_of w < 2 ^ 24 → content_of w ≡ field w 16 8 * 2 ^ 16 + field w 8 8 * 2 ^ 8 + field w 0 8
prices_whole w h = omega arith

from_held : (ws : List ℕ) (s : State) → 1 ≤ s.sources → Held ws s (length ws)
    → JobFacts ws (job_facts (get_or ws 0 0) (get_or ws 1 0) s)
from_held ws s h q =
    let header = q.header (omega arith) in
    let prices = q.prices (omega arith) in
    let width = header_whole (get_or ws 0 0) header.1 in
    record {
      size = omega arith;
      width_least = width.0.least;
      width_most = width.0.most;
      inverter_most = omega (arith, field_lt (get_or ws 1 0) 16 8);
      gate_most = omega (arith, field_lt (get_or ws 1 0) 8 8);
      multiplexer_most = omega (arith, field_lt (get_or ws 1 0) 0 8);
      sources_least = omega arith;
      sources_most = q.counts.few_sources;
      targets_most = q.counts.few_targets;
      rules_most = q.counts.few_rules;
      header_kind = header.0;
      header = width.1;
      prices_kind = prices.0;
      prices = prices_whole (get_or ws 1 0) prices.1;
      source_words = q.source_words;
      sources_rise =
          rising_as ws 2 s.sources function_in SourceWord content_of function_of-source q.source_words
          q.sources_rise;
      target_words = q.target_words;
      targets_rise =
          rising_as ws (2 + s.sources) s.targets function_in TargetWord target_function function_of-target
          q.target_words q.targets_rise;
      rule_words = q.rule_words;
    }

-- what the words hold once all have passed
pub all_held : (ws : List ℕ) (s : State) → reading AsJob beginning 0 ws ≡ Ok s → 1 ≤ s.sources
    → JobFacts ws (job_facts (get_or ws 0 0) (get_or ws 1 0) s)
all_held ws s e h =
    from_held ws s h
    (passed AsJob ws (Held ws) (λ t i _. held_more ws t i) (length ws) 0 beginning s (omega arith) (held_none ws) e)

module _ (ws : List ℕ) (job : Job) where
  once_read : (r : Result State Refusal) → words_read AsJob ws ≡ r → job_ended ws r ≡ Ok job → JobFacts ws job
  once_read (Ok s) e =
      either (λ j. j ≡ Ok job → JobFacts ws job) (ltb s.sources 1)
      (λ _ a. absurd cc)
      (λ h a. let u : job_facts (get_or ws 0 0) (get_or ws 1 0) s ≡ job = cc in
      subst (JobFacts ws) u (all_held ws s (were_read AsJob ws s e).read (ltb-false s.sources 1 h)))
  once_read (Err r) e = λ a. absurd cc

  pub well_formed : WellFormedJob ws job → JobFacts ws job
  unfolding job_of
  well_formed = once_read (words_read AsJob ws) refl

  -- the parts of an accepted job's words
  module _ (e : WellFormedJob ws job) where
    pub few_words : length ws ≤ most_job_words
    few_words = omega (arith, well_formed e)

    pub targets_within : targets_start job ≤ length ws
    targets_within = omega (arith, well_formed e)

    pub rules_within : rules_start job ≤ length ws
    rules_within = omega (arith, well_formed e)
