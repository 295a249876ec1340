-- The parts of a job, read one after the other: words that hold what an accepted job's words hold are passed over.
use mathlib.Core.Path.{◌≡◌, refl, sym, ap, subst, ◌∙◌}
use mathlib.Core.Bool.{true, ◌||◌}
use mathlib.Core.List.{List}
use Prim.Native.Nat.{ℕ, zero, suc, ◌+◌, ◌<◌, ◌≤◌, ◌^◌}
use native.Mathlib.Nat.{add-zero}
use native.Mathlib.Omega.{arith}
use lib.Dec.{eqb}
use lib.ListN.{length, drop, get_or}
use borrow.Author.Tests.{lt-ltb}
use Rattle.words.specs.Field.{kind_of, content_of, target_function}
use Rattle.words.proofs.Choices.{and_join}
use Rattle.words.specs.Kinds.{HEADER, PRICES, SOURCE, TARGET, RULE, kind_number, is_recipe}
use Rattle.words.specs.declared.kind.WordKind.{WordKind}
use Rattle.words.specs.declared.kind.WordKind.TheVariants.{Header, Prices, Source, Target, Rule}
use Rattle.sequence.specs.Limits.{most_sources, most_targets, most_rules}
use Rattle.reader.specs.Starts.{targets_start, rules_start}
use Rattle.sequence.specs.Sequence.{stage_of, job_sequence, in_sequence}
use Rattle.grammar.specs.Reading.{header_fits, rises, after, function_in, reading}
use Rattle.sequence.specs.declared.File.TheVariants.{AsJob}
use Rattle.sequence.specs.declared.State.{State}
use Rattle.reader.specs.declared.Job.{Job}
use Rattle.grammar.proofs.Steps.{by_kind, no_order, first_of_kind}
use Rattle.wellformed.proofs.Parts.{SourceWord, TargetWord, RecipeWord}
use Rattle.grammar.proofs.Faultless.{Faultless}
use Rattle.wellformed.proofs.Words.{is_function_lem, no_outputs, recipe_outputs, function_of-source, function_of-target, rises_above}
use Rattle.wellformed.proofs.JobWords.{JobFacts}
use Rattle.wellformed.proofs.MappingAccepting.{passes}

-- ---- one word

-- a stage that is one of two or of three
one_of_two : (k a : ℕ) → a ≤ k → k ≤ a + 1 → eqb k a || eqb k (a + 1) ≡ true
one_of_two k a g h = grind arith

one_of_three : (k : ℕ) → SOURCE ≤ k → k ≤ RULE → eqb k SOURCE || eqb k TARGET || eqb k RULE ≡ true
one_of_three k g h = grind arith

module _ (s : State) (w : ℕ) where
  pub free_header : stage_of s ≡ 0 → kind_of w ≡ HEADER → header_fits AsJob w ≡ true → Faultless AsJob s w
  unfolding in_sequence job_sequence is_recipe
  free_header z k h =
      record {
        in_sequence_lem = rw (k, z) refl;
        layout = sym (by_kind AsJob w Header k) ∙ h;
        order = sym (first_of_kind s w Header k (λ e. omega arith));
        outputs = no_outputs w HEADER k refl;
      }

  pub free_prices : stage_of s ≡ HEADER → kind_of w ≡ PRICES → content_of w < 2 ^ 24 → Faultless AsJob s w
  unfolding in_sequence job_sequence is_recipe
  free_prices z k g =
      record {
        in_sequence_lem = rw (k, z) refl;
        layout = sym (by_kind AsJob w Prices k) ∙ lt-ltb (content_of w) (2 ^ 24) g;
        order = sym (first_of_kind s w Prices k (λ e. omega arith));
        outputs = no_outputs w PRICES k refl;
      }

  free_source : PRICES ≤ stage_of s → stage_of s ≤ SOURCE → s.sources < most_sources → SourceWord w → rises s w ≡ true → Faultless AsJob s w
  unfolding in_sequence job_sequence is_recipe
  free_source a b few r order =
      let k = r.kind_is in
      record {
        in_sequence_lem = rw k (and_join (one_of_two (stage_of s) PRICES a b) (lt-ltb s.sources most_sources few));
        layout = sym (by_kind AsJob w Source k) ∙ is_function_lem (content_of w) r.least r.most;
        order = order;
        outputs = no_outputs w SOURCE k refl;
      }

  free_target : SOURCE ≤ stage_of s → stage_of s ≤ TARGET → s.targets < most_targets → TargetWord w → rises s w ≡ true → Faultless AsJob s w
  unfolding in_sequence job_sequence is_recipe
  free_target a b few r order =
      let k = r.kind_is in
      record {
        in_sequence_lem = rw k (and_join (one_of_two (stage_of s) SOURCE a b) (lt-ltb s.targets most_targets few));
        layout =
            sym (by_kind AsJob w Target k)
            ∙ and_join (lt-ltb (content_of w) (2 ^ 6) r.up_to_mark) (is_function_lem (target_function w) r.least r.most);
        order = order;
        outputs = no_outputs w TARGET k refl;
      }

  free_rule : SOURCE ≤ stage_of s → stage_of s ≤ RULE → s.rules < most_rules → RecipeWord RULE w → Faultless AsJob s w
  unfolding in_sequence job_sequence is_recipe
  free_rule a b few r =
      let k = r.kind_is in
      let f = recipe_outputs w r.no_fault in
      record {
        in_sequence_lem = rw k (and_join (one_of_three (stage_of s) a b) (lt-ltb s.rules most_rules few));
        layout = sym (by_kind AsJob w Rule k) ∙ f.laid_out_lem;
        order = sym (no_order s w Rule k refl);
        outputs = λ _. (f.driven, f.exact);
      }

-- ---- a part of the words

-- the words from one on are read as those from a later one on, from another state
pub record Reaches (ws : List ℕ) (P : State → Type 0) (s : State) (from to : ℕ) : Type 0 where
  pub end : State
  pub read : reading AsJob s from (drop from ws) ≡ reading AsJob end to (drop to ws)
  pub holds : P end

-- n words, each without a fault where P holds, which it keeps up
module _ (ws : List ℕ) (start n : ℕ) (P : ℕ → State → Type 0) (room : start + n ≤ length ws)
    (free : (j : ℕ) (s : State) → j < n → P j s → Faultless AsJob s (get_or ws (start + j) 0))
    (more : (j : ℕ) (s : State) → j < n → P j s → P (j + 1) (after s (get_or ws (start + j) 0))) where
  part_from : (d j : ℕ) (s : State) → j + d ≡ n → P j s → Reaches ws (P n) s (start + j) (start + n)
  part_from zero j s e p =
      let z : j ≡ n = omega arith in
      record { end = s; read = ap (λ (x : ℕ). reading AsJob s (start + x) (drop (start + x) ws)) z; holds = subst (λ (x : ℕ). P x s) z p }
  part_from (suc d) j s e p =
      let w = get_or ws (start + j) 0 in
      let z : start + j + 1 ≡ start + (j + 1) = omega arith in
      let r = part_from d (j + 1) (after s w) (omega arith) (more j s (omega arith) p) in
      record {
        end = r.end;
        read =
            passes AsJob ws s (start + j) (omega arith) (free j s (omega arith) p)
            ∙ ap (λ (x : ℕ). reading AsJob (after s w) x (drop x ws)) z
            ∙ r.read;
        holds = r.holds;
      }

  part : (s : State) → P 0 s → Reaches ws (P n) s start (start + n)
  part s p = subst (λ (x : ℕ). Reaches ws (P n) s x (start + n)) (add-zero start) (part_from n 0 s (omega arith) p)

-- ---- the parts of a job

-- a word of this kind may come next if its function is above the last of its part
abbrev pub Order : List ℕ → ℕ → ℕ → ℕ → State → Type 0
Order ws kind start j s =
    (w : ℕ) → kind_of w ≡ kind → (1 ≤ j → (p : ℕ) → p + 1 ≡ start + j → function_in (get_or ws p 0) < function_in w) → rises s w ≡ true

pub record InSources (ws : List ℕ) (j : ℕ) (s : State) : Type 0 where
  pub least : PRICES ≤ stage_of s
  pub most : stage_of s ≤ SOURCE
  pub begun : 1 ≤ j → SOURCE ≤ stage_of s
  pub sources : s.sources ≡ j
  pub targets : s.targets ≡ 0
  pub rules : s.rules ≡ 0
  pub order : Order ws SOURCE 2 j s

pub record InTargets (ws : List ℕ) (n j : ℕ) (s : State) : Type 0 where
  pub least : SOURCE ≤ stage_of s
  pub most : stage_of s ≤ TARGET
  pub sources : s.sources ≡ n
  pub targets : s.targets ≡ j
  pub rules : s.rules ≡ 0
  pub order : Order ws TARGET (2 + n) j s

pub record InRules (n m j : ℕ) (s : State) : Type 0 where
  pub least : SOURCE ≤ stage_of s
  pub most : stage_of s ≤ RULE
  pub sources : s.sources ≡ n
  pub targets : s.targets ≡ m
  pub rules : s.rules ≡ j

module _ (ws : List ℕ) (job : Job) (q : JobFacts ws job) where
  -- the words of a part rise by the functions that the reader compares
  rise_at : (P : ℕ → Type 0) (f : ℕ → ℕ) (start n : ℕ) → ((w : ℕ) → P w → function_in w ≡ f w)
      → ((m : ℕ) → m < n → P (get_or ws (start + m) 0))
      → ((m : ℕ) → m + 1 < n → f (get_or ws (start + m) 0) < f (get_or ws (start + (m + 1)) 0))
      → (j : ℕ) → j < n → 1 ≤ j → (p : ℕ) → p + 1 ≡ start + j → function_in (get_or ws p 0) < function_in (get_or ws (start + j) 0)
  rise_at P f start n same each rise zero h g p e = absurd (omega arith)
  rise_at P f start n same each rise (suc j) h g p e =
      let a : p ≡ start + j = omega arith in
      let b : j + 1 ≡ suc j = omega arith in
      let r = subst (λ (x : ℕ). f (get_or ws (start + j) 0) < f (get_or ws (start + x) 0)) b (rise j (omega arith)) in
      subst (λ (x : ℕ). function_in (get_or ws x 0) < function_in (get_or ws (start + suc j) 0)) (sym a)
      (omega (
        arith,
        r,
        same (get_or ws (start + j) 0) (each j (omega arith)),
        same (get_or ws (start + suc j) 0) (each (suc j) h),
      ))

  -- the word before is the last of its part
  next_above : (k : WordKind) (start j : ℕ) (s : State) → (k ≡ Rule → ⊥) → kind_of (get_or ws (start + j) 0) ≡ kind_number k
      → Order ws (kind_number k) start (j + 1) (after s (get_or ws (start + j) 0))
  next_above k start j s other e v kv above =
      rises_above s (get_or ws (start + j) 0) k e v kv other (above (omega arith) (start + j) (omega arith))

  pub through_sources : (s : State) → InSources ws 0 s → Reaches ws (InSources ws job.sources) s 2 (targets_start job)
  through_sources s p =
      part ws 2 job.sources (InSources ws) (omega (arith, q.size))
      (λ j t h r. free_source t _ r.least r.most (omega (arith, r.sources, q.sources_most)) (q.source_words j h)
      (r.order _ (q.source_words j h).kind_is
      (rise_at SourceWord content_of 2 job.sources function_of-source q.source_words q.sources_rise j h)))
      (λ j t h r. let k = (q.source_words j h).kind_is in
      record {
        least = rw k (omega arith);
        most = rw k (omega arith);
        begun = λ _. rw k (omega arith);
        sources = rw k (ap (λ (x : ℕ). x + 1) r.sources);
        targets = rw k r.targets;
        rules = rw k r.rules;
        order = next_above Source 2 j t (λ e. cc) k;
      })
      s p

  pub through_targets : (s : State) → InTargets ws job.sources 0 s
      → Reaches ws (InTargets ws job.sources job.targets) s (targets_start job) (rules_start job)
  through_targets s p =
      part ws (targets_start job) job.targets (InTargets ws job.sources) (omega (arith, q.size))
      (λ j t h r. free_target t _ r.least r.most (omega (arith, r.targets, q.targets_most)) (q.target_words j h)
      (r.order _ (q.target_words j h).kind_is
      (rise_at TargetWord target_function (targets_start job) job.targets function_of-target q.target_words q.targets_rise j h)))
      (λ j t h r. let k = (q.target_words j h).kind_is in
      record {
        least = rw k (omega arith);
        most = rw k (omega arith);
        sources = rw k r.sources;
        targets = rw k (ap (λ (x : ℕ). x + 1) r.targets);
        rules = rw k r.rules;
        order = next_above Target (targets_start job) j t (λ e. cc) k;
      })
      s p

  pub through_rules : (s : State) → InRules job.sources job.targets 0 s
      → Reaches ws (InRules job.sources job.targets job.rules) s (rules_start job) (rules_start job + job.rules)
  through_rules s p =
      part ws (rules_start job) job.rules (InRules job.sources job.targets) (omega (arith, q.size))
      (λ j t h r. free_rule t _ r.least r.most (omega (arith, r.rules, q.rules_most)) (q.rule_words j h))
      (λ j t h r. let k = (q.rule_words j h).kind_is in
      record {
        least = rw k (omega arith);
        most = rw k (omega arith);
        sources = rw k r.sources;
        targets = rw k r.targets;
        rules = rw k (ap (λ (x : ℕ). x + 1) r.rules);
      })
      s p
