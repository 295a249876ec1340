-- The mapper's choice bound on the job's bench, in any order: each bind is accepted, the bench at the end is the same, and it writes
-- what the mapper writes.
use mathlib.Core.Path.{◌≡◌, refl, sym, ap, ap₂, subst, ◌∙◌}
use mathlib.Core.Bool.{true}
use mathlib.Core.List.{List, [], ◌∷◌, ◌++◌, append-nil, append_assoc, Permᴰ}
use Prim.Native.Nat.{ℕ, suc, ◌+◌, ◌-◌, ◌<◌}
use native.Mathlib.Omega.{arith}
use lib.Dec.{eqb}
use lib.ListN.{length, get_or, set, replicate, length-append, length-set}
use lib.Seq.{get_or-append_seam, set-append_seam}
use borrow.Author.Tests.{eq-eqb, ne_eqb}
use Rattle.words.specs.Field.{source_function}
use Rattle.recipe.specs.Fields.{source_of}
use Rattle.verdict.specs.Verdicts.{Ruling}
use Rattle.sequence.specs.Limits.{most_sources}
use Rattle.reader.specs.Job.{WellFormedJob}
use Rattle.reader.specs.declared.Job.{Job}
use Rattle.wellformed.proofs.JobWords.{JobFacts, well_formed}
use Rattle.table.specs.Parts.{sources_of}
use Rattle.table.specs.Table.{lists_source, has_target}
use Rattle.table.proofs.Entries.{in_job-when}
use Rattle.std.specs.Prelude.{None, Ok, ⊤}
use Rattle.mapper.specs.Mapping.{choice_of}
use Rattle.soundness.specs.Sound.{sources_on, targets_on, rule_fault}
use Rattle.soundness.proofs.Soundness.{a_rule}
use Rattle.opening.specs.Opening.{table_of, tables_in}
use Rattle.bench.specs.Calls.{sound_bench, holding, gives, opened, BindRuled}
use Rattle.entries.proofs.Searching.{place_of, not_bound}
use Rattle.bench.proofs.Binds.{place_for}
use Rattle.std.proofs.lemmas.List.Sums.{position_or_len_is}
use Rattle.bench.specs.declared.Bench.{Bench}
use Rattle.bench.specs.declared.After.{After}
use Rattle.binding.specs.Right.{is_right}
use Rattle.claims.specs.Claim.{claim_in}
use Rattle.demands.specs.Benches.{BenchOf, BindsAll}
use Rattle.mapper.proofs.Answering.{sources_length}
use Rattle.demands.proofs.Parts.{source_at_lem}
use Rattle.demands.proofs.Written.{Bindable}
use Rattle.demands.proofs.Chosen.{one_each, chosen_rule, chosen_bindable}
use Rattle.demands.proofs.Accepted.{source_listed}
use Rattle.demands.proofs.Sources.{sources_rise}
use Rattle.demands.proofs.Allowed.{Allowed, Outcome, Bound, Unchanged, outcome, bound_on, allowed_gives, allowed_sound, second_first, first_second, same_bench}
use Rattle.demands.proofs.Benches.{bound_of_job, opened_of_job, same_sources, same_targets}

-- ---- the same, said of the bench: no refusal holds at any of them

abbrev Runs : Bench → List ℕ → Bench → Type 0
Runs b [] end = end ≡ b
Runs b (w ∷ ws) end = Allowed b w × Runs (bound_on b w) ws end

runs : (ws : List ℕ) (b end : Bench) → BindsAll b ws end → Runs b ws end
runs [] b end q = q
runs (w ∷ ws) b end q = go (outcome b w q.0 q.1.0) (runs ws q.0.bench end q.1.1.1)
  where
    go : Outcome b w q.0 → Runs q.0.bench ws end → Runs b (w ∷ ws) end
    go (Bound a e) rest = (a, subst (λ (x : After ⊤). Runs x.bench ws end) e rest)
    go (Unchanged refused _) rest = absurd (refused q.1.1.0)

binds_all : (ws : List ℕ) (b end : Bench) → Runs b ws end → BindsAll b ws end
binds_all [] b end q = q
binds_all (w ∷ ws) b end q = (
  gives (bound_on b w) (Ok tt),
  (
    subst (λ (x : Ruling (After ⊤)). BindRuled b x (gives (bound_on b w) (Ok tt))) (sym (allowed_gives b w q.0)) refl,
    (refl, binds_all ws (bound_on b w) end q.1),
  ),
)

same_end : (ws : List ℕ) (b end other : Bench) → Runs b ws end → Runs b ws other → end ≡ other
same_end [] b end other p q = p ∙ sym q
same_end (w ∷ ws) b end other p q = same_end ws (bound_on b w) end other p.1 q.1

reorder : {xs ys : List ℕ} → Permᴰ xs ys → (b end : Bench) → length b.bound ≡ most_sources → Runs b xs end → Runs b ys end
reorder Permᴰ.nil b end n q = q
reorder (Permᴰ.cons {a = x} {l₂ = l} e d) b end n q =
    subst (λ (z : ℕ). Runs b (z ∷ l) end) e (q.0, reorder d (bound_on b x) end (length-set b.bound _ x ∙ n) q.1)
reorder (Permᴰ.swap {a = x} {b = y} {a' = v} {l = l} e₁ e₂) b end n q =
    let swapped : Runs b (y ∷ x ∷ l) end = (
      second_first b n x y q.0 q.1.0,
      (
        first_second b n x y q.0 q.1.0,
        subst (λ (z : Bench). Runs z l end) (same_bench b n x y q.0 q.1.0) q.1.1,
      ),
    ) in
    subst (λ (z : ℕ). Runs b (v ∷ z ∷ l) end) e₁ (subst (λ (z : ℕ). Runs b (z ∷ x ∷ l) end) e₂ swapped)
reorder (Permᴰ.trans d₁ d₂) b end n q = reorder d₂ b end n (reorder d₁ b end n q)

runs_of_job : (jw : List ℕ) (job : Job) (ws : List ℕ) (b end : Bench) → BenchOf jw job b → Runs b ws end → BenchOf jw job end
runs_of_job jw job [] b end o q = subst (BenchOf jw job) (sym q) o
runs_of_job jw job (w ∷ ws) b end o q =
    runs_of_job jw job ws (bound_on b w) end (bound_of_job jw job b w o (allowed_sound b w q.0)) q.1

-- ---- a table filled from its first entry on

module _ (xs : List ℕ) (h : length xs < most_sources) where
  one_entry : replicate {A = ℕ} (most_sources - length xs) 0 ≡ 0 ∷ replicate (most_sources - (length xs + 1)) 0
  one_entry = let z : most_sources - length xs ≡ suc (most_sources - (length xs + 1)) = omega arith in ap (λ (n : ℕ). replicate {A = ℕ} n 0) z

  next_empty : get_or (table_of most_sources xs) (length xs) 0 ≡ 0
  unfolding table_of
  next_empty =
      ap (λ (l : List ℕ). get_or (xs ++ l) (length xs) 0) one_entry
      ∙ get_or-append_seam xs 0 (replicate (most_sources - (length xs + 1)) 0) 0

  next_filled : (w : ℕ) → set (table_of most_sources xs) (length xs) w ≡ table_of most_sources (xs ++ w ∷ [])
  unfolding table_of
  next_filled w =
      let n : length (xs ++ w ∷ []) ≡ length xs + 1 = length-append xs (w ∷ []) in
      ap (λ (l : List ℕ). set (xs ++ l) (length xs) w) one_entry
      ∙ set-append_seam xs 0 (replicate (most_sources - (length xs + 1)) 0) w
      ∙ sym
      (append_assoc xs (w ∷ []) (replicate (most_sources - length (xs ++ w ∷ [])) 0)
      ∙ ap (λ (k : ℕ). xs ++ w ∷ replicate (most_sources - k) 0) n)

-- ---- the entry of a source

pub place_of_lem : (ss : List ℕ) (k : ℕ) → k < length ss → ((i : ℕ) → i < k → source_function (get_or ss i 0) ≡ source_function (get_or ss k 0) → ⊥)
    → place_of ss (source_function (get_or ss k 0)) ≡ k
place_of_lem ss k h apart =
    position_or_len_is (λ s. eqb (source_function s) (source_function (get_or ss k 0))) ss k 0 (omega arith)
    (λ i l. ne_eqb (source_function (get_or ss i 0)) (source_function (get_or ss k 0)) (apart i l))
    (λ _. eq-eqb (source_function (get_or ss k 0)) (source_function (get_or ss k 0)) refl)

-- ---- the choice

module _ (ws : List ℕ) (job : Job) (e : WellFormedJob ws job) (bound : List ℕ) (eb : choice_of ws job ≡ Ok bound) where
  facts : JobFacts ws job
  facts = well_formed ws job e

  choice : Bindable ws job bound
  choice = chosen_bindable ws job e bound eb

  pub size : length bound ≡ job.sources
  size = one_each ws job e bound eb

  its_source : (k : ℕ) → k < length bound → source_of (get_or bound k 0) ≡ source_function (get_or (sources_of ws job) k 0)
  its_source k h = choice.its_source k h ∙ sym (source_at_lem ws job k (omega (arith, size)))

  -- sources rise, so no two have the same function
  sources_apart : (k : ℕ) → k < length bound → (i : ℕ) → i < k
      → source_function (get_or (sources_of ws job) i 0) ≡ source_function (get_or (sources_of ws job) k 0) → ⊥
  sources_apart k h i l same =
      omega (
        arith,
        same,
        sources_rise ws job e i k l (omega (arith, size)),
        source_at_lem ws job i (omega (arith, size)),
        source_at_lem ws job k (omega (arith, size)),
      )

  its_entry : (k : ℕ) → k < length bound → place_for (opened ws job) (source_of (get_or bound k 0)) ≡ k
  its_entry k h =
      ap₂ place_of (same_sources ws job e) (its_source k h)
      ∙ place_of_lem (sources_of ws job) k (omega (arith, size, sources_length ws job e)) (sources_apart k h)

  pub is_rule : (k : ℕ) → k < length bound → rule_fault (get_or bound k 0) ≡ None
  is_rule k h =
      let r = chosen_rule ws job e bound eb k h in
      sym (a_rule (get_or bound k 0) None r.kind_is (sym r.no_fault))

  -- a bind of a chosen rule is accepted where its source is not bound yet
  pub choice_allowed : (held : List ℕ) → sound_bench (holding (opened ws job) held) ≡ true → (k : ℕ) → k < length bound
      → get_or held k 0 ≡ 0 → Allowed (holding (opened ws job) held) (get_or bound k 0)
  choice_allowed held s k h free =
      let b = holding (opened ws job) held in
      let w = get_or bound k 0 in
      record {
        unrefused = record {
          sound = s;
          a_rule = is_rule k h;
          there =
              in_job-when (sources_on (tables_in ws job)) (targets_on (tables_in ws job)) w
              (ap (λ (l : List ℕ). lists_source l (source_of w)) (same_sources ws job e) ∙ source_listed ws job e bound choice k h)
              (ap (λ (l : List ℕ). has_target l w) (same_targets ws job e) ∙ choice.target_there k h);
          free = not_bound (sources_on b.tables) (source_of w) held (ap (λ (i : ℕ). get_or held i 0) (its_entry k h) ∙ free);
        };
        right =
            ap₂ (λ (x y : List ℕ). is_right (claim_in x y w) job.width) (same_sources ws job e) (same_targets ws job e)
            ∙ choice.is_right_lem k h;
      }

  -- one after another, in table order
  in_order : (xs ys : List ℕ) → xs ++ ys ≡ bound → sound_bench (holding (opened ws job) (table_of most_sources xs)) ≡ true
      → Runs (holding (opened ws job) (table_of most_sources xs)) ys (holding (opened ws job) (table_of most_sources bound))
  in_order xs [] p s = ap (λ (l : List ℕ). holding (opened ws job) (table_of most_sources l)) (sym p ∙ append-nil xs)
  in_order xs (y ∷ ys) p s =
      let b = holding (opened ws job) (table_of most_sources xs) in
      let k = length xs in
      let n : k + suc (length ys) ≡ length bound = sym (length-append xs (y ∷ ys)) ∙ ap length p in
      let few : k < most_sources = omega (arith, size, facts.sources_most) in
      let word : get_or bound k 0 ≡ y = ap (λ (l : List ℕ). get_or l k 0) (sym p) ∙ get_or-append_seam xs y ys 0 in
      let entry : place_for b (source_of y) ≡ k = ap (λ (x : ℕ). place_for b (source_of x)) (sym word) ∙ its_entry k (omega arith) in
      let allowed : Allowed b y = subst (Allowed b) word (choice_allowed (table_of most_sources xs) s k (omega arith) (next_empty xs few)) in
      let after : bound_on b y ≡ holding (opened ws job) (table_of most_sources (xs ++ y ∷ [])) =
      ap (λ (i : ℕ). holding b (set b.bound i y)) entry ∙ ap (holding (opened ws job)) (next_filled xs few y) in
      let rest = in_order (xs ++ y ∷ []) ys (append_assoc xs (y ∷ []) ys ∙ p) (ap sound_bench (sym after) ∙ allowed_sound b y allowed) in
      (allowed, subst (λ (x : Bench). Runs x ys (holding (opened ws job) (table_of most_sources bound))) (sym after) rest)

  opened_table : holding (opened ws job) (table_of most_sources []) ≡ opened ws job
  unfolding table_of
  opened_table = sym (opened_of_job ws job e).as_opened

  module _ (order : List ℕ) (p : Permᴰ bound order) where
    ordered : Runs (opened ws job) order (holding (opened ws job) (table_of most_sources bound))
    ordered =
        let o = opened_of_job ws job e in
        reorder p (opened ws job) (holding (opened ws job) (table_of most_sources bound)) o.entries
        (subst (λ (x : Bench). Runs x bound (holding (opened ws job) (table_of most_sources bound))) opened_table
        (in_order [] bound refl (ap sound_bench opened_table ∙ o.sound)))

    pub order_binds : BindsAll (opened ws job) order (holding (opened ws job) (table_of most_sources bound))
    order_binds = binds_all order (opened ws job) (holding (opened ws job) (table_of most_sources bound)) ordered

    -- and what it comes to is the bench that holds the choice
    pub order_ends : (end : Bench) → BindsAll (opened ws job) order end → end ≡ holding (opened ws job) (table_of most_sources bound)
    order_ends end q =
        same_end order (opened ws job) end (holding (opened ws job) (table_of most_sources bound)) (runs order (opened ws job) end q) ordered

    pub order_of_job : BenchOf ws job (holding (opened ws job) (table_of most_sources bound))
    order_of_job =
        runs_of_job ws job order (opened ws job) (holding (opened ws job) (table_of most_sources bound)) (opened_of_job ws job e) ordered
