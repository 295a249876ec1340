-- Request #102, as theorems of the contract: "Add a release of one function. Releasing what was just bound gives back the earlier bench,
-- and the function can be bound anew."
use mathlib.Core.Path.{◌≡◌, refl, sym, ap, subst, ◌∙◌}
use mathlib.Core.Logic.{◌↔◌}
use mathlib.Core.Bool.{Bool, true, false}
use mathlib.Core.List.{List, [], ◌∷◌}
use Prim.Native.Nat.{ℕ, zero, suc, ◌≤◌, ◌<◌}
use native.Mathlib.Decide.{dec_lt}
use native.Mathlib.Omega.{arith}
use lib.Dec.{eqb}
use lib.ListN.{length, get_or, set, length-set}
use lib.Seq.{get_or-set_same, get_or-set_other, set-set, set-get_or}
use borrow.Author.Tests.{eqb-true}
use Rattle.std.specs.Prelude.{None, Ok, ⊤}
use Rattle.words.specs.Paper.{accepted, refused, source_place}
use Rattle.recipe.specs.Fields.{source_of}
use Rattle.binding.specs.Right.{is_right}
use Rattle.verdict.specs.Verdicts.{Ruling}
use Rattle.table.specs.Table.{lists_source, in_job}
use Rattle.table.proofs.Entries.{source_listed, in_job-when}
use Rattle.claims.specs.Claim.{claim_in}
use Rattle.soundness.specs.Sound.{empty, sources_on, targets_on, rule_fault, entry_sound, bound_sound}
use Rattle.soundness.specs.declared.Tables.{Tables}
use Rattle.soundness.proofs.Soundness.{sound_holds, sound_sources}
use Rattle.entries.proofs.Searching.{bound_within, bound_place, is_bound_lem, not_bound}
use Rattle.bench.specs.Calls.{bench_with, sound_bench, holding, has_binding, gives, BindRuled, Binds, release_of, paper_of}
use Rattle.bench.specs.Shape.{Shaped}
use Rattle.bench.specs.declared.Bench.{Bench}
use Rattle.bench.specs.declared.After.{After}
use Rattle.bench.proofs.Shapes.{sources_taken}
use Rattle.bench.proofs.Binds.{place_for, tables_entry}
use Rattle.demands.specs.Benches.{function_on, entry_on, BoundTo, Removes}
use Rattle.demands.proofs.Keeping.{both}
use Rattle.demands.proofs.Allowed.{Allowed, Outcome, Bound, Unchanged, outcome, bound_on, allowed_gives, allowed_sound, nothing-there, rule_some}
use Rattle.demands.proofs.Releasing.{Release, Released, Kept, released_on, release, releases, unbound_refused, released_sound, release_keeps_sound}
use Rattle.demands.proofs.Finished.{BoundRecipe, entry_at, recipe_at}
use Rattle.demands.proofs.AnyOrder.{place_of_lem}
use Rattle.demands.proofs.OwnJob.{of_own_job}
use Rattle.demands.proofs.Entries.{place_source, sources_apart}

-- a sound bench stores the count of its own bindings
held_again : (b : Bench) → sound_bench b ≡ true → holding b b.bound ≡ b
held_again b s = ap (bench_with b.tables b.bound) (sym (sound_holds b.tables b.bound b.glue s).count)

-- ---- nothing stands past the sources

empty_at : (bs : List ℕ) (i : ℕ) → empty bs ≡ true → get_or bs i 0 ≡ 0
unfolding empty
empty_at [] i e = refl
empty_at (w ∷ bs) zero e = eqb-true w 0 (both (eqb w 0) (empty bs) e).0
empty_at (w ∷ bs) (suc i) e = empty_at bs i (both (eqb w 0) (empty bs) e).1

past_empty : (n : ℕ) (all ts ss bs : List ℕ) (i : ℕ) → bound_sound n all ts ss bs ≡ true → length ss ≤ i → get_or bs i 0 ≡ 0
unfolding bound_sound
past_empty n all ts [] bs i e l = empty_at bs i e
past_empty n all ts (s ∷ ss) [] i e l = refl
past_empty n all ts (s ∷ ss) (w ∷ bs) zero e l = absurd (omega arith)
past_empty n all ts (s ∷ ss) (w ∷ bs) (suc i) e l =
    past_empty n all ts ss bs i (both (entry_sound n all ts s w) (bound_sound n all ts ss bs) e).1 (omega arith)

-- ---- where a function has a binding

something_there : (b : Bench) (f : ℕ) → has_binding b f ≡ true → get_or b.bound (place_for b f) 0 ≡ 0 → ⊥
something_there b f u = bound_place (sources_on b.tables) f b.bound u

module _ (b : Bench) (h : Shaped b) (s : sound_bench b ≡ true) where
  -- no two sources have the same function
  one_entry : (f k : ℕ) → k < b.tables.nsources → function_on b k ≡ f → place_for b f ≡ k
  one_entry f k l e =
      let j = of_own_job b h s in
      ap (place_for b) (sym e)
      ∙ place_of_lem (sources_on b.tables) k (omega (arith, sources_taken b h s))
      (λ i before. sources_apart _ j.0 j.1.0 b j.1.1 i k before l)

  module _ (f : ℕ) (u : has_binding b f ≡ true) where
    entry_held : place_for b f < length b.bound
    entry_held = bound_within (sources_on b.tables) f b.bound u

    entry_within : place_for b f < length (sources_on b.tables)
    entry_within =
        elim (dec_lt (place_for b f) (length (sources_on b.tables))) [
          | yes l ↦ l
          | no l ↦
              absurd
              (something_there b f u
              (past_empty b.tables.width (sources_on b.tables) (targets_on b.tables) (sources_on b.tables) b.bound
              (place_for b f) (sound_holds b.tables b.bound b.glue s).entries (omega arith)))
        ]

    abbrev bound_to : BoundTo b f
    bound_to =
        record {
          entry = place_for b f;
          within = omega (arith, entry_within, sources_taken b h s);
          its_source = place_source (sources_on b.tables) f entry_within;
          not_empty = something_there b f u;
        }

    removes : Removes b f (released_on b f)
    removes =
        record {
          bound_to = bound_to;
          is_empty = get_or-set_same b.bound (place_for b f) 0 0 entry_held;
          others_same = λ k other. get_or-set_other b.bound (place_for b f) k 0 0 other;
          entries_same = length-set b.bound (place_for b f) 0;
          tables_same = refl;
          count = refl;
        }

    -- what is bound to it is a rule of it that could be bound
    its_recipe : BoundRecipe b.tables.width (sources_on b.tables) (targets_on b.tables)
        (get_or (sources_on b.tables) (place_for b f) 0) (get_or b.bound (place_for b f) 0)
    its_recipe =
        let n = b.tables.width in
        let ss = sources_on b.tables in
        let ts = targets_on b.tables in
        recipe_at n ss ts (get_or ss (place_for b f) 0) (get_or b.bound (place_for b f) 0)
        (entry_at n ss ts ss b.bound (place_for b f) (sound_holds b.tables b.bound b.glue s).entries entry_within entry_held)
        (something_there b f u)

    -- a rule of the function that could be bound is bound
    module _ (w : ℕ) (rule : rule_fault w ≡ None) (there : in_job (sources_on b.tables) (targets_on b.tables) w ≡ true)
        (right : is_right (claim_in (sources_on b.tables) (targets_on b.tables) w) b.tables.width ≡ true)
        (of : source_of w ≡ f) where
      allowed : Allowed (released_on b f) w
      allowed =
          record {
            unrefused = record {
              sound = released_sound b f s;
              a_rule = rule;
              there = there;
              free =
                  not_bound (sources_on b.tables) (source_of w) (set b.bound (place_for b f) 0)
                  (ap (λ (x : ℕ). get_or (set b.bound (place_for b f) 0) (place_for b x) 0) of
                  ∙ get_or-set_same b.bound (place_for b f) 0 0 entry_held);
            };
            right = right;
          }

      -- in the entry of what was released
      bound_anew : (r : After ⊤) → Binds (released_on b f) w r → r ≡ gives (holding b (set b.bound (place_for b f) w)) (Ok tt)
      bound_anew r answer =
          subst (λ (x : Ruling (After ⊤)). BindRuled (released_on b f) x r) (allowed_gives (released_on b f) w allowed) answer
          ∙ ap (λ (x : ℕ). gives (holding b (set (set b.bound (place_for b f) 0) (place_for b x) w)) (Ok tt)) of
          ∙ ap (λ (x : List ℕ). gives (holding b x) (Ok tt)) (set-set b.bound (place_for b f) 0 w)

-- ---- the theorems, of any bench that the code can hold

module _ (b : Bench) (h : Shaped b) where
  -- a release takes off just its own binding
  pub accepted_release_removes : (f : ℕ) → paper_of (release_of b f).answer ≡ accepted [] → Removes b f (release_of b f).bench
  accepted_release_removes f taken = by_outcome (release b f)
    where
      by_outcome : Release b f → Removes b f (release_of b f).bench
      by_outcome (Released s u e) = subst (λ (x : After ⊤). Removes b f x.bench) (sym e) (removes b h s f u)
      by_outcome (Kept refused _) = absurd (refused taken)

  -- "24, the function to be released has no binding (place: function)": a sound bench releases exactly the functions that have one,
  module _ (s : sound_bench b ≡ true) (f : ℕ) where
    has_binding_lem : BoundTo b f → has_binding b f ≡ true
    has_binding_lem t =
        let same = one_entry b h s f t.entry t.within t.its_source in
        is_bound_lem (sources_on b.tables) f b.bound
        (λ z. t.not_empty (ap (λ (x : ℕ). get_or b.bound x 0) (sym same) ∙ z))

    pub releases_exactly_the_bound : (paper_of (release_of b f).answer ≡ accepted []) ↔ BoundTo b f
    releases_exactly_the_bound = (
      λ taken. (accepted_release_removes f taken).bound_to,
      λ t. ap (λ (x : After ⊤). paper_of x.answer) (releases b f s (has_binding_lem t)),
    )

    -- and of any other number 24 is said.
    pub no_binding_is_refused : (BoundTo b f → ⊥) → paper_of (release_of b f).answer ≡ refused 24 (source_place f)
    no_binding_is_refused none = by_test (has_binding b f) refl
      where
        by_test : (u : Bool) → has_binding b f ≡ u → paper_of (release_of b f).answer ≡ refused 24 (source_place f)
        by_test true u = absurd (none (bound_to b h s f u))
        by_test false u = ap (λ (x : After ⊤). paper_of x.answer) (unbound_refused b f s u)

  -- a released bench is sound
  pub released_bench_is_sound : sound_bench b ≡ true → (f : ℕ) → sound_bench (release_of b f).bench ≡ true
  released_bench_is_sound s f = release_keeps_sound b f s

  -- "Releasing what was just bound gives back the earlier bench": the whole of it, its count included
  pub release_takes_back_a_bind : (w : ℕ) (r : After ⊤) → Binds b w r → paper_of r.answer ≡ accepted []
      → release_of r.bench (source_of w) ≡ gives b (Ok tt)
  release_takes_back_a_bind w r answer taken = by_outcome (outcome b w r answer)
    where
      taken_back : Allowed b w → release_of (bound_on b w) (source_of w) ≡ gives b (Ok tt)
      taken_back a =
          let i = place_for b (source_of w) in
          let few = sources_taken b h a.unrefused.sound in
          let held : get_or (set b.bound i w) i 0 ≡ w
          = get_or-set_same b.bound i w 0 (omega (arith, tables_entry b w a.unrefused.there, h.bound_entries, sound_sources b.tables b.bound b.glue a.unrefused.sound, few)) in
          releases (bound_on b w) (source_of w) (allowed_sound b w a)
          (is_bound_lem (sources_on b.tables) (source_of w) (set b.bound i w) (λ z. rule_some w a.unrefused.a_rule (sym held ∙ z)))
          ∙ ap (λ (x : List ℕ). gives (holding b x) (Ok tt))
          (set-set b.bound i w 0
          ∙ ap (set b.bound i) (sym (nothing-there b w a.unrefused))
          ∙ set-get_or b.bound i 0)
          ∙ ap (λ (x : Bench). gives x (Ok tt)) (held_again b a.unrefused.sound)

      by_outcome : Outcome b w r → release_of r.bench (source_of w) ≡ gives b (Ok tt)
      by_outcome (Bound a e) = ap (λ (x : After ⊤). release_of x.bench (source_of w)) e ∙ taken_back a
      by_outcome (Unchanged refused _) = absurd (refused taken)

  -- "and the function can be bound anew":
  module _ (f : ℕ) (taken : paper_of (release_of b f).answer ≡ accepted []) where
    -- binding again what was released gives back the bench before the release,
    pub released_is_bound_again : (k : ℕ) → k < b.tables.nsources → function_on b k ≡ f
        → (r : After ⊤) → Binds (release_of b f).bench (entry_on b k) r → r ≡ gives b (Ok tt)
    released_is_bound_again k l e r answer = by_outcome (release b f)
      where
        again : (s : sound_bench b ≡ true) → has_binding b f ≡ true → Binds (released_on b f) (entry_on b k) r → r ≡ gives b (Ok tt)
        again s u bound =
            let i = place_for b f in
            let w = get_or b.bound i 0 in
            let c = its_recipe b h s f u in
            let of : source_of w ≡ f
            = c.its_source ∙ place_source (sources_on b.tables) f (entry_within b h s f u) in
            let listed : lists_source (sources_on b.tables) (source_of w) ≡ true
            = ap (lists_source (sources_on b.tables)) c.its_source ∙ source_listed (sources_on b.tables) i (entry_within b h s f u) in
            bound_anew b h s f u w c.a_rule (in_job-when (sources_on b.tables) (targets_on b.tables) w listed c.target_there)
            c.is_right_lem of r
            (subst (λ (x : ℕ). Binds (released_on b f) (get_or b.bound x 0) r) (sym (one_entry b h s f k l e)) bound)
            ∙ ap (λ (x : List ℕ). gives (holding b x) (Ok tt)) (set-get_or b.bound i 0)
            ∙ ap (λ (x : Bench). gives x (Ok tt)) (held_again b s)

        by_outcome : Release b f → r ≡ gives b (Ok tt)
        by_outcome (Released s u q) = again s u (subst (λ (x : After ⊤). Binds x.bench (entry_on b k) r) q answer)
        by_outcome (Kept refused _) = absurd (refused taken)

    -- and any rule of the function that a bench of the same tables takes is taken.
    pub released_takes_any_rule : (c : Bench) → c.tables ≡ b.tables → (w : ℕ) (q : After ⊤) → Binds c w q
        → paper_of q.answer ≡ accepted [] → source_of w ≡ f
        → (r : After ⊤) → Binds (release_of b f).bench w r → paper_of r.answer ≡ accepted []
    released_takes_any_rule c same w q before accepts of r answer = by_outcome (release b f) (outcome c w q before)
      where
        by_outcome : Release b f → Outcome c w q → paper_of r.answer ≡ accepted []
        by_outcome (Released s u e) (Bound a _) =
            let there = ap (λ (t : Tables). in_job (sources_on t) (targets_on t) w) (sym same) ∙ a.unrefused.there in
            let right = ap (λ (t : Tables). is_right (claim_in (sources_on t) (targets_on t) w) t.width) (sym same) ∙ a.right in
            ap (λ (x : After ⊤). paper_of x.answer)
            (bound_anew b h s f u w a.unrefused.a_rule there right of r (subst (λ (x : After ⊤). Binds x.bench w r) e answer))
        by_outcome (Released s u e) (Unchanged refused _) = absurd (refused accepts)
        by_outcome (Kept refused _) o = absurd (refused taken)
