-- A sound bench with every source bound holds a right recipe of each source, and finishes.
use mathlib.Core.Path.{◌≡◌, refl, sym, ap, subst, ◌∙◌}
use mathlib.Core.Bool.{Bool, true, false, not, false≢true}
use mathlib.Core.List.{List, [], ◌∷◌, ◌++◌}
use Prim.Native.Nat.{ℕ, zero, suc, ◌≤◌, ◌<◌}
use native.Mathlib.Omega.{arith}
use lib.Dec.{eqb}
use lib.ListN.{length, drop, get_or}
use lib.Seq.{get_or-take}
use borrow.Author.Tests.{ne_eqb, eqb-true, eqb-false, le-ltb}
use Rattle.std.specs.Prelude.{if◌then◌else◌, Option, Some, None, is_some, Ok}
use Rattle.std.proofs.lemmas.Option.{none-some}
use Rattle.words.specs.declared.Fault.{Fault}
use Rattle.words.specs.declared.Fault.TheVariants.{OutOfSequence}
use Rattle.words.specs.Field.{kind_of, source_function}
use Rattle.words.specs.Kinds.{RULE}
use Rattle.words.proofs.Choices.{either}
use Rattle.recipe.specs.Fields.{source_of}
use Rattle.layout.specs.Layout.{recipe_fault}
use Rattle.binding.specs.Right.{is_right}
use Rattle.table.specs.Table.{has_target}
use Rattle.claims.specs.Claim.{claim_in}
use Rattle.writer.specs.Write.{words_needed, written_of}
use Rattle.writer.proofs.Writing.{mapping_length, written_words}
use Rattle.soundness.specs.Sound.{sources_on, targets_on, filled, rule_fault, bindable, entry_sound, bound_sound}
use Rattle.soundness.proofs.Soundness.{sound_holds, sound_sources}
use Rattle.bench.specs.Calls.{sound_bench, bindings_on, gives, unbound_on, mapping_on, finish_of, lent_after_finish}
use Rattle.entries.specs.Entries.{first_empty}
use Rattle.bench.specs.Shape.{Shaped}
use Rattle.bench.specs.declared.Bench.{Bench}
use Rattle.bench.proofs.Shapes.{sources_taken}
use Rattle.bench.proofs.Finishing.{all_bound, bound_taken}
use Rattle.demands.proofs.Keeping.{both}

-- ---- what stands in the entries

-- "a right kind 5 recipe that passes 3, 5 and 6, whose source it is, .. from a target of the job or from scratch"
pub record BoundRecipe (n : ℕ) (all ts : List ℕ) (s w : ℕ) : Type 0 where
  pub a_rule : rule_fault w ≡ None
  pub its_source : source_of w ≡ source_function s
  pub target_there : has_target ts w ≡ true
  pub is_right_lem : is_right (claim_in all ts w) n ≡ true

pub rule_recipe : (w : ℕ) → rule_fault w ≡ None → recipe_fault w ≡ None
unfolding rule_fault
rule_recipe w =
    either (λ (x : Option Fault). x ≡ None → recipe_fault w ≡ None) (not (eqb (kind_of w) RULE))
    (λ _ e. absurd (none-some OutOfSequence (sym e))) (λ _ e. e)

-- no fault, and then the other tests
unfaulted : (o : Option Fault) (q : Bool) → (if is_some o then false else q) ≡ true → (o ≡ None) × (q ≡ true)
unfaulted None q e = (refl, e)
unfaulted (Some fault) q e = absurd (false≢true e)

module _ (n : ℕ) (all ts : List ℕ) where
  -- in the entry of a source nothing stands, or a recipe of it
  pub entry_at : (ss bs : List ℕ) (m : ℕ) → bound_sound n all ts ss bs ≡ true → m < length ss → m < length bs
      → entry_sound n all ts (get_or ss m 0) (get_or bs m 0) ≡ true
  unfolding bound_sound
  entry_at [] bs m e h g = absurd (omega arith)
  entry_at (s ∷ ss) [] m e h g = absurd (omega arith)
  entry_at (s ∷ ss) (w ∷ bs) zero e h g = (both (entry_sound n all ts s w) (bound_sound n all ts ss bs) e).0
  entry_at (s ∷ ss) (w ∷ bs) (suc m) e h g =
      entry_at ss bs m (both (entry_sound n all ts s w) (bound_sound n all ts ss bs) e).1 (omega arith) (omega arith)

  pub recipe_at : (s w : ℕ) → entry_sound n all ts s w ≡ true → (w ≡ 0 → ⊥) → BoundRecipe n all ts s w
  unfolding entry_sound bindable
  recipe_at s w e some =
      let t = if not (has_target ts w) then false else is_right (claim_in all ts w) n in
      let p = unfaulted (rule_fault w) (if not (eqb (source_of w) (source_function s)) then false else t) (rw (ne_eqb w 0 some) at e) in
      let q = both (eqb (source_of w) (source_function s)) t p.1 in
      let r = both (has_target ts w) (is_right (claim_in all ts w) n) q.1 in
      record {
        a_rule = p.0;
        its_source = eqb-true (source_of w) (source_function s) q.0;
        target_there = r.0;
        is_right_lem = r.1;
      }

-- the bindings are the entries that are not empty
bound_some : (bs : List ℕ) (m : ℕ) → m < length (filled bs) → get_or (filled bs) m 0 ≡ 0 → ⊥
unfolding filled
bound_some [] m h e = absurd (omega arith)
bound_some (w ∷ bs) m h e =
    either (λ (l : List ℕ). m < length l → get_or l m 0 ≡ 0 → ⊥) (eqb w 0) (λ _. bound_some bs m)
    (λ z. first_or_later (eqb-false w 0 z) (λ k. bound_some bs k) m) h e
  where
    first_or_later : (w ≡ 0 → ⊥) → ((k : ℕ) → k < length (filled bs) → get_or (filled bs) k 0 ≡ 0 → ⊥)
        → (k : ℕ) → k < suc (length (filled bs)) → get_or (w ∷ filled bs) k 0 ≡ 0 → ⊥
    first_or_later here later zero l = here
    first_or_later here later (suc k) l = later k (omega arith)

-- ---- finishing

pub record Finished (b : Bench) (lent : List ℕ) : Type 0 where
  pub answer : finish_of b lent ≡ gives b (Ok (words_needed b.tables.nsources))
  pub words : lent_after_finish b lent ≡ mapping_on b ++ drop (words_needed b.tables.nsources) lent

module _ (b : Bench) (h : Shaped b) (s : sound_bench b ≡ true) (u : unbound_on b ≡ None) where
  pub binding_number : length (bindings_on b) ≡ b.tables.nsources
  binding_number = sym (bound_taken b h s ∙ ap length (all_bound b h s u))

  -- the binding of a source is a recipe of it
  pub binding_of : (m : ℕ) → m < b.tables.nsources
      → BoundRecipe b.tables.width (sources_on b.tables) (targets_on b.tables) (get_or (sources_on b.tables) m 0) (get_or (bindings_on b) m 0)
  binding_of m l =
      let n = b.tables.width in
      let ss = sources_on b.tables in
      let ts = targets_on b.tables in
      let few = sound_sources b.tables b.bound b.glue s in
      let e : get_or b.bound m 0 ≡ get_or (bindings_on b) m 0
      = sym (get_or-take b.tables.nsources b.bound m 0 l) ∙ ap (λ (x : List ℕ). get_or x m 0) (all_bound b h s u) in
      let there = entry_at n ss ts ss b.bound m (sound_holds b.tables b.bound b.glue s).entries
      (omega (arith, sources_taken b h s)) (omega (arith, h.bound_entries, few)) in
      recipe_at n ss ts (get_or ss m 0) (get_or (bindings_on b) m 0)
      (subst (λ (x : ℕ). entry_sound n ss ts (get_or ss m 0) x ≡ true) e there)
      (bound_some b.bound m (omega (arith, binding_number)))

  pub finishes : (lent : List ℕ) → words_needed b.tables.nsources ≤ length lent → Finished b lent
  unfolding finish_of lent_after_finish written_of
  finishes lent room =
      let n : length (mapping_on b) ≡ words_needed b.tables.nsources
      = mapping_length b.tables.width b.glue (bindings_on b) ∙ ap words_needed binding_number in
      record {
        answer = rw s (rw u (rw (le-ltb (length lent) (words_needed b.tables.nsources) room) refl));
        words =
            rw s
            (rw u
            (written_words (mapping_on b) lent (omega (arith, n)) ∙ ap (λ (x : ℕ). mapping_on b ++ drop x lent) n));
      }

-- ---- where no entry of a source is empty

pub none_empty : (ss bs : List ℕ) → length ss ≤ length bs → ((m : ℕ) → m < length ss → get_or bs m 0 ≡ 0 → ⊥) → first_empty ss bs ≡ None
unfolding first_empty
none_empty [] bs h some = refl
none_empty (s ∷ ss) [] h some = refl
none_empty (s ∷ ss) (w ∷ bs) h some =
    rw (ne_eqb w 0 (some 0 (omega arith))) (none_empty ss bs (omega arith) (λ m l. some (suc m) (omega arith)))
