-- A job's bench with every source bound: what it writes is what an accepted mapping is, and of the mapper's choice it is what the
-- mapper writes. A refused finish writes nothing.
use mathlib.Core.Path.{◌≡◌, refl, sym, ap, subst, ◌∙◌}
use mathlib.Core.Bool.{Bool, true, false, not, true≢false}
use mathlib.Core.List.{List}
use Prim.Native.Nat.{ℕ, ◌<◌}
use native.Mathlib.Omega.{arith}
use lib.Dec.{ltb}
use lib.ListN.{length, get_or, get_or-append}
use borrow.Author.Tests.{ltb-true}
use Rattle.std.specs.Prelude.{if◌then◌else◌, is_ok, Option, None, Some, Result, Ok, Err}
use Rattle.words.specs.Paper.{refusal}
use Rattle.sequence.specs.Limits.{most_sources}
use Rattle.reader.specs.Job.{WellFormedJob}
use Rattle.reader.specs.declared.Job.{Job}
use Rattle.wellformed.proofs.JobWords.{well_formed}
use Rattle.pricer.specs.Pricing.{glue_of}
use Rattle.writer.specs.Write.{words_needed, written_of, lent_after}
use Rattle.words.specs.declared.Refusal.{Refusal}
use Rattle.writer.proofs.Writing.{mapping_length, untouched}
use Rattle.mapper.specs.Mapping.{choice_of, chosen_words, answer_of}
use Rattle.mapper.specs.Mapping as mapper
use Rattle.soundness.specs.Sound.{sources_on, glue_on}
use Rattle.opening.specs.Opening.{table_of}
use Rattle.bench.specs.Calls.{sound_bench, holding, bindings_on, opened, unbound_on, finish_written, finish_for, lent_for, mapping_on, finish_of, lent_after_finish, number_paper_of}
use Rattle.bench.specs.Shape.{Shaped}
use Rattle.bench.specs.declared.Bench.{Bench}
use Rattle.bench.specs.declared.CallError.TheVariants.{Refused}
use Rattle.bench.proofs.Finishing.{all_bound}
use Rattle.demands.specs.Mapped.{RightlyMapped}
use Rattle.demands.specs.Benches.{BenchOf}
use Rattle.mapper.proofs.Answering.{sources_length}
use Rattle.demands.proofs.OpenedSound.{table_words_lem}
use Rattle.demands.proofs.Allowed.{rule_some}
use Rattle.demands.proofs.Finished.{none_empty, binding_number}
use Rattle.demands.proofs.Accepted.{rightly_mapped}
use Rattle.demands.proofs.Benches.{same_sources, shaped, all_bindable}
use Rattle.demands.proofs.AnyOrder.{size, is_rule}
use Rattle.words.specs.declared.Fault.TheVariants.{NotSound, TooFewWords}

module _ (ws : List ℕ) (job : Job) (e : WellFormedJob ws job) (b : Bench) (o : BenchOf ws job b) where
  pub bench_shaped : Shaped b
  bench_shaped = subst Shaped (sym o.as_opened) (shaped ws job e b.bound o.entries)

  pub same_words : mapping_on b ≡ chosen_words job (bindings_on b)
  unfolding glue_on
  same_words = ap (λ (x : Bench). mapping_on x) o.as_opened

  pub bound_rightly_mapped : unbound_on b ≡ None → RightlyMapped ws (mapping_on b)
  bound_rightly_mapped u =
      subst (RightlyMapped ws) (sym same_words) (rightly_mapped ws job e (bindings_on b) (all_bindable ws job e b o u))

-- ---- the bench that holds the mapper's choice

module _ (ws : List ℕ) (job : Job) (e : WellFormedJob ws job) (bound : List ℕ) (eb : choice_of ws job ≡ Ok bound)
    (o : BenchOf ws job (holding (opened ws job) (table_of most_sources bound))) where
  abbrev chosen : Bench
  chosen = holding (opened ws job) (table_of most_sources bound)

  chosen_at : (k : ℕ) → k < length bound → get_or (table_of most_sources bound) k 0 ≡ get_or bound k 0
  unfolding table_of
  chosen_at k h = get_or-append bound _ 0 k h

  all_held : unbound_on chosen ≡ None
  all_held =
      let n : length (sources_on chosen.tables) ≡ length bound
      = ap length (same_sources ws job e) ∙ sources_length ws job e ∙ sym (size ws job e bound eb) in
      none_empty (sources_on chosen.tables) (table_of most_sources bound)
      (omega (arith, n, size ws job e bound eb, (well_formed ws job e).sources_most, o.entries))
      (λ k h z.
      let h' : k < length bound = omega (arith, n) in
      rule_some (get_or bound k 0) (is_rule ws job e bound eb k h') (sym (chosen_at k h') ∙ z))

  held : bindings_on chosen ≡ bound
  held =
      sym (all_bound chosen (bench_shaped ws job e chosen o) o.sound all_held)
      ∙ table_words_lem most_sources bound job.sources (size ws job e bound eb)

  -- its count is the mapper's
  pub same_count : chosen.glue ≡ glue_of job bound
  unfolding glue_on
  same_count = ap (glue_of job) held

  same_paper : (r : Result ℕ Refusal) → number_paper_of (finish_written r) ≡ mapper.paper_of r
  same_paper (Ok n) = refl
  same_paper (Err r) = refl

  pub same_answer : (lent : List ℕ) → number_paper_of (finish_of chosen lent).answer ≡ mapper.paper_of (answer_of ws lent)
  unfolding finish_of answer_of
  same_answer lent =
      rw o.sound
      (rw all_held
      (rw e (rw eb (rw (size ws job e bound eb) (same_paper (written_of job.sources lent))))))

  pub same_lent : (lent : List ℕ) → lent_after_finish chosen lent ≡ mapper.lent_after_map ws lent
  unfolding lent_after_finish mapper.lent_after_map
  same_lent lent =
      rw o.sound
      (rw all_held
      (rw e (rw eb (ap (λ (l : List ℕ). lent_after l lent) (same_words ws job e chosen o ∙ ap (chosen_words job) held)))))

-- ---- a refused finish

module _ (b : Bench) (h : Shaped b) (lent : List ℕ) where
  pub refused-lent : is_ok (finish_of b lent).answer ≡ false → lent_after_finish b lent ≡ lent
  unfolding finish_of lent_after_finish written_of
  refused-lent e = by_soundness (sound_bench b) refl (unbound_on b) refl e
    where
      too_few : sound_bench b ≡ true → unbound_on b ≡ None → (c : Bool) → ltb (length lent) (words_needed b.tables.nsources) ≡ c
          → is_ok (finish_written (if c then Err (refusal TooFewWords (words_needed b.tables.nsources)) else Ok (words_needed b.tables.nsources)))
          ≡ false
          → lent_after (mapping_on b) lent ≡ lent
      too_few s u true z e =
          untouched (mapping_on b) lent
          (omega (
            arith,
            ltb-true (length lent) (words_needed b.tables.nsources) z,
            mapping_length b.tables.width b.glue (bindings_on b),
            binding_number b h s u,
          ))
      too_few s u false z e = absurd (true≢false e)

      by_soundness : (p : Bool) → sound_bench b ≡ p → (q : Option ℕ) → unbound_on b ≡ q
          → is_ok (if not p then Err (Refused (refusal NotSound 0)) else finish_for b lent q) ≡ false
          → (if not p then lent else lent_for b lent q) ≡ lent
      by_soundness true s None u e = too_few s u (ltb (length lent) (words_needed b.tables.nsources)) refl e
      by_soundness true s (Some f) u e = refl
      by_soundness false s q u e = refl
