-- A mapping written out of usable rules, one for each source of a job, is what an accepted mapping is.
use mathlib.Core.Path.{◌≡◌, refl, sym, ap, ◌∙◌}
use mathlib.Core.Bool.{true}
use mathlib.Core.List.{List}
use Prim.Native.Nat.{ℕ, ◌<◌}
use native.Mathlib.Omega.{arith}
use lib.ListN.{length, get_or}
use Rattle.recipe.specs.Fields.{source_of}
use Rattle.binding.specs.Right.{is_right}
use Rattle.binding.specs.declared.Claim.{Claim}
use Rattle.binding.proofs.Tests.{right_test}
use Rattle.reader.specs.Job.{WellFormedJob}
use Rattle.reader.specs.Starts.{bindings_start}
use Rattle.reader.specs.declared.Job.{Job}
use Rattle.table.specs.Parts.{sources_of, targets_of, bindings_of, terms_of}
use Rattle.table.specs.Table.{lists_source, in_job}
use Rattle.claims.specs.Claim.{claim_in}
use Rattle.table.proofs.Entries as entries
use Rattle.fitting.specs.Fitting.{fit_of}
use Rattle.std.specs.Prelude.{Ok}
use Rattle.fitting.proofs.Fitted.{fits_exactly}
use Rattle.pricer.specs.Pricing.{glue_of}
use Rattle.writer.specs.Write.{binding_word, binding_words}
use Rattle.writer.proofs.Writing.{bindings_length, bindings_at}
use Rattle.mapper.specs.Mapping.{chosen_words}
use Rattle.mapper.proofs.Answering.{sources_length}
use Rattle.demands.specs.Mapped.{binding_at, claim_at, RightAt, RightlyMapped}
use Rattle.demands.proofs.Parts.{part_at, source_at_lem}
use Rattle.demands.proofs.Content.{source_same, has_target-same, claim_same, glue_of-bindings}
use Rattle.demands.proofs.Written.{Bindable, written, reads_back, same_bindings}

module _ (ws : List ℕ) (job : Job) (e : WellFormedJob ws job) (bound : List ℕ) (b : Bindable ws job bound) where
  -- the k-th binding that is written
  binding_is : (k : ℕ) → k < length bound → binding_at (chosen_words job bound) k ≡ binding_word (get_or bound k 0)
  binding_is k h =
      let l = bindings_length bound in
      sym (part_at (chosen_words job bound) bindings_start (length (binding_words bound)) k (omega arith))
      ∙ ap (λ (x : List ℕ). get_or x k 0) (same_bindings ws job e bound b) ∙ bindings_at bound k h

  pub source_listed : (k : ℕ) → k < length bound → lists_source (sources_of ws job) (source_of (get_or bound k 0)) ≡ true
  source_listed k h =
      let n = b.one_each in
      let l = sources_length ws job e in
      rw (b.its_source k h ∙ sym (source_at_lem ws job k (omega arith))) (entries.source_listed (sources_of ws job) k (omega arith))

  in_job_lem : (k : ℕ) → k < length (binding_words bound) → in_job (sources_of ws job) (targets_of ws job) (get_or (binding_words bound) k 0) ≡ true
  in_job_lem k h =
      let k' : k < length bound = omega (arith, bindings_length bound) in
      let w = get_or bound k 0 in
      ap (in_job (sources_of ws job) (targets_of ws job)) (bindings_at bound k k')
      ∙ entries.in_job-when (sources_of ws job) (targets_of ws job) (binding_word w)
      (ap (lists_source (sources_of ws job)) (source_same w) ∙ source_listed k k')
      (has_target-same w (targets_of ws job) ∙ b.target_there k k')

  fits : fit_of (terms_of ws job) (written ws job e bound b) (bindings_of (chosen_words job bound) (written ws job e bound b)) ≡ Ok tt
  fits =
      rw (same_bindings ws job e bound b)
      ((fits_exactly (terms_of ws job) (written ws job e bound b) (binding_words bound)).1 (refl, in_job_lem))

  all_right : (k : ℕ) → k < length (binding_words bound) → RightAt (terms_of ws job) (chosen_words job bound) k
  all_right k h =
      let k' : k < length bound = omega (arith, bindings_length bound) in
      let c = claim_at (terms_of ws job) (chosen_words job bound) k in
      (right_test c.source c.recipe job.width).0
      (ap (λ (x : Claim). is_right x job.width)
      (ap (claim_in (sources_of ws job) (targets_of ws job)) (binding_is k k')
      ∙ claim_same (get_or bound k 0) (sources_of ws job) (targets_of ws job))
      ∙ b.is_right_lem k k')

  pub rightly_mapped : RightlyMapped ws (chosen_words job bound)
  rightly_mapped =
      record {
        job = job;
        mapping = written ws job e bound b;
        fitting = record { job_well_formed = e; mapping_well_formed = reads_back ws job e bound b; fits = fits };
        complete =
            λ i h.
            let l = bindings_length bound in
            let k : i < length bound = omega (arith, b.one_each) in
            (i, (omega arith, ap source_of (binding_is i k) ∙ source_same (get_or bound i 0) ∙ b.its_source i k));
        all_right = all_right;
        rightly_priced =
            ap (glue_of job) (same_bindings ws job e bound b) ∙ glue_of-bindings job.width job.prices bound;
      }
