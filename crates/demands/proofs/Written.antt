-- A mapping written out of rules, one for each source of a job: it reads back with the same width, bindings and glue count.
use mathlib.Core.Path.{◌≡◌, sym, ap, ◌∙◌, subst}
use mathlib.Core.Bool.{true}
use mathlib.Core.List.{List, [], ◌∷◌}
use Prim.Native.Nat.{ℕ, ◌+◌, ◌^◌, ◌<◌}
use native.Mathlib.Omega.{arith}
use lib.ListN.{length, get_or}
use lib.Seq.{take-append_seam}
use Rattle.std.specs.Prelude.{None}
use Rattle.words.specs.Field.{word_of}
use Rattle.words.specs.Kinds.{GLUE, BINDING}
use Rattle.recipe.specs.Fields.{source_of}
use Rattle.layout.specs.Layout.{recipe_fault}
use Rattle.binding.specs.Right.{is_right}
use Rattle.reader.specs.Job.{WellFormedJob}
use Rattle.reader.specs.Mapping.{WellFormedMapping}
use Rattle.reader.specs.declared.Job.{Job}
use Rattle.reader.specs.declared.Mapping.{Mapping}
use Rattle.wellformed.proofs.Parts.{RecipeWord}
use Rattle.wellformed.proofs.JobWords.{JobFacts, well_formed}
use Rattle.wellformed.proofs.MappingWords.{MappingFacts}
use Rattle.wellformed.proofs.MappingAccepting.{accepts, laid_well_formed}
use Rattle.table.specs.Parts.{sources_of, targets_of, bindings_of}
use Rattle.table.specs.Table.{has_target}
use Rattle.claims.specs.Claim.{claim_in}
use Rattle.glue.proofs.Bounds.{glue_fits_lem}
use Rattle.pricer.specs.Pricing.{glue_of}
use Rattle.writer.specs.Write.{binding_word, binding_words}
use Rattle.writer.proofs.Writing.{bindings_length, bindings_at}
use Rattle.mapper.specs.Mapping.{chosen_words}
use Rattle.demands.specs.Mapped.{source_at}
use Rattle.demands.proofs.Content.{binding_kind, source_same, fault_same}

-- one usable rule for each source of a job, in table order
pub record Bindable (ws : List ℕ) (job : Job) (bound : List ℕ) : Type 0 where
  pub one_each : length bound ≡ job.sources
  pub its_source : (k : ℕ) → k < length bound → source_of (get_or bound k 0) ≡ source_at ws k
  pub faultless : (k : ℕ) → k < length bound → recipe_fault (get_or bound k 0) ≡ None
  pub target_there : (k : ℕ) → k < length bound → has_target (targets_of ws job) (get_or bound k 0) ≡ true
  pub is_right_lem : (k : ℕ) → k < length bound → is_right (claim_in (sources_of ws job) (targets_of ws job) (get_or bound k 0)) job.width ≡ true

module _ (ws : List ℕ) (job : Job) (e : WellFormedJob ws job) (bound : List ℕ) (b : Bindable ws job bound) where
  facts : JobFacts ws job
  facts = well_formed ws job e

  count_fits : glue_of job bound < 2 ^ 28
  count_fits =
      glue_fits_lem job.width job.prices bound facts.width_most
      (record { inverter_fits = facts.inverter_most; gate_fits = facts.gate_most; multiplexer_fits = facts.multiplexer_most })

  binding_at_lem : (k : ℕ) → k < length (binding_words bound) → get_or (binding_words bound) k 0 ≡ binding_word (get_or bound k 0)
  binding_at_lem k h = bindings_at bound k (omega (arith, bindings_length bound))

  abbrev pub written : Mapping
  written = record { width = job.width; bindings = length (binding_words bound); glue = glue_of job bound }

  well_written : MappingFacts (chosen_words job bound) written
  well_written =
      laid_well_formed job.width (glue_of job bound) (binding_words bound)
      facts.width_least facts.width_most count_fits (omega (arith, bindings_length bound, b.one_each, facts.sources_most))
      (λ k h. subst (RecipeWord BINDING) (sym (binding_at_lem k h))
      (record {
        kind_is = binding_kind (get_or bound k 0);
        no_fault = fault_same (get_or bound k 0) ∙ b.faultless k (omega (arith, bindings_length bound));
      }))
      (λ k h.
      let l = bindings_length bound in
      let here : source_of (get_or (binding_words bound) k 0) ≡ source_at ws k =
      ap source_of (binding_at_lem k (omega arith)) ∙ source_same (get_or bound k 0) ∙ b.its_source k (omega arith) in
      let next : source_of (get_or (binding_words bound) (k + 1) 0) ≡ source_at ws (k + 1) =
      ap source_of (binding_at_lem (k + 1) h) ∙ source_same (get_or bound (k + 1) 0) ∙ b.its_source (k + 1) (omega arith) in
      omega (arith, here, next, facts.sources_rise k (omega (arith, b.one_each))))

  pub reads_back : WellFormedMapping (chosen_words job bound) written
  reads_back = accepts (chosen_words job bound) written well_written

  pub same_bindings : bindings_of (chosen_words job bound) written ≡ binding_words bound
  same_bindings = take-append_seam (binding_words bound) (word_of GLUE (glue_of job bound) ∷ [])
