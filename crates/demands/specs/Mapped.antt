-- The words in which the checker's promises are said: document 01, "What a binding shows". "A job or mapping is well formed if none
-- of 1 to 6 below holds of its words. A mapping fits its job if neither 7 nor 8 holds, is complete if 9 does not, and rightly priced
-- if 11 does not."
use Rattle.std.specs.Prelude.{ℕ, ◌+◌, ◌<◌, ◌≤◌, ◌≡◌, true, List, [], ◌∷◌, get_or, eqb, None, Result, Ok, ⊤}
use Rattle.words.specs.Field.{kind_of, source_function}
use Rattle.words.specs.Kinds.{is_recipe}
use Rattle.words.specs.Paper.{port_number, source_place, refused, refused_with}
use Rattle.words.specs.declared.Witness.{Witness}
use Rattle.bits.specs.Bits.{num}
use Rattle.alu.specs.Range.{is_width}
use Rattle.recipe.specs.Fields.{source_of}
use Rattle.layout.specs.Layout.{recipe_fault}
use Rattle.binding.specs.Right.{Right, claim_against}
use Rattle.binding.specs.declared.Claim.{Claim}
use Rattle.verdict.specs.Verdicts.{Differs, is_mark}
use Rattle.reader.specs.Job.{WellFormedJob}
use Rattle.reader.specs.Starts.{sources_start, binding_place}
use Rattle.reader.specs.Mapping.{WellFormedMapping}
use Rattle.reader.specs.declared.Job.{Job}
use Rattle.reader.specs.declared.Mapping.{Mapping}
use Rattle.table.specs.Parts.{bindings_of, Terms, terms_of}
use Rattle.claims.specs.Claim.{claim_in}
use Rattle.fitting.specs.Fitting.{fit_of}
use Rattle.checker.specs.declared.CheckError.{CheckError}
use Rattle.pricer.specs.Pricing.{glue_of}
use Rattle.checker.specs.Check.{paper_of}

-- a word, a width and a mark that the judge is to accept: a rule or a binding that passes 3, 5 and 6, a width, a mark, and the recipe right
-- at that width against its target as marked
pub record RightRecipe (w n mark : ℕ) : Type 0 where
  pub a_recipe : is_recipe (kind_of w) ≡ true
  pub faultless : recipe_fault w ≡ None
  pub a_width : is_width n ≡ true
  pub a_mark : is_mark mark ≡ true
  pub right : Right (claim_against (eqb mark 1) w) n

-- the function of the job's i-th source word, and the mapping's k-th binding
abbrev pub source_at : List ℕ → ℕ → ℕ
source_at job_words i = source_function (get_or job_words (sources_start + i) 0)

abbrev pub binding_at : List ℕ → ℕ → ℕ
binding_at mapping_words k = get_or mapping_words (binding_place k) 0

-- what that binding claims under a job's terms
abbrev pub claim_at : Terms → List ℕ → ℕ → Claim
claim_at t mapping_words k = claim_in t.sources t.targets (binding_at mapping_words k)

-- both are well formed, say this, and the mapping fits
pub record Fitting (job_words mapping_words : List ℕ) (job : Job) (mapping : Mapping) : Type 0 where
  pub job_well_formed : WellFormedJob job_words job
  pub mapping_well_formed : WellFormedMapping mapping_words mapping
  pub fits : fit_of (terms_of job_words job) mapping (bindings_of mapping_words mapping) ≡ Ok tt

-- some binding has the function as its source
abbrev pub Bound : List ℕ → Mapping → ℕ → Type 0
Bound mapping_words mapping f = (k : ℕ) × ((k < mapping.bindings) × (source_of (binding_at mapping_words k) ≡ f))

abbrev pub Complete : List ℕ → List ℕ → Job → Mapping → Type 0
Complete job_words mapping_words job mapping = (i : ℕ) → i < job.sources → Bound mapping_words mapping (source_at job_words i)

-- the k-th binding is right under a job's terms: at its width, for every left, every right and both carries
abbrev pub RightAt : Terms → List ℕ → ℕ → Type 0
RightAt t mapping_words k = Right (claim_at t mapping_words k) t.width

abbrev pub AllRight : Terms → List ℕ → Mapping → Type 0
AllRight t mapping_words mapping = (k : ℕ) → k < mapping.bindings → RightAt t mapping_words k

-- what an accepted mapping is
pub record RightlyMapped (job_words mapping_words : List ℕ) : Type 0 where
  pub job : Job
  pub mapping : Mapping
  pub fitting : Fitting job_words mapping_words job mapping
  pub complete : Complete job_words mapping_words job mapping
  pub all_right : AllRight (terms_of job_words job) mapping_words mapping
  pub rightly_priced : glue_of job (bindings_of mapping_words mapping) ≡ mapping.glue

-- the answer is 9 at the lowest source without a binding
pub record NamesUnbound (job_words mapping_words : List ℕ) (job : Job) (mapping : Mapping) (r : Result ⊤ CheckError) : Type 0 where
  pub at : ℕ
  pub within : at < job.sources
  pub unbound : Bound mapping_words mapping (source_at job_words at) → ⊥
  pub lowest : (i : ℕ) → i < job.sources → (Bound mapping_words mapping (source_at job_words i) → ⊥) → source_at job_words at ≤ source_at job_words i
  pub answer : paper_of r ≡ refused 9 (source_place (source_at job_words at))

-- the answer is 10 at the lowest function whose binding is wrong, with operands in range and the lowest port that differs there
pub record NamesWrong (t : Terms) (mapping_words : List ℕ) (mapping : Mapping) (r : Result ⊤ CheckError) : Type 0 where
  pub at : ℕ
  pub within : at < mapping.bindings
  pub wrong : RightAt t mapping_words at → ⊥
  pub lowest : (k : ℕ) → k < mapping.bindings → (RightAt t mapping_words k → ⊥)
      → source_of (binding_at mapping_words at) ≤ source_of (binding_at mapping_words k)
  pub values : Witness
  pub answer : paper_of r
      ≡ refused_with 10 (source_place (source_of (binding_at mapping_words at)))
      (port_number values.port ∷ values.left ∷ values.right ∷ num values.carry ∷ [])
  pub differs : Differs (claim_at t mapping_words at) t.width values
