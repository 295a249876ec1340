-- The words in which the mapper's promises are said: document 01, "Mapper and bench". "A rule is usable if its target is 0 or in the
-- job and its recipe is right. Sources are taken in order; each gets the usable rule that makes the glue of the bindings so far least,
-- the earlier rule on equal glue."
use Rattle.std.specs.Prelude.{ℕ, ◌<◌, ◌≤◌, ◌≡◌, true, false, List, [], ◌∷◌, ◌++◌, length, take, drop, get_or, Ok}
use Rattle.words.specs.Paper.{source_place, accepted}
use Rattle.recipe.specs.Fields.{source_of, target_of, from_scratch}
use Rattle.book.specs.Book.{book}
use Rattle.reader.specs.Job.{WellFormedJob}
use Rattle.reader.specs.declared.Job.{Job}
use Rattle.table.specs.Parts.{Terms, terms_of}
use Rattle.table.specs.Table.{has_target, lists_negated}
use Rattle.writer.specs.Write.{words_needed}
use Rattle.best.specs.Best.{serves}
use Rattle.choice.specs.Choose.{with_rule}
use Rattle.mapper.specs.Mapping.{rules_for, choice_of, chosen_words, answer_of, lent_after_map, paper_of}
use Rattle.demands.specs.Mapped.{source_at}

-- some rule of the list is usable for the function
pub record Served (t : Terms) (f : ℕ) (rules : List ℕ) : Type 0 where
  pub index : ℕ
  pub within : index < length rules
  pub is_served : serves t f (get_or rules index 0) ≡ true

-- w is a rule of the list and usable for the function, no usable rule makes less glue, and none before it as little
pub record Least (glue_with : ℕ → ℕ) (t : Terms) (f : ℕ) (rules : List ℕ) (w : ℕ) : Type 0 where
  pub index : ℕ
  pub within : index < length rules
  pub is_rule : get_or rules index 0 ≡ w
  pub usable-rule : serves t f w ≡ true
  pub none_less : (i : ℕ) → i < length rules → serves t f (get_or rules i 0) ≡ true → glue_with w ≤ glue_with (get_or rules i 0)
  pub none_earlier : (i : ℕ) → i < index → serves t f (get_or rules i 0) ≡ true → glue_with w < glue_with (get_or rules i 0)

-- the book has a rule for the function, from scratch or from one of these targets that is not negated
pub record BookHas (targets : List ℕ) (f : ℕ) : Type 0 where
  pub index : ℕ
  pub within : index < length book
  pub its_source : source_of (get_or book index 0) ≡ f
  pub target_there : has_target targets (get_or book index 0) ≡ true
  pub target_plain : from_scratch (get_or book index 0) ≡ false → lists_negated targets (target_of (get_or book index 0)) ≡ false

-- ---- of a job's k-th source

-- some rule of the job or, where it asks for it, of the book is usable for it
abbrev pub ServedAt : List ℕ → Job → ℕ → Type 0
ServedAt ws job k = Served (terms_of ws job) (source_at ws k) (rules_for ws job)

-- of the rules bound, one for each source, its rule makes the least glue with those bound before it
abbrev pub LeastAt : List ℕ → Job → List ℕ → ℕ → Type 0
LeastAt ws job bound k =
    Least (with_rule (terms_of ws job) (take k bound)) (terms_of ws job) (source_at ws k) (rules_for ws job) (get_or bound k 0)

-- "12. Unmappable; place: lowest function without a usable rule." It is the first of the sources without one.
pub record LowestUnserved (ws : List ℕ) (job : Job) (place : ℕ) : Type 0 where
  pub index : ℕ
  pub within : index < job.sources
  pub is_place : source_place (source_at ws index) ≡ place
  pub unserved : ServedAt ws job index → ⊥
  pub earlier_served : (i : ℕ) → i < index → ServedAt ws job i
  pub lowest : (k : ℕ) → k < job.sources → (ServedAt ws job k → ⊥) → source_at ws index ≤ source_at ws k

-- ---- of a job

-- it is well formed and every source of it has a usable rule
pub record Mappable (ws : List ℕ) : Type 0 where
  pub job : Job
  pub well_formed : WellFormedJob ws job
  pub each_served : (k : ℕ) → k < job.sources → ServedAt ws job k

-- a mapping was written: document 01's choice for each source
pub record Maps (ws lent : List ℕ) : Type 0 where
  pub job : Job
  pub well_formed : WellFormedJob ws job
  pub bound : List ℕ
  pub choice : choice_of ws job ≡ Ok bound
  pub enough : words_needed job.sources ≤ length lent
  pub answer : paper_of (answer_of ws lent) ≡ accepted (words_needed job.sources ∷ [])
  pub lent_after : lent_after_map ws lent ≡ chosen_words job bound ++ drop (words_needed job.sources) lent
