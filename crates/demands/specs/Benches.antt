-- The words in which the bench's promises are said: document 01, "Mapper and bench", and requests #102 and #103.
use Rattle.std.specs.Prelude.{ℕ, ◌<◌, ◌≤◌, ◌≡◌, true, List, [], ◌∷◌, ◌++◌, length, take, drop, get_or, Result, ⊤}
use Rattle.words.specs.Field.{source_function}
use Rattle.words.specs.Paper.{source_place, accepted, refused}
use Rattle.recipe.specs.Fields.{source_of}
use Rattle.sequence.specs.Limits.{most_sources}
use Rattle.reader.specs.Starts.{bindings_start}
use Rattle.reader.specs.Mapping.{mapping_of}
use Rattle.reader.specs.Mapping as reader
use Rattle.reader.specs.declared.Job.{Job}
use Rattle.writer.specs.Write.{binding_words, words_needed}
use Rattle.checker.specs.Check.{Checks}
use Rattle.checker.specs.Check as checker
use Rattle.checker.specs.declared.CheckError.{CheckError}
use Rattle.soundness.specs.Sound.{nothing, sources_on, glue_on}
use Rattle.bench.specs.Calls.{sound_bench, bindings_on, holding, opened, open_of, Binds, release_of, price_of, mapping_on, finish_of, lent_after_finish, paper_of, number_paper_of}
use Rattle.bench.specs.declared.Bench.{Bench}
use Rattle.bench.specs.declared.After.{After}

-- what the calls come to from opening a job's words on, whatever they answer
pub data Reached (ws : List ℕ) : Bench → Type 0 where
  opening : Reached ws (open_of ws).bench
  binding : {b : Bench} (w : ℕ) (r : After ⊤) → Reached ws b → Binds b w r → Reached ws r.bench
  releasing : {b : Bench} (f : ℕ) → Reached ws b → Reached ws (release_of b f).bench
  pricing : {b : Bench} → Reached ws b → Reached ws (price_of b).bench
  finishing : {b : Bench} (lent : List ℕ) → Reached ws b → Reached ws (finish_of b lent).bench

-- a sound bench that has the tables of a job, as the opened one has them
pub record BenchOf (ws : List ℕ) (job : Job) (b : Bench) : Type 0 where
  pub as_opened : b ≡ holding (opened ws job) b.bound
  pub entries : length b.bound ≡ most_sources
  pub sound : sound_bench b ≡ true

-- these words are bound one after another, and every bind is accepted
abbrev pub BindsAll : Bench → List ℕ → Bench → Type 0
BindsAll b [] end = end ≡ b
BindsAll b (w ∷ ws) end = (r : After ⊤) × (Binds b w r × ((paper_of r.answer ≡ accepted []) × BindsAll r.bench ws end))

-- the mapping of a bench is written, and the checker accepts it with the job
pub record Finishes (ws : List ℕ) (job : Job) (b : Bench) (lent : List ℕ) : Type 0 where
  pub answer : number_paper_of (finish_of b lent).answer ≡ accepted (words_needed job.sources ∷ [])
  pub bench_after : (finish_of b lent).bench ≡ b
  pub lent_after : lent_after_finish b lent ≡ mapping_on b ++ drop (words_needed job.sources) lent
  pub accepted_with_job : (r : Result ⊤ CheckError) → Checks ws (mapping_on b) r → checker.paper_of r ≡ accepted []

-- the function of a bench's k-th source, and what is bound to it
abbrev pub function_on : Bench → ℕ → ℕ
function_on b k = source_function (get_or (sources_on b.tables) k 0)

abbrev pub entry_on : Bench → ℕ → ℕ
entry_on b k = get_or b.bound k nothing

-- "A bind adds just its own binding": in the entry of its source, where nothing was, and nothing else of the bench but its count
pub record Adds (b : Bench) (w : ℕ) (after : Bench) : Type 0 where
  pub entry : ℕ
  pub within : entry < b.tables.nsources
  pub its_source : function_on b entry ≡ source_of w
  pub was_empty : entry_on b entry ≡ nothing
  pub holds_it : entry_on after entry ≡ w
  pub others_same : (k : ℕ) → (k ≡ entry → ⊥) → entry_on after k ≡ entry_on b k
  pub entries_same : length after.bound ≡ length b.bound
  pub tables_same : after.tables ≡ b.tables
  pub count : after.glue ≡ glue_on after.tables after.bound

-- something is bound to a function: in the entry of a source that has it
pub record BoundTo (b : Bench) (f : ℕ) : Type 0 where
  pub entry : ℕ
  pub within : entry < b.tables.nsources
  pub its_source : function_on b entry ≡ f
  pub not_empty : entry_on b entry ≡ nothing → ⊥

-- a release takes off just that binding: nothing is left in its entry, and nothing else of the bench changes but its count
pub record Removes (b : Bench) (f : ℕ) (after : Bench) : Type 0 where
  pub bound_to : BoundTo b f
  pub is_empty : entry_on after bound_to.entry ≡ nothing
  pub others_same : (k : ℕ) → (k ≡ bound_to.entry → ⊥) → entry_on after k ≡ entry_on b k
  pub entries_same : length after.bound ≡ length b.bound
  pub tables_same : after.tables ≡ b.tables
  pub count : after.glue ≡ glue_on after.tables after.bound

-- "20. Bench not sound; place 0. Before all others.": every call that takes the bench is refused so, whatever else is handed in
pub record RefusesAll (b : Bench) : Type 0 where
  pub binds : (w : ℕ) (r : After ⊤) → Binds b w r → paper_of r.answer ≡ refused 20 0
  pub releases : (f : ℕ) → paper_of (release_of b f).answer ≡ refused 20 0
  pub prices : number_paper_of (price_of b).answer ≡ refused 20 0
  pub finishes : (lent : List ℕ) → number_paper_of (finish_of b lent).answer ≡ refused 20 0

-- words read back to a bench's bindings and count
pub record ReadsBack (b : Bench) (words : List ℕ) : Type 0 where
  pub answer : reader.paper_of (mapping_of words) ≡ accepted (b.tables.width ∷ b.tables.nsources ∷ b.glue ∷ [])
  pub bindings : take b.tables.nsources (drop bindings_start words) ≡ binding_words (bindings_on b)

-- "22. Finish: source unbound; place: lowest."
pub record LowestUnbound (b : Bench) (place : ℕ) : Type 0 where
  pub index : ℕ
  pub within : index < b.tables.nsources
  pub unbound : entry_on b index ≡ nothing
  pub is_place : source_place (function_on b index) ≡ place
  pub lowest : (k : ℕ) → k < b.tables.nsources → entry_on b k ≡ nothing → function_on b index ≤ function_on b k
