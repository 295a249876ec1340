-- How the code keeps its choice. Nobody has to believe this: Choose.antt says what the choice is.
use Rattle.std.specs.Prelude.{ℕ, ◌+◌, ◌^◌, ◌<◌, ◌≤◌, ◌≡◌, List, length, take, Result, Ok, Err, IfOk}
use Rattle.bits.specs.Asked.{Width}
use Rattle.sequence.specs.Limits.{most_sources}
use Rattle.reader.specs.declared.Job.{Job}
use Rattle.usage.specs.Sets.{usage}
use Rattle.choice.specs.declared.Chosen.{Chosen}

-- a choice of so many sources as the code keeps it
abbrev pub kept_as : Result Chosen ℕ → ℕ → Result (List ℕ) ℕ
kept_as (Ok c) sources = Ok (take sources c.words)
kept_as (Err f) sources = Err f

-- the choice, and what its bindings use
pub record KeptChoice (r : Result Chosen ℕ) (sources : ℕ) (choice : Result (List ℕ) ℕ) : Type 0 where
  pub same : kept_as r sources ≡ choice
  pub size : IfOk r (λ c. length c.words ≡ most_sources)
  pub uses : IfOk r (λ c. c.used ≡ usage (take sources c.words))

-- what the choice asks of its caller besides: so few rules, the book's included, that counting them does not wrap
abbrev pub FewRules : List ℕ → List ℕ → Type 0
FewRules rules book = length rules + length book < 2 ^ 32

-- what the writing of a choice asks of its caller
pub record WritableChoice (job : Job) (c : Chosen) : Type 0 where
  pub width : Width job.width
  pub few : job.sources ≤ most_sources
  pub size : length c.words ≡ most_sources
  pub uses : c.used ≡ usage (take job.sources c.words)
