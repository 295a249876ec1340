-- What functions below the calls ask of their callers. Nobody has to believe this: each caller proves it.
use Rattle.std.specs.Prelude.{ℕ, ◌≤◌}
use Rattle.sequence.specs.declared.State.{State}

-- no kind was counted more than n times, so that no count wraps
pub record Counted (s : State) (n : ℕ) : Type 0 where
  pub few_sources : s.sources ≤ n
  pub few_targets : s.targets ≤ n
  pub few_rules : s.rules ≤ n
  pub few_bindings : s.bindings ≤ n
