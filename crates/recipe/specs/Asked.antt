-- What packing asks of its caller. Nobody has to believe this: each caller proves it.
use Rattle.std.specs.Prelude.{ℕ, ◌^◌, ◌<◌}
use Rattle.recipe.specs.declared.Fields.{Fields}

-- each number fits its bits
pub record Fit (kind : ℕ) (r : Fields) : Type 0 where
  pub kind_fits : kind < 2 ^ 4
  pub source_fits : r.source < 2 ^ 5
  pub target_fits : r.target < 2 ^ 5
  pub left_fits : r.left < 2 ^ 3
  pub right_fits : r.right < 2 ^ 3
  pub carry_fits : r.carry < 2 ^ 2
  pub main_fits : r.main < 2 ^ 2
  pub cout_fits : r.cout < 2 ^ 2
  pub ovf_fits : r.ovf < 2 ^ 1
  pub blank_fits : r.blank < 2 ^ 1
  pub code_fits : r.code < 2 ^ 4
