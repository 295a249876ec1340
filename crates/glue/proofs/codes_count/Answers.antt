-- `glue::codes_count` meets its contract.
use native.Mathlib.Omega.{arith}
use Rattle.glue.proofs.Counts.{next_code, codes-fit, all_codes, codes-most}
use Rattle.glue.specs.Asked.{InRange}
use Rattle.glue.proofs.codes_count.Goals as goal

pub overflow_add-total : goal.overflow_add-total
overflow_add-total c = let g : InRange c.args.prices = omega arith in search codes-fit

pub loop-code-preserved : goal.loop-code-preserved
loop-code-preserved c = search next_code

pub returns : goal.returns
returns c = let g : InRange c.args.prices = omega arith in (search all_codes, search codes-most)
