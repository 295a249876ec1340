-- `glue::code_price` meets its contract.
use Rattle.glue.proofs.Counts.{code_table}
use Rattle.glue.proofs.code_price.Goals as goal

pub returns : goal.returns
returns c = search code_table
