-- `search::search` meets its contract.
use Rattle.search.proofs.Found.{found}
use Rattle.search.proofs.search.Goals as goal

pub returns : goal.returns
returns c = search found
