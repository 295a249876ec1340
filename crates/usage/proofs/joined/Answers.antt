-- `usage::joined` meets its contract.
use borrow.Author.Rules.{rules}
use Rattle.usage.proofs.Joining.{all_joined}
use Rattle.usage.proofs.joined.Goals as goal

pub returns : goal.returns
returns c = rw (← all_joined) (search rules)
