-- `table::in_job` meets its contract.
use borrow.Author.Rules.{rules}
use Rattle.std.proofs.Common.{tests}
use Rattle.std.proofs.lemmas.Iterator.{YieldsList-from_slice}
use Rattle.std.proofs.lemmas.Iterator.Search.{any_from_yields_List}
use Rattle.table.specs.Table.{lists_source}
use Rattle.table.proofs.Entries.{source_absent}
use Rattle.table.proofs.in_job.Goals as goal

pub returns-else-any : goal.returns-else-any
unfolding lists_source
returns-else-any c =
    source_absent c.args.sources.now c.args.targets.now c.args.word _ c.source_of-source.ensures _
    (any_from_yields_List _ _ _ _ c.any.ensures.ran (YieldsList-from_slice c.args.sources.now cc) (λ x b q k. search (rules, tests)))
    c.if-any.false
