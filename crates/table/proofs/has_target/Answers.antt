-- `table::has_target` meets its contract.
use borrow.Author.Rules.{rules}
use Rattle.std.proofs.Common.{tests}
use Rattle.std.proofs.lemmas.Iterator.{YieldsList-from_slice}
use Rattle.std.proofs.lemmas.Iterator.Search.{any_from_yields_List}
use Rattle.table.specs.Table.{lists_target}
use Rattle.table.proofs.Entries.{from_target_lem}
use Rattle.table.proofs.has_target.Goals as goal

pub returns-else-from_scratch : goal.returns-else-from_scratch
unfolding lists_target
returns-else-from_scratch c =
    from_target_lem c.args.targets.now c.args.word _ c.from_scratch.ensures _ _ c.if-from_scratch.false c.target_of-target.ensures
    (any_from_yields_List _ _ _ _ c.any.ensures.ran (YieldsList-from_slice c.args.targets.now cc) (λ x b q k. search (rules, tests)))
