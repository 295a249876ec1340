-- `table::parts::JobWords::rules` meets its contract.
use borrow.Author.Rules.{rules}
use Rattle.table.proofs.Slices.{rules_within}
use Rattle.table.proofs.parts.JobWords.rules.Goals as goal

pub offset_bounds-self-start : goal.offset_bounds-self-start
offset_bounds-self-start c =
    let within = rules_within _ _ c.args.self.now.well_formed _ c.rules_start-start.ensures in
    search (rules, within)

pub slice_bounds-result-count : goal.slice_bounds-result-count
slice_bounds-result-count c = search rules_within

pub slice_bounds-result-start : goal.slice_bounds-result-start
slice_bounds-result-start c = search rules_within
