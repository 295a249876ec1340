-- `table::parts::JobWords::terms` meets its contract.
use Rattle.table.proofs.Slices.{sources_within, targets_within}
use Rattle.table.proofs.parts.JobWords.terms.Goals as goal

pub slice_bounds-result-end : goal.slice_bounds-result-end
slice_bounds-result-end c = search sources_within

pub slice_bounds-result-end-2 : goal.slice_bounds-result-end-2
slice_bounds-result-end-2 c = search targets_within
