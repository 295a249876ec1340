-- `table::parts::MappingWords::bindings` meets its contract.
use Rattle.table.proofs.Slices.{bindings_within, bindings_part}
use Rattle.table.proofs.parts.MappingWords.bindings.Goals as goal

pub slice_bounds-result-end : goal.slice_bounds-result-end
slice_bounds-result-end c = search bindings_within

pub returns : goal.returns
returns c = search bindings_part
