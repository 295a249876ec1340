-- `soundness::reading::read_tables` meets its contract.
use Rattle.soundness.proofs.Copying.{job_words}
use Rattle.soundness.proofs.reading.read_tables.Goals as goal

pub returns : goal.returns
returns c =
    let tables = c.args.in_range.now in
    job_words tables.tables.now c.terms-terms.result c.terms-terms.ensures _ _ _ _ _ tables.few_sources tables.few_targets
    c.word.ensures c.prices_word.ensures c.copy.ensures c.copy-2.ensures c.read_job.ensures
