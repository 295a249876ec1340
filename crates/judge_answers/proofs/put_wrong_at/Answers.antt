-- `judge_answers::put_wrong_at` meets its contract.
use Rattle.std.proofs.lemmas.List.{append_assoc}
use Rattle.judge_answers.proofs.put_wrong_at.Goals as goal

pub returns-clause-text : goal.returns-clause-text
returns-clause-text g c = rw (c.put.ensures, c.put_witness.ensures.text, c.put_labelled.ensures.text) (simp append_assoc)
