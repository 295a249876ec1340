-- `describe::recipes::put_outputs` meets its contract.
use Rattle.std.proofs.lemmas.List.{append_assoc}
use Rattle.describe.specs.Describe.{outputs_text}
use Rattle.describe.proofs.recipes.put_outputs.Goals as goal

pub returns-clause-text : goal.returns-clause-text
unfolding outputs_text
returns-clause-text g c =
    rw (c.put_shown-4.ensures.text, c.put_shown-3.ensures.text, c.put_shown-2.ensures.text, c.put_shown.ensures.text) (simp append_assoc)
