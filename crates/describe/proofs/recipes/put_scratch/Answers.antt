-- `describe::recipes::put_scratch` meets its contract.
use Rattle.std.proofs.lemmas.List.{append_assoc}
use Rattle.describe.specs.Describe.{scratch_text}
use Rattle.describe.proofs.recipes.put_scratch.Goals as goal

pub returns-clause-text : goal.returns-clause-text
unfolding scratch_text
returns-clause-text g c =
    rw (c.put_digits.ensures.text, c.put.ensures, c.vector_of.ensures) (simp append_assoc)
