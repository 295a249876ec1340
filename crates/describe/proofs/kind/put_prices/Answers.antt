-- `describe::kind::put_prices` meets its contract.
use Rattle.std.proofs.lemmas.List.{append_assoc}
use Rattle.describe.specs.Describe.{prices_text}
use Rattle.describe.proofs.Described.{inverter_field, gate_field, multiplexer_field}
use Rattle.describe.proofs.kind.put_prices.Goals as goal

pub returns-clause-text : goal.returns-clause-text
unfolding prices_text
returns-clause-text g c =
    rw (
      c.put_labelled-3.ensures.text,
      c.put_labelled-2.ensures.text,
      c.put_labelled.ensures.text,
      inverter_field c.args.word,
      gate_field c.args.word,
      multiplexer_field c.args.word,
    ) (simp append_assoc)
