-- `input::input_from` meets its contract.
use Rattle.input.proofs.Room.{put_first}
use Rattle.input.proofs.input_from.Goals as goal

pub invariant_of-result : goal.invariant_of-result
invariant_of-result c =
    put_first c.args.bytes.now c.words_of-kept.new.words c.in_ok-size.size c.min-n.result c.words_of-kept.result c.words_of-kept.ensures.count
    c.words_of-kept.ensures.words c.min-n.ensures
