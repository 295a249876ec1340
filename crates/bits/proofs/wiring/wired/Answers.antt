-- `bits::wiring::wired` meets its contract.
use Rattle.bits.proofs.Wirings.{wired-by_low_bit, wired-by_low_bit_lt}
use Rattle.bits.proofs.wiring.wired.Goals as goal

pub returns : goal.returns
returns c = (search wired-by_low_bit, search wired-by_low_bit_lt)
