-- `pack_words::pack` meets its contract.
use Prim.Native.Nat.{◌-◌, ◌^◌}
use Rattle.pack_words.proofs.pack.Given as goal

abbrev pub decreases-loop-word : goal.decreases-loop-word
decreases-loop-word l = 2 ^ 61 - l.text.at
