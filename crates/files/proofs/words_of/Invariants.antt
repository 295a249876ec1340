-- `files::words_of` meets its contract.
use Rattle.files.specs.Files.{words_of}
use lib.ListN.{drop}
use lib.Seq.{sets}
use mathlib.Core.List.{map}
use Rattle.files.proofs.Unpacking.{four}
use mathlib.Core.Path.{◌≡◌}
use Rattle.files.proofs.words_of.Given as goal

abbrev pub invariant-loop-i : goal.invariant-loop-i
invariant-loop-i l = sets l.words l.i (map four (drop l.i l.whole)) ≡ sets l.initial.words 0 (words_of l.bytes)
