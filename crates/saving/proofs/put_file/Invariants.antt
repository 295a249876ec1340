-- `saving::put_file` meets its contract.
use mathlib.Core.Path.{◌≡◌}
use mathlib.Core.List.{◌++◌}
use Prim.Native.Nat.{◌+◌, ◌*◌}
use lib.ListN.{length, drop}
use Rattle.files.specs.Files.{file_of}
use Rattle.saving.proofs.put_file.Given as goal

abbrev pub invariant-loop-word : goal.invariant-loop-word
invariant-loop-word g l = (l.file ++ file_of (drop l.word-index l.words) ≡ l.initial.file ++ file_of l.words)
    × (length l.file ≡ length l.initial.file + 4 * l.word-index)
