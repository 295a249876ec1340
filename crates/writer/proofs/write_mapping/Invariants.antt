-- `writer::write_mapping` meets its contract.
use Prim.Native.Nat.{◌+◌}
use lib.ListN.{drop}
use lib.Seq.{sets}
use mathlib.Core.List.{[], ◌∷◌, ◌++◌}
use mathlib.Core.Path.{◌≡◌}
use Rattle.words.specs.Kinds.{GLUE}
use Rattle.reader.specs.Starts.{bindings_start}
use Rattle.words.specs.Field.{word_of}
use Rattle.writer.specs.Write.{binding_words}
use Rattle.writer.proofs.write_mapping.Given as goal

abbrev pub invariant-loop-i : goal.invariant-loop-i
invariant-loop-i l =
    sets l.lent (bindings_start + l.i) (binding_words (drop l.i l.bound) ++ (word_of GLUE l.glue ∷ []))
    ≡ sets l.initial.lent 1 (binding_words l.bound ++ (word_of GLUE l.glue ∷ []))
