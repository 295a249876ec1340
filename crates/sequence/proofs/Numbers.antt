-- A word by the number of its kind, which may be no kind's.
use mathlib.Core.Path.{◌≡◌, refl}
use mathlib.Core.Bool.{Bool, false}
use Prim.Native.Nat.{ℕ}
use Rattle.std.specs.Prelude.{Some, None}
use Rattle.words.specs.Kinds.{kind_number, kind_named}
use Rattle.words.specs.declared.kind.WordKind.{WordKind}
use Rattle.words.specs.declared.kind.WordKind.TheVariants.{Header, Prices, Source, Target, Rule, Binding, Glue}
use Rattle.words.proofs.Named.{named, no_kind}
use Rattle.sequence.specs.Sequence.{job_sequence, mapping_sequence, in_sequence}
use Rattle.sequence.specs.declared.File.{File}
use Rattle.sequence.specs.declared.File.TheVariants.{AsJob, AsMapping}
use Rattle.sequence.specs.declared.State.{State}

-- a word of a kind comes where a word of its kind's number does
pub named_word : (file : File) (s : State) (n : ℕ) (k : WordKind) (b : Bool) → kind_named n ≡ Some k
    → b ≡ in_sequence file s (kind_number k) → b ≡ in_sequence file s n
named_word file s n k b e h = rw (named n k e) h

-- a word of no kind is out of sequence
pub unnamed_word : (file : File) (s : State) (n : ℕ) → kind_named n ≡ None → false ≡ in_sequence file s n
unfolding in_sequence job_sequence mapping_sequence
unnamed_word AsJob s n e = let no = no_kind n e in rw (no Header, no Prices, no Source, no Target, no Rule) refl
unnamed_word AsMapping s n e = let no = no_kind n e in rw (no Header, no Binding, no Glue) refl
