-- The bytes of words put one after the other: what stands, with the bytes of the words that are left, is the whole file.
use mathlib.Core.Path.{◌≡◌, sym}
use mathlib.Core.List.{List, ◌++◌, append_assoc, append-nil}
use Prim.Native.Nat.{ℕ, ◌+◌, ◌≤◌, ◌<◌}
use lib.ListN.{length, drop, get_or, drop_of_length-le}
use Rattle.words.proofs.Lists.{drop-next}
use Rattle.files.specs.Files.{bytes_of, file_of}

pub one_filed : (words file : List ℕ) (i : ℕ) → i < length words
    → file ++ file_of (drop i words) ≡ (file ++ bytes_of (get_or words i 0)) ++ file_of (drop (i + 1) words)
unfolding file_of
one_filed words file i h =
    rw (drop-next words i h) (sym (append_assoc file (bytes_of (get_or words i 0)) (file_of (drop (i + 1) words))))

pub all_filed : (words file : List ℕ) (i : ℕ) → length words ≤ i → file ++ file_of (drop i words) ≡ file
unfolding file_of
all_filed words file i h = rw (drop_of_length-le words h) (append-nil file)
