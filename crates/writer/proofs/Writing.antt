-- The words written so far and those still to come.
use mathlib.Core.Path.{◌≡◌, refl, ap}
use mathlib.Core.List.{List, [], ◌∷◌, ◌++◌}
use Prim.Native.Nat.{ℕ, zero, suc, ◌+◌, ◌≤◌, ◌<◌}
use native.Mathlib.Nat.{zero-add}
use native.Mathlib.Omega.{arith}
use borrow.Author.Tests.{lt-ltb, le-ltb}
use lib.ListN.{length, drop, get_or, set, length-append, drop_of_length-le}
use lib.Seq.{sets, sets-eq}
use Rattle.words.specs.Field.{word_of}
use Rattle.words.proofs.Lists.{drop-next}
use Rattle.words.specs.Kinds.{HEADER, GLUE}
use Rattle.reader.specs.Starts.{bindings_start}
use Rattle.writer.specs.Write.{binding_word, binding_words, mapping_words, lent_after}

pub bindings_length : (ws : List ℕ) → length (binding_words ws) ≡ length ws
unfolding binding_words
bindings_length [] = refl
bindings_length (w ∷ ws) = ap suc (bindings_length ws)

pub bindings_at : (ws : List ℕ) (i : ℕ) → i < length ws → get_or (binding_words ws) i 0 ≡ binding_word (get_or ws i 0)
unfolding binding_words
bindings_at [] i h = absurd (omega arith)
bindings_at (w ∷ ws) zero h = refl
bindings_at (w ∷ ws) (suc i) h = bindings_at ws i (omega arith)

pub mapping_length : (width glue : ℕ) (bound : List ℕ) → length (mapping_words width bound glue) ≡ length bound + 2
mapping_length width glue bound =
    omega (arith, length-append (binding_words bound) (word_of GLUE glue ∷ []), bindings_length bound)

-- ---- one binding more, and the last word

module _ (bound : List ℕ) (i : ℕ) (lent rest whole : List ℕ) (e : sets lent (bindings_start + i) (binding_words (drop i bound) ++ rest) ≡ whole) where
  pub binding_written : (w : ℕ) → i < length bound → w ≡ binding_word (get_or bound i 0)
      → sets (set lent (bindings_start + i) w) (bindings_start + (i + 1)) (binding_words (drop (i + 1) bound) ++ rest) ≡ whole
  unfolding binding_words
  binding_written w h ew =
      let z : bindings_start + (i + 1) ≡ suc (bindings_start + i) = omega arith in rw (ew, z) (rw (drop-next bound i h) at e)

pub glue_written : (bound : List ℕ) (i : ℕ) (lent : List ℕ) (g : ℕ) → length bound ≤ i
    → sets lent (bindings_start + i) (binding_words (drop i bound) ++ (g ∷ [])) ≡ set lent (bindings_start + i) g
unfolding binding_words
glue_written bound i lent g h = rw (drop_of_length-le bound h) refl

-- ---- the lent words after

module _ (width glue : ℕ) (bound lent : List ℕ) where
  pub kept : length lent < length bound + 2 → lent_after (mapping_words width bound glue) lent ≡ lent
  unfolding lent_after
  kept h = rw (lt-ltb (length lent) (length (mapping_words width bound glue)) (omega (arith, mapping_length width glue bound))) refl

  pub all_written : length bound + 2 ≤ length lent
      → lent_after (mapping_words width bound glue) lent ≡ sets (set lent 0 (word_of HEADER width)) 1 (binding_words bound ++ (word_of GLUE glue ∷ []))
  unfolding lent_after
  all_written h =
      rw (le-ltb (length lent) (length (mapping_words width bound glue)) (omega (arith, mapping_length width glue bound))) refl

-- ---- what a reader of the contract learns: the words come first, and nothing past them changes

pub written_words : (ws lent : List ℕ) → length ws ≤ length lent → lent_after ws lent ≡ ws ++ drop (length ws) lent
unfolding lent_after
written_words ws lent h =
    rw (le-ltb (length lent) (length ws) h) (rw zero-add at (sets-eq ws lent 0 (omega arith)))

pub untouched : (ws lent : List ℕ) → length lent < length ws → lent_after ws lent ≡ lent
unfolding lent_after
untouched ws lent h = rw (lt-ltb (length lent) (length ws) h) refl
