-- The lines that are left of a mapping, by its next word and at its last.
use mathlib.Core.Path.{◌≡◌, refl, sym}
use mathlib.Core.List.{List, [], ◌∷◌, ◌++◌, append-nil}
use Prim.Native.Nat.{ℕ, ◌+◌, ◌≤◌, ◌<◌}
use native.Mathlib.Omega.{arith}
use lib.ListN.{length, drop, take, get_or, length-drop, drop_of_length-le}
use lib.Seq.{get_or-take, get_or-drop, length-take-le}
use Rattle.words.specs.Field.{content_of}
use Rattle.words.proofs.Lists.{drop-next}
use Rattle.reader.specs.Starts.{bindings_start}
use Rattle.listing.specs.Listing.{binding_line, glue_line, mapped_lines, mapped_text}

binding_first : (w : ℕ) (ws : List ℕ) → 0 < length ws → mapped_lines (w ∷ ws) ≡ binding_line w ++ mapped_lines ws
unfolding mapped_lines
binding_first w [] h = absurd (omega arith)
binding_first w (v ∷ ws) h = refl

glue_only : (w : ℕ) (ws : List ℕ) → length ws ≤ 0 → mapped_lines (w ∷ ws) ≡ glue_line (content_of w)
unfolding mapped_lines
glue_only w [] h = refl
glue_only w (v ∷ ws) h = absurd (omega arith)

pub mapped_next : (words : List ℕ) (n k : ℕ) → n + 2 ≤ length words → k < length (take n (drop bindings_start words))
    → mapped_lines (drop (bindings_start + k) words)
    ≡ binding_line (get_or (take n (drop bindings_start words)) k 0) ++ mapped_lines (drop (bindings_start + (k + 1)) words)
mapped_next words n k h l =
    let m : k < n = omega (arith, length-take-le n (drop bindings_start words) (omega (arith, length-drop bindings_start words))) in
    rw (get_or-take n (drop bindings_start words) k 0 m, get_or-drop bindings_start words k 0) (next (bindings_start + k) (bindings_start + (k + 1)) (omega arith) (omega arith))
  where
    next : (i j : ℕ) → i + 1 ≡ j → j < length words → mapped_lines (drop i words) ≡ binding_line (get_or words i 0) ++ mapped_lines (drop j words)
    next i j e h = rw (sym e) (rw (drop-next words i (omega arith)) (binding_first (get_or words i 0) (drop (i + 1) words) (omega (arith, length-drop (i + 1) words))))

pub mapped_last : (words : List ℕ) (i : ℕ) → i + 1 ≡ length words → mapped_lines (drop i words) ≡ glue_line (content_of (get_or words i 0))
mapped_last words i h =
    rw (drop-next words i (omega arith)) (glue_only (get_or words i 0) (drop (i + 1) words) (omega (arith, length-drop (i + 1) words)))

-- a mapping without words behind its header
pub nothing_put : (words out : List ℕ) → length words ≤ bindings_start → out ≡ out ++ mapped_text words
unfolding mapped_lines
nothing_put words out h = rw (drop_of_length-le words h) (sym (append-nil out))
