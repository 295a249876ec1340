-- Words put at the start of a room of zeros stand first there, and zeros behind them.
use mathlib.Core.Path.{◌≡◌, sym, ap, subst, ◌∙◌}
use mathlib.Core.List.{List, ◌++◌}
use Prim.Native.Nat.{ℕ, ◌-◌, ◌/◌, ◌≤◌}
use native.Mathlib.Omega.{arith}
use native.Mathlib.Nat.{zero-add}
use lib.ListN.{length, take, drop, replicate, length-take}
use lib.Seq.{sets, sets-eq, take-append_seam}
use Rattle.std.specs.Prelude.{min}
use Rattle.std.proofs.lemmas.List.{drop-replicate, length-replicate}
use Rattle.words.proofs.Lists.{start_length}
use Rattle.files.specs.Files.{words_of}
use Rattle.input.specs.Read.{kept_words, kept_bytes}
use Rattle.input.specs.Room.{StandFirst}
use Rattle.input.proofs.Chunks.{words_length}

stand_first : (xs : List ℕ) (kept : ℕ) → kept ≡ length xs → kept ≤ kept_words → StandFirst kept (xs ++ replicate (kept_words - kept) 0)
stand_first xs kept e h =
    record {
      few = h;
      there = ap (λ (l : List ℕ). length l) start ∙ sym e;
      zeros = ap (λ (l : List ℕ). l ++ replicate (kept_words - kept) 0) (sym start);
    }
  where
    start : take kept (xs ++ replicate (kept_words - kept) 0) ≡ xs
    start = ap (λ (n : ℕ). take n (xs ++ replicate (kept_words - kept) 0)) e ∙ take-append_seam xs (replicate (kept_words - kept) 0)

-- the first of so many words, copied to the start
pub copied_first : (ws part : List ℕ) (size whole kept : ℕ) → part ≡ take kept ws → kept ≡ min kept_words whole → whole ≡ min (length ws) size
    → StandFirst kept (part ++ drop kept (replicate kept_words 0))
copied_first ws part size whole kept e m w =
    subst (λ (rest : List ℕ). StandFirst kept (part ++ rest)) (sym (drop-replicate kept kept_words 0))
    (stand_first part kept (start_length ws kept (omega arith) ∙ ap (λ (l : List ℕ). length l) (sym e)) (omega arith))

-- the words of bytes that were read, put there
pub put_first : (bytes words : List ℕ) (size n kept : ℕ) → kept ≡ length (take n bytes) / 4
    → words ≡ sets (replicate kept_words 0) 0 (words_of (take n bytes)) → n ≡ min size kept_bytes → StandFirst kept words
put_first bytes words size n kept e w m = subst (λ (l : List ℕ). StandFirst kept l) (sym same) (stand_first xs kept l few)
  where
    xs : List ℕ
    xs = words_of (take n bytes)

    l : kept ≡ length xs
    l = e ∙ sym (words_length (take n bytes))

    few : kept ≤ kept_words
    few = omega (arith, length-take n bytes)

    same : words ≡ xs ++ replicate (kept_words - kept) 0
    same =
        w ∙ sets-eq xs (replicate kept_words 0) 0 (omega (arith, l, few, length-replicate {A = ℕ} kept_words 0))
        ∙ ap (λ (rest : List ℕ). xs ++ rest)
        (ap (λ (i : ℕ). drop i (replicate kept_words 0)) (zero-add (length xs) ∙ sym l) ∙ drop-replicate kept kept_words 0)
