-- What the system's answers to reads come to: the bytes of a file, kept as far as there is room.
use mathlib.Core.Path.{◌≡◌, refl, sym, ap, subst, ◌∙◌}
use mathlib.Core.Bool.{Bool, true, false}
use mathlib.Core.List.{List, [], ◌∷◌, ◌++◌}
use Prim.Native.Nat.{ℕ, ◌+◌, ◌-◌, ◌/◌, ◌≤◌}
use Rattle.std.specs.Prelude.{min, Result, Ok, Err, IfOk}
use Rattle.std.proofs.lemmas.List.{take_min, take-take}
use native.Mathlib.Nat.{zero-add}
use native.Mathlib.Omega.{arith}
use borrow.Author.Tests.{ltb-true, ltb-false}
use lib.Dec.{ltb}
use lib.ListN.{length, take, drop, length-append, length-take}
use lib.Seq.{sets, sets-eq, take_all, take-append-le, take-append-add, take-append_seam}
use Rattle.words.proofs.Lists.{start_length}
use Rattle.words.proofs.Copies.{sets-append}
use Rattle.files.specs.Files.{words_of}
use Rattle.console.specs.declared.Failed.{Failed}
use Rattle.input.specs.Read.{Words, kept_words, kept_bytes, Read}
use Rattle.input.specs.Kept.{BringsBytes, Keeps, words_from, input_from}

-- ---- one read after another

joined_kept : (k f c : List ℕ) (b : Bool) → ltb (length k) (length f) ≡ b
    → sets (sets k 0 (take (length k) f)) (length f) (take (length k - length f) c) ≡ sets k 0 (take (length k) (f ++ c))
joined_kept k f c true e =
    let h = ltb-true (length k) (length f) e in
    let z : length k - length f ≡ 0 = omega arith in
    rw z (ap (λ (l : List ℕ). sets k 0 l) (sym (take-append-le (length k) f c (omega arith))))
joined_kept k f c false e =
    let h = ltb-false (length k) (length f) e in
    let m : length k ≡ length f + (length k - length f) = omega arith in
    let p : take (length k) (f ++ c) ≡ f ++ take (length k - length f) c =
    ap (λ (n : ℕ). take n (f ++ c)) m ∙ take-append-add f c (length k - length f)
    in
    ap (λ (l : List ℕ). sets (sets k 0 l) (length f) (take (length k - length f) c)) (take_all (length k) f h)
    ∙ ap (λ (i : ℕ). sets (sets k 0 f) i (take (length k - length f) c)) (sym (zero-add (length f)))
    ∙ sets-append f (take (length k - length f) c) k 0 ∙ ap (λ (l : List ℕ). sets k 0 l) (sym p)

pub more_kept : (kept now after : List ℕ) (at count : ℕ) → Keeps kept now at → length now ≡ length kept → BringsBytes now at after count
    → Keeps kept after (at + count)
more_kept kept now after at count k l b =
    record {
      file = k.file ++ b.chunk;
      size = omega (arith, b.counted, k.size, length-append k.file b.chunk);
      kept_first =
          b.kept_behind
          ∙ ap (λ (n : ℕ). sets now at (take (n - at) b.chunk)) l
          ∙ ap (λ (n : ℕ). sets now n (take (length kept - n) b.chunk)) k.size
          ∙ ap (λ (m : List ℕ). sets m (length k.file) (take (length kept - length k.file) b.chunk)) k.kept_first
          ∙ joined_kept kept k.file b.chunk (ltb (length kept) (length k.file)) refl;
    }

-- ---- the file's words

pub words_length : (file : List ℕ) → length (words_of file) ≡ length file / 4
unfolding words_of
words_length [] = refl
words_length (a ∷ []) = refl
words_length (a ∷ b ∷ []) = refl
words_length (a ∷ b ∷ c ∷ []) = refl
words_length (a ∷ b ∷ c ∷ d ∷ file) = omega (arith, words_length file)

start_kept : (xs l : List ℕ) → length xs ≤ length l → take (length xs) (sets l 0 xs) ≡ xs
start_kept xs l h =
    ap (λ (m : List ℕ). take (length xs) m) (sets-eq xs l 0 (omega arith)) ∙ take-append_seam xs (drop (0 + length xs) l)

-- the words of the bytes that were kept, put at the start of an array
pub words_put : (bytes zeros words : List ℕ) (size n kept : ℕ) → kept ≡ length (take n bytes) / 4 → words ≡ sets zeros 0 (words_of (take n bytes))
    → n ≡ min size kept_bytes → length zeros ≡ kept_words → take kept words ≡ words_of (take (min size kept_bytes) bytes)
words_put bytes zeros words size n kept e w m h =
    let part = take n bytes in
    ap (λ (i : ℕ). take i words) (e ∙ sym (words_length part)) ∙ ap (λ (l : List ℕ). take (length (words_of part)) l) w
    ∙ start_kept (words_of part) zeros (omega (arith, words_length part, length-take n bytes))
    ∙ ap (λ (i : ℕ). words_of (take i bytes)) m

-- the first of so many words, at the start of an array, no more than it has
pub words_taken : (ws part rest : List ℕ) (size whole kept : ℕ) → part ≡ take kept ws → kept ≡ min kept_words whole → whole ≡ min (length ws) size
    → take kept (part ++ rest) ≡ take kept_words (take size ws)
words_taken ws part rest size whole kept e m w =
    let l : kept ≡ length (take kept ws) = start_length ws kept (omega arith) in
    let n : kept ≡ min kept_words (length (take size ws)) = omega (arith, length-take size ws) in
    ap (λ (n : ℕ). take n (part ++ rest)) (l ∙ ap (λ (p : List ℕ). length p) (sym e)) ∙ take-append_seam part rest ∙ e
    ∙ sym (take-take kept size ws (omega arith)) ∙ ap (λ (i : ℕ). take i (take size ws)) n ∙ take_min kept_words (take size ws)

kept_back : (k f : List ℕ) → take (min (length f) (length k)) (sets k 0 (take (length k) f)) ≡ take (length k) f
kept_back k f =
    ap (λ (n : ℕ). take n (sets k 0 (take (length k) f))) (omega (arith, length-take (length k) f))
    ∙ start_kept (take (length k) f) k (omega (arith, length-take (length k) f))

pub all_read : (zeros bytes : List ℕ) (size : Result ℕ Failed) (input : Result Words Failed) → IfOk size (λ n. Keeps zeros bytes n)
    → length zeros ≡ kept_bytes → input ≡ input_from bytes size → Read input
all_read zeros bytes (Err e) input k l i = subst Read (sym i) tt
all_read zeros bytes (Ok size) input k l i =
    subst Read (sym i)
    (record {
      file = k.file;
      same = ap (λ (n : ℕ). words_from bytes n) k.size ∙ ap (λ (m : List ℕ). record { words = words_of m; bytes = length k.file }) start;
    })
  where
    start : take (min (length k.file) kept_bytes) bytes ≡ take kept_bytes k.file
    start =
        ap (λ (m : List ℕ). take (min (length k.file) kept_bytes) m) k.kept_first
        ∙ ap (λ (n : ℕ). take (min (length k.file) n) (sets zeros 0 (take (length zeros) k.file))) (sym l)
        ∙ kept_back zeros k.file ∙ ap (λ (n : ℕ). take n k.file) l
