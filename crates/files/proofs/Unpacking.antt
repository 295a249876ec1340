-- The words of a file, one after the other; and a word's bytes give the word back.
use mathlib.Core.Path.{◌≡◌, refl, ap, sym, ◌∙◌}
use mathlib.Core.List.{List, [], ◌∷◌, map}
use Prim.Native.Nat.{ℕ, suc, ◌+◌, ◌/◌, ◌%◌, ◌^◌, ◌≤◌, ◌<◌}
use native.Mathlib.Nat.{div-div-eq-div-mul}
use native.Mathlib.Omega.{arith}
use lib.ListN.{length, drop, get_or, set, drop_of_length-le}
use lib.Seq.{sets, drop-cons}
use Rattle.std.specs.Simd.{first_chunks}
use Rattle.files.specs.Files.{word_from, words_of, file_of}

-- the word of four bytes that stand together
abbrev pub four : List ℕ → ℕ
four bytes = word_from (get_or bytes 0 0) (get_or bytes 1 0) (get_or bytes 2 0) (get_or bytes 3 0)

chunked : (bytes : List ℕ) → words_of bytes ≡ map four (first_chunks 4 (length bytes / 4) bytes)
unfolding words_of
chunked [] = refl
chunked (a ∷ []) = refl
chunked (a ∷ b ∷ []) = refl
chunked (a ∷ b ∷ c ∷ []) = refl
chunked (a ∷ b ∷ c ∷ d ∷ bytes) =
    let e : length (a ∷ b ∷ c ∷ d ∷ bytes) / 4 ≡ suc (length bytes / 4) = omega arith in
    rw e (ap (λ (l : List ℕ). word_from a b c d ∷ l) (chunked bytes))

-- ---- the loop

module _ (chunks : List (List ℕ)) (words whole : List ℕ) (i : ℕ) (e : sets words i (map four (drop i chunks)) ≡ whole) where
  pub one_word : (x : ℕ) → i < length chunks → x ≡ four (get_or chunks i []) → sets (set words i x) (i + 1) (map four (drop (i + 1) chunks)) ≡ whole
  one_word x l u =
      let p : i + 1 ≡ suc i = omega arith in
      rw (p, u) (rw (drop-cons chunks i [] l) at e)

  pub all_words : length chunks ≤ i → words ≡ whole
  all_words l = rw (drop_of_length-le chunks l) at e

pub unpacked : (bytes : List ℕ) (chunks : List (List ℕ)) → chunks ≡ first_chunks 4 (length bytes / 4) bytes → map four chunks ≡ words_of bytes
unpacked bytes chunks u = rw u (sym (chunked bytes))

-- ---- a word's bytes are its own, and a file written word by word is read back

joined : (w a b c : ℕ) → w / 2 ^ 8 ≡ a → a / 2 ^ 8 ≡ b → b / 2 ^ 8 ≡ c → c < 2 ^ 8 → word_from (w % 2 ^ 8) (a % 2 ^ 8) (b % 2 ^ 8) (c % 2 ^ 8) ≡ w
joined w a b c p q r h =
    let s : word_from (w % 2 ^ 8) (a % 2 ^ 8) (b % 2 ^ 8) c ≡ w = omega arith in
    let z : c % 2 ^ 8 ≡ c = omega arith in
    rw z s

pub word_back : (w : ℕ) → w < 2 ^ 32 → word_from (w % 2 ^ 8) (w / 2 ^ 8 % 2 ^ 8) (w / 2 ^ 16 % 2 ^ 8) (w / 2 ^ 24 % 2 ^ 8) ≡ w
word_back w h =
    joined w (w / 2 ^ 8) (w / 2 ^ 16) (w / 2 ^ 24) refl
    (div-div-eq-div-mul w (2 ^ 8) (2 ^ 8)) (div-div-eq-div-mul w (2 ^ 16) (2 ^ 8)) (omega arith)

pub file_back : (ws : List ℕ) → ((i : ℕ) → i < length ws → get_or ws i 0 < 2 ^ 32) → words_of (file_of ws) ≡ ws
unfolding words_of file_of
file_back [] h = refl
file_back (w ∷ ws) h =
    ap (λ (x : ℕ). x ∷ words_of (file_of ws)) (word_back w (h 0 (omega arith)))
    ∙ ap (λ (l : List ℕ). w ∷ l) (file_back ws (λ i l. h (suc i) (omega arith)))
