-- Document 01, "Words": "All files are 32-bit words, little-endian in bytes."
use Rattle.std.specs.Prelude.{ℕ, ◌+◌, ◌*◌, ◌/◌, ◌%◌, ◌^◌, List, [], ◌∷◌, ◌++◌}

-- the word of four bytes, the lowest first
abbrev pub word_from : ℕ → ℕ → ℕ → ℕ → ℕ
word_from a b c d = a + b * 2 ^ 8 + c * 2 ^ 16 + d * 2 ^ 24

-- the four bytes of a word
abbrev pub bytes_of : ℕ → List ℕ
bytes_of w = w % 2 ^ 8 ∷ w / 2 ^ 8 % 2 ^ 8 ∷ w / 2 ^ 16 % 2 ^ 8 ∷ w / 2 ^ 24 % 2 ^ 8 ∷ []

-- the whole words of a file
unfoldable pub words_of : List ℕ → List ℕ
words_of [] = []
words_of (a ∷ []) = []
words_of (a ∷ b ∷ []) = []
words_of (a ∷ b ∷ c ∷ []) = []
words_of (a ∷ b ∷ c ∷ d ∷ bytes) = word_from a b c d ∷ words_of bytes

-- the file of words
unfoldable pub file_of : List ℕ → List ℕ
file_of [] = []
file_of (w ∷ ws) = bytes_of w ++ file_of ws
