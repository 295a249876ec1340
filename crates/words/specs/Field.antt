-- Document 01, "Words": bits of a word. "The top four bits are the kind."
use Rattle.std.specs.Prelude.{ℕ, ◌+◌, ◌*◌, ◌/◌, ◌%◌, ◌^◌, Bool, eqb}

-- `size` bits of a word, of which bit `at` is the lowest
abbrev pub field : ℕ → ℕ → ℕ → ℕ
field w at size = w / 2 ^ at % 2 ^ size

abbrev pub kind_of : ℕ → ℕ
kind_of w = field w 28 4

-- what stands below the kind
abbrev pub content_of : ℕ → ℕ
content_of w = field w 0 28

-- "source .. function: bits 4..0 number"
abbrev pub source_function : ℕ → ℕ
source_function w = content_of w

-- "target function: bits 4..0 number"; and request #105: "Bit 5 of a target word marks it"
abbrev pub target_function : ℕ → ℕ
target_function w = field w 0 5

abbrev pub target_negated : ℕ → Bool
target_negated w = eqb (field w 5 1) 1

-- the word of a kind and a content
abbrev pub word_of : ℕ → ℕ → ℕ
word_of kind content = kind * 2 ^ 28 + content
