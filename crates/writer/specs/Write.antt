-- The words of a mapping, and lent words after they are written.
use Rattle.std.specs.Prelude.{ℕ, ◌+◌, List, [], ◌∷◌, ◌++◌, ltb, length, if◌then◌else◌, Result, Ok, Err}
use Rattle.std.proofs.lemmas.List.Edits.{sets}
use Rattle.words.specs.Field.{content_of, word_of}
use Rattle.words.specs.Kinds.{HEADER, BINDING, GLUE}
use Rattle.words.specs.Paper.{Paper, refusal, accepted, told}
use Rattle.words.specs.declared.Refusal.{Refusal}
use Rattle.words.specs.declared.Fault.TheVariants.{TooFewWords}

-- a rule's recipe as a binding: "rule, binding: a recipe"
abbrev pub binding_word : ℕ → ℕ
binding_word w = word_of BINDING (content_of w)

unfoldable pub binding_words : List ℕ → List ℕ
binding_words [] = []
binding_words (w ∷ ws) = binding_word w ∷ binding_words ws

-- "A mapping: header, 0 to 27 bindings, glue count."
abbrev pub mapping_words : ℕ → List ℕ → ℕ → List ℕ
mapping_words width bound glue = word_of HEADER width ∷ (binding_words bound ++ (word_of GLUE glue ∷ []))

-- "sources + 2"
abbrev pub words_needed : ℕ → ℕ
words_needed sources = sources + 2

-- "23. Lent words fewer than sources + 2; place: words needed"; else so many words are written
unfoldable pub written_of : ℕ → List ℕ → Result ℕ Refusal
written_of sources lent =
    if ltb (length lent) (words_needed sources) then Err (refusal TooFewWords (words_needed sources)) else Ok (words_needed sources)

-- "Lent words .. stay unchanged; on success words past the written ones do too": `sets lent 0 ws` is lent with ws from its first word on
unfoldable pub lent_after : List ℕ → List ℕ → List ℕ
lent_after ws lent = if ltb (length lent) (length ws) then lent else sets lent 0 ws

-- the answer in document 01's numbers
abbrev pub paper_of : Result ℕ Refusal → Paper
paper_of (Ok n) = accepted (n ∷ [])
paper_of (Err r) = told r
