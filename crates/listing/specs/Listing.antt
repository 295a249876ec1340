-- What is printed of a mapping: document 01, "The mapping program .. prints, per binding, source name, target name or LV, word in eight
-- capital hexadecimal digits; then the count."
use Rattle.std.specs.Prelude.{ℕ, List, [], ◌∷◌, ◌++◌, drop}
use Rattle.words.specs.Field.{content_of}
use Rattle.recipe.specs.Fields.{source_of, target_of}
use Rattle.reader.specs.Starts.{bindings_start}
use Rattle.text.specs.Text.{bytes, name_of, hexadecimal, labelled}

-- no binding has more bytes, no binding's line, and no line of a glue count
abbrev pub most_binding_text : ℕ
most_binding_text = 20

abbrev pub most_binding_bytes : ℕ
most_binding_bytes = 21

abbrev pub most_glue_bytes : ℕ
most_glue_bytes = 26

unfoldable pub binding_text : ℕ → List ℕ
binding_text w = name_of (source_of w) ++ bytes " " ++ name_of (target_of w) ++ bytes " " ++ hexadecimal w

unfoldable pub binding_line : ℕ → List ℕ
binding_line w = binding_text w ++ bytes "\n"

unfoldable pub glue_line : ℕ → List ℕ
glue_line count = labelled (bytes "GLUE ") count ++ bytes "\n"

-- the words behind a mapping's header: "0 to 27 bindings, glue count"
unfoldable pub mapped_lines : List ℕ → List ℕ
mapped_lines [] = []
mapped_lines (w ∷ []) = glue_line (content_of w)
mapped_lines (w ∷ v ∷ ws) = binding_line w ++ mapped_lines (v ∷ ws)

-- a mapping's words: "per binding, ..; then the count"
abbrev pub mapped_text : List ℕ → List ℕ
mapped_text ws = mapped_lines (drop bindings_start ws)
