-- What the lines of the programs are made of: document 01, "source name, target name or LV, word in eight capital hexadecimal digits ..
-- number and place in decimal". Text is a list of bytes.
use Rattle.std.specs.Prelude.{ℕ, zero, suc, ◌+◌, ◌/◌, ◌%◌, List, [], ◌∷◌, ◌++◌, ltb, length, map, slice_index_or, max, if◌then◌else◌}
use Rattle.std.specs.Borrow.{Bor}
use Prim.Native.Char.{code}
use Prim.Native.String.{String, [] as no_text, ◌∷◌ as ◌then◌}

abbrev pub bytes : String → List ℕ
bytes no_text = []
bytes (c then s) = code c ∷ bytes s

-- ---- tables of texts

-- the texts that a table of strings holds
abbrev pub texts : List (Bor (List ℕ)) → List (List ℕ)
texts table = map (λ (t : Bor (List ℕ)). t.now) table

-- the text at an index; past the last there is none
abbrev pub entry : List (List ℕ) → ℕ → List ℕ
entry table index = slice_index_or table index []

-- the length of the longest
abbrev pub longest : List (List ℕ) → ℕ
longest [] = 0
longest (t ∷ ts) = max (length t) (longest ts)

-- LV for 0, from scratch, and the functions 1 to 27
abbrev pub names : List (List ℕ)
names =
    map bytes ("LV" ∷ "ADD" ∷ "SUB" ∷ "RSUB" ∷ "INC" ∷ "DEC" ∷ "ZERO" ∷ "ONE" ∷ "AND" ∷ "NAND" ∷ "OR" ∷ "NOR" ∷ "XOR" ∷ "XNOR" ∷ "LID" ∷ "RID" ∷ "LNOT" ∷ "RNOT" ∷ "LINHI" ∷ "RINHI" ∷ "LIMPL" ∷ "RIMPL" ∷ "EQ" ∷ "NEQ" ∷ "GT" ∷ "LT" ∷ "GEQ" ∷ "LEQ" ∷ [])

unfoldable pub name_of : ℕ → List ℕ
name_of f = entry names f

-- ---- numbers

-- a digit: 0 to 9, then A to F
abbrev pub glyph : ℕ → ℕ
glyph d = if ltb d 10 then 48 + d else 55 + d

-- the last k digits in a base
unfoldable pub digits : ℕ → ℕ → ℕ → List ℕ
digits base zero n = []
digits base (suc k) n = digits base k (n / base) ++ (glyph (n % base) ∷ [])

-- how many decimal digits a number has, at most k
unfoldable pub digits_in : ℕ → ℕ → ℕ
digits_in zero n = 0
digits_in (suc k) n = if ltb n 10 then 1 else digits_in k (n / 10) + 1

-- a number below 2^64 in decimal
unfoldable pub decimal : ℕ → List ℕ
decimal n = digits 10 (digits_in 20 n) n

-- a word in eight capital hexadecimal digits
unfoldable pub hexadecimal : ℕ → List ℕ
hexadecimal w = digits 16 8 w

-- a number after what it is
unfoldable pub labelled : List ℕ → ℕ → List ℕ
labelled label n = label ++ decimal n
