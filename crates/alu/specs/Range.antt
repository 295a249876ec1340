-- Which numbers are functions and which are widths: document 01, "Functions".
use Rattle.std.specs.Prelude.{ℕ, Bool, false, leb, ltb, if◌then◌else◌}

-- the functions are numbered from 1 to 27
abbrev pub last_function : ℕ
last_function = 27

unfoldable pub is_function : ℕ → Bool
is_function f = if ltb f 1 then false else leb f last_function

-- "n from 1 to 64"
unfoldable pub is_width : ℕ → Bool
is_width n = if ltb n 1 then false else leb n 64
