-- How much room a spelling asks for: the longest of its table. Nobody has to believe this: each caller proves that it is there.
use Rattle.std.specs.Prelude.{ℕ}
use Rattle.spelling.specs.declared.Codes.{Codes}
use Rattle.spelling.specs.declared.Codes.TheVariants.{Wiring, Carry, Main, CarryOut, Overflow, Comparison}

abbrev pub most_spelling : Codes → ℕ
most_spelling Wiring = 7
most_spelling Carry = 9
most_spelling Main = 7
most_spelling CarryOut = 10
most_spelling Overflow = 4
most_spelling Comparison = 26
