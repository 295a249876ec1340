-- Document 01, "Words": the kinds of words.
use Rattle.std.specs.Prelude.{ℕ, Bool, true, eqb, if◌then◌else◌, Option, Some, None}
use Rattle.words.specs.declared.kind.WordKind.{WordKind}
use Rattle.words.specs.declared.kind.WordKind.TheVariants.{Header, Prices, Source, Target, Rule, Binding, Glue}

-- "1 header", "2 prices", "3, 4 source, target function", "5, 6 rule, binding", "7 .. glue count"
abbrev pub HEADER : ℕ
HEADER = 1

abbrev pub PRICES : ℕ
PRICES = 2

abbrev pub SOURCE : ℕ
SOURCE = 3

abbrev pub TARGET : ℕ
TARGET = 4

abbrev pub RULE : ℕ
RULE = 5

abbrev pub BINDING : ℕ
BINDING = 6

abbrev pub GLUE : ℕ
GLUE = 7

abbrev pub kind_number : WordKind → ℕ
kind_number Header = HEADER
kind_number Prices = PRICES
kind_number Source = SOURCE
kind_number Target = TARGET
kind_number Rule = RULE
kind_number Binding = BINDING
kind_number Glue = GLUE

-- the kind of a number, if it is one's
abbrev pub kind_named : ℕ → Option WordKind
kind_named n =
    if eqb n HEADER then Some Header
    else if eqb n PRICES then Some Prices
    else if eqb n SOURCE then Some Source
    else if eqb n TARGET then Some Target
    else if eqb n RULE then Some Rule
    else if eqb n BINDING then Some Binding
    else if eqb n GLUE then Some Glue
    else None

-- 5 and 6: "rule, binding: a recipe"
unfoldable pub is_recipe : ℕ → Bool
is_recipe kind = if eqb kind RULE then true else eqb kind BINDING
