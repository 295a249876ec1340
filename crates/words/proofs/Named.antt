-- A number is a kind's, or no kind's.
use mathlib.Core.Path.{◌≡◌, refl, sym, ap, ◌∙◌}
use mathlib.Core.Bool.{Bool, true, false}
use Prim.Native.Nat.{ℕ, ◌*◌, ◌%◌, ◌^◌, ◌<◌}
use native.Mathlib.Omega.{arith}
use lib.Bits.{bit_or}
use lib.Dec.{eqb}
use lib.Pow.{shl_exact}
use borrow.Author.Tests.{eqb-true, ne_eqb}
use Rattle.std.specs.Prelude.{Option, Some, None, if◌then◌else◌}
use Rattle.words.specs.declared.kind.WordKind.{WordKind}
use Rattle.words.specs.declared.kind.WordKind.TheVariants.{Header, Prices, Source, Target, Rule, Binding, Glue}
use Rattle.words.specs.Field.{word_of}
use Rattle.words.specs.Kinds.{HEADER, PRICES, SOURCE, TARGET, RULE, BINDING, GLUE, kind_number, kind_named, is_recipe}
use Rattle.words.proofs.Choices.{either}
use Rattle.words.proofs.Fields.{onto}

-- a kind has the number that names it
pub named_back : (k : WordKind) → kind_named (kind_number k) ≡ Some k
named_back Header = refl
named_back Prices = refl
named_back Source = refl
named_back Target = refl
named_back Rule = refl
named_back Binding = refl
named_back Glue = refl

-- a kind's number has four bits
pub kind_small : (k : WordKind) → kind_number k < 2 ^ 4
kind_small Header = omega arith
kind_small Prices = omega arith
kind_small Source = omega arith
kind_small Target = omega arith
kind_small Rule = omega arith
kind_small Binding = omega arith
kind_small Glue = omega arith

-- the kind that a number names has that number
pub named : (n : ℕ) (k : WordKind) → kind_named n ≡ Some k → n ≡ kind_number k
named n k =
    or (eqb n HEADER) (at Header)
    (or (eqb n PRICES) (at Prices)
    (or (eqb n SOURCE) (at Source)
    (or (eqb n TARGET) (at Target)
    (or (eqb n RULE) (at Rule)
    (or (eqb n BINDING) (at Binding)
    (or (eqb n GLUE) (at Glue) (λ e. absurd (none≢some e))))))))
  where
    Names : Option WordKind → Type 0
    Names o = o ≡ Some k → n ≡ kind_number k

    or : {o p : Option WordKind} (b : Bool) → (b ≡ true → Names o) → Names p → Names (if b then o else p)
    or b f g = either Names b f (λ _. g)

    at : (j : WordKind) → eqb n (kind_number j) ≡ true → Names (Some j)
    at j h e = let p : j ≡ k = cc in eqb-true n (kind_number j) h ∙ ap kind_number p

    none≢some : None ≡ Some k → ⊥
    none≢some e = cc

-- a number that names no kind is no kind's
pub no_kind : (n : ℕ) → kind_named n ≡ None → (k : WordKind) → eqb n (kind_number k) ≡ false
no_kind n e k = ne_eqb n (kind_number k) (λ p. none≢some (sym e ∙ ap kind_named p ∙ named_back k))
  where
    none≢some : None ≡ Some k → ⊥
    none≢some p = cc

-- kinds of one number are one kind
pub same_kind : (j k : WordKind) → kind_number j ≡ kind_number k → j ≡ k
same_kind j k e = let p : Some j ≡ Some k = sym (named_back j) ∙ ap kind_named e ∙ named_back k in cc

pub is_recipe_named : (n : ℕ) (k : WordKind) (b : Bool) → kind_named n ≡ Some k → b ≡ is_recipe (kind_number k) → b ≡ is_recipe n
is_recipe_named n k b e h = rw (named n k e) h

-- words of no kind hold no recipe
pub is_recipe_unnamed : (n : ℕ) → kind_named n ≡ None → false ≡ is_recipe n
unfolding is_recipe
is_recipe_unnamed n e = rw (no_kind n e Rule, no_kind n e Binding) refl

-- a kind's number laid on a content
pub kind_laid : (n c : ℕ) → n < 2 ^ 4 → c < 2 ^ 28 → bit_or (n * 2 ^ 28 % 2 ^ 32) c ≡ word_of n c
kind_laid n c k h = onto 28 c (shl_exact 4 28 32 k (omega arith)) (omega arith) h
