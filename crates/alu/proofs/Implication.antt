-- "Table 2 decides, LIMPL 1101, RIMPL 1011": at each place LIMPL is NOT I0 OR I1, and RIMPL is I0 OR NOT I1.
use mathlib.Core.Path.{◌≡◌, refl}
use mathlib.Core.Bool.{Bool, true, false, not, ◌||◌}
use Prim.Native.Nat.{ℕ}
use Rattle.bits.specs.Bits.{bit}
use Rattle.bits.specs.Vector.{minterm}
use Rattle.alu.specs.Function.{function_of}
use Rattle.alu.specs.declared.Kind.{Kind}
use Rattle.alu.specs.declared.Kind.TheVariants.{Arithmetic, Logic, Comparison}

abbrev LIMPL : ℕ
LIMPL = 20

abbrev RIMPL : ℕ
RIMPL = 21

-- a logic function at one place
abbrev Gives : Kind → (Bool → Bool → Bool) → Type 0
Gives (Logic v) p = (x y : Bool) → minterm v x y ≡ p x y
Gives (Arithmetic a b c) p = ⊥
Gives (Comparison l e g) p = ⊥

limpl_of_table_2 : Gives (function_of LIMPL) (λ x y. not x || y)
unfolding bit
limpl_of_table_2 true true = refl
limpl_of_table_2 true false = refl
limpl_of_table_2 false true = refl
limpl_of_table_2 false false = refl

rimpl_of_table_2 : Gives (function_of RIMPL) (λ x y. x || not y)
unfolding bit
rimpl_of_table_2 true true = refl
rimpl_of_table_2 true false = refl
rimpl_of_table_2 false true = refl
rimpl_of_table_2 false false = refl
