-- A choice by a test, taken apart; and the rules by which `search` follows code that makes the same tests as its definition.
use mathlib.Core.Path.{◌≡◌, refl}
use mathlib.Core.Bool.{Bool, true, false, not, ◌&&◌, ◌||◌, beq, false≢true}
use mathlib.Core.List.{List}
use Prim.Native.Nat.{ℕ}
use lib.ListN.{get_or}
use borrow.Author.Tests.{eq-eqb, ne_eqb, lt-ltb, le-ltb, le-leb, lt-leb, not-true, not-false}
use Rattle.std.specs.Prelude.{if◌then◌else◌}

-- a test has one of two outcomes, and what is shown may use which
pub either : {A : Type 0} (P : A → Type 0) (b : Bool) {x y : A} → (b ≡ true → P x) → (b ≡ false → P y) → P (if b then x else y)
either P true p q = p refl
either P false p q = q refl

pub and_split : (a b : Bool) → a && b ≡ true → (a ≡ true) × (b ≡ true)
and_split true b e = (refl, e)
and_split false b e = absurd (false≢true e)

pub and_join : {a b : Bool} → a ≡ true → b ≡ true → a && b ≡ true
and_join p q = rw (p, q)

pub or_split : {R : Type 0} (a b : Bool) → a || b ≡ true → (a ≡ true → R) → (b ≡ true → R) → R
or_split true b e f g = f refl
or_split false b e f g = g e

pub beq-true : (a b : Bool) → beq a b ≡ true → a ≡ b
beq-true true true e = refl
beq-true true false e = absurd (false≢true e)
beq-true false true e = absurd (false≢true e)
beq-true false false e = refl

pub beq-refl : (a b : Bool) → a ≡ b → beq a b ≡ true
beq-refl true b e = rw (← e) refl
beq-refl false b e = rw (← e) refl

-- a test that is not true is false
pub false_of : (b : Bool) → (b ≡ true → ⊥) → b ≡ false
false_of true h = absurd (h refl)
false_of false h = refl

-- a test on an element that is a bool
pub off : (l : List Bool) (i : ℕ) (z : Bool) → not (get_or l i z) ≡ true → get_or l i z ≡ false
off l i z t = not-true (get_or l i z) t

pub on : (l : List Bool) (i : ℕ) (z : Bool) → not (get_or l i z) ≡ false → get_or l i z ≡ true
on l i z t = not-false (get_or l i z) t

pub ruleset decide = (eq-eqb, ne_eqb, lt-ltb, le-ltb, le-leb, lt-leb, off, on)
