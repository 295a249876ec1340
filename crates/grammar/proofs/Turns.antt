-- The words one after another: each turn of the loop, and its ways out.
use mathlib.Core.Path.{◌≡◌, refl, sym, subst, ◌∙◌}
use mathlib.Core.Bool.{Bool, true, false}
use mathlib.Core.List.{List}
use Prim.Native.Nat.{ℕ, ◌+◌, ◌<◌, ◌≤◌}
use native.Mathlib.Omega.{arith}
use lib.Dec.{eqb}
use lib.ListN.{length, drop, get_or, drop_of_length-le}
use Rattle.std.specs.Prelude.{Option, Some, None, Result, Ok, Err}
use Rattle.words.specs.Field.{kind_of}
use Rattle.words.specs.Paper.{refusal, unless_fault}
use Rattle.words.specs.declared.Fault.{Fault}
use Rattle.words.proofs.Lists.{drop-next}
use Rattle.grammar.specs.Asked.{Counted}
use Rattle.grammar.specs.Reading.{word_fault, function_in, raised, noted, after, unless, step_of, reading}
use Rattle.sequence.specs.declared.File.{File}
use Rattle.sequence.specs.declared.State.{State}
use Rattle.words.specs.declared.Refusal.{Refusal}

-- what follows a step
onward : Result State Fault → ℕ → (State → Result State Refusal) → Result State Refusal
onward (Ok t) i rest = rest t
onward (Err fault) i rest = Err (refusal fault i)

by_step : (f : Option Fault) (t : State) (i : ℕ) (rest : State → Result State Refusal) → unless_fault f i (rest t) ≡ onward (unless f t) i rest
unfolding onward
by_step None t i rest = refl
by_step (Some fault) t i rest = refl

module _ (file : File) (ws : List ℕ) (s : State) (i : ℕ) (r : Result State Refusal) (d : Result State Fault) where
  opened : reading file s i (drop i ws) ≡ r → i < length ws → d ≡ step_of file s (get_or ws i 0)
      → onward d i (λ t. reading file t (i + 1) (drop (i + 1) ws)) ≡ r
  opened e h p =
      let w = get_or ws i 0 in
      rw p (sym (by_step (word_fault file s w) (after s w) i (λ t. reading file t (i + 1) (drop (i + 1) ws)))
      ∙ (rw (drop-next ws i h) at e))

  pub turn : (t : State) → reading file s i (drop i ws) ≡ r → i < length ws → d ≡ step_of file s (get_or ws i 0) → d ≡ Ok t
      → reading file t (i + 1) (drop (i + 1) ws) ≡ r
  unfolding onward
  turn t e h p q = rw q at (opened e h p)

  pub stop : (fault : Fault) → reading file s i (drop i ws) ≡ r → i < length ws → d ≡ step_of file s (get_or ws i 0) → d ≡ Err fault
      → Err (refusal fault i) ≡ r
  unfolding onward
  stop fault e h p q = rw q at (opened e h p)

pub at_end : (file : File) (ws : List ℕ) (s : State) (i : ℕ) (r : Result State Refusal) → reading file s i (drop i ws) ≡ r → length ws ≤ i → Ok s ≡ r
at_end file ws s i r e h = rw (drop_of_length-le ws h) at e

-- ---- no kind is counted more often than there are words

raised-le : (n : ℕ) (b : Bool) → raised n b ≤ n + 1
raised-le n true = omega arith
raised-le n false = omega arith

Grown : ℕ → Result State Fault → Type 0
Grown i (Ok t) = Counted t (i + 1)
Grown i (Err fault) = Unit

grown : (o : Option Fault) (s : State) (k f i : ℕ) → Counted s i → Grown i (unless o (noted k f s))
unfolding Grown
grown None s k f i c =
    omega
    (arith, raised-le s.sources (eqb k 3), raised-le s.targets (eqb k 4), raised-le s.rules (eqb k 5), raised-le s.bindings (eqb k 6))
grown (Some fault) s k f i c = tt

pub one_more : (file : File) (s t : State) (w i : ℕ) (d : Result State Fault) → d ≡ step_of file s w → d ≡ Ok t → Counted s i → Counted t (i + 1)
unfolding Grown
one_more file s t w i d p q c = subst (Grown i) (sym p ∙ q) (grown (word_fault file s w) s (kind_of w) (function_in w) i c)

pub ruleset turns = (turn, stop, at_end, one_more)
