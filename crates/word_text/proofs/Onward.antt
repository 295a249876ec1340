-- What is found brings the text forward.
use mathlib.Core.Path.{◌≡◌, refl, sym, subst, ◌∙◌}
use Prim.Native.Nat.{ℕ, ◌^◌, ◌≤◌, ◌<◌}
use native.Mathlib.Omega.{arith}
use Rattle.std.specs.Prelude.{Option, None, Some, Result, Ok, Err}
use Rattle.hexadecimal.specs.Hex.{taken, last_word}
use Rattle.hexadecimal.specs.declared.Step.{Step}
use Rattle.console.specs.declared.Failed.{Failed}
use Rattle.word_text.specs.Next.{word_by, behind, found, after, Forward}
use Rattle.word_text.specs.declared.WordText.{WordText}

module _ (start at : ℕ) (l : start ≤ at) (h : at < 2 ^ 61) where
  -- nothing is said where nothing is found yet
  abbrev IfFound : Option (Option ℕ) → ℕ → Type 0
  IfFound None place = Unit {0}
  IfFound (Some word) place = Forward start word place

  if_over : (word : Option ℕ) → Forward start word (2 ^ 61)
  unfolding Forward
  if_over (Some w) = (omega arith, omega arith)
  if_over None = refl

  if_step : (step : Option Step) (t : WordText) → IfFound (word_by step) (behind step at t).at
  unfolding Forward
  if_step (Some (Step.Word w hex)) t = (omega arith, omega arith)
  if_step (Some (Step.More hex)) t = tt
  if_step None t = refl

  if_got : (got : Result (Option ℕ) Failed) (t : WordText) → IfFound (found got t) (after got at t).at
  if_got (Ok (Some byte)) t = if_step (taken t.hex byte) t
  if_got (Ok None) t = if_over (last_word t.hex)
  if_got (Err e) t = if_over None

  pub forward : (got : Result (Option ℕ) Failed) (t next : WordText) (r : Option (Option ℕ)) (word : Option ℕ) → r ≡ Some word
      → r ≡ found got t → next ≡ after got at t → Forward start word next.at
  forward got t next r word e f n =
      subst (λ (s : WordText). Forward start word s.at) (sym n)
      (subst (λ (o : Option (Option ℕ)). IfFound o (after got at t).at) (sym f ∙ e) (if_got got t))
