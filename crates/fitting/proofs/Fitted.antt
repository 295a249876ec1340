-- The bindings of a mapping one by one; and a mapping fits its job exactly if its width and each binding do.
use mathlib.Core.Path.{◌≡◌, refl}
use mathlib.Core.Logic.{◌↔◌}
use mathlib.Core.Bool.{true, not}
use mathlib.Core.List.{List, [], ◌∷◌}
use Prim.Native.Nat.{ℕ, zero, suc, ◌+◌, ◌≤◌, ◌<◌}
use native.Mathlib.Omega.{arith}
use lib.Dec.{eqb}
use lib.ListN.{length, drop, get_or, drop_of_length-le}
use borrow.Author.Tests.{eq-eqb, eqb-true, not-false}
use Rattle.std.specs.Prelude.{if◌then◌else◌, Result, Ok, Err, ⊤}
use Rattle.words.specs.Paper.{refusal}
use Rattle.words.proofs.Choices.{either}
use Rattle.words.proofs.Lists.{drop-next}
use Rattle.reader.specs.Starts.{bindings_start}
use Rattle.reader.specs.declared.Mapping.{Mapping}
use Rattle.table.specs.Parts.{Terms}
use Rattle.table.specs.Table.{in_job}
use Rattle.fitting.specs.Fitting.{all_in_job, fit_of}
use Rattle.words.specs.declared.Refusal.{Refusal}
use Rattle.words.specs.declared.Fault.TheVariants.{NotInJob}

-- ---- the loop over the bindings

module _ (ss ts ws : List ℕ) (place i : ℕ) where
  pub next_binding : i < length ws
      → all_in_job ss ts place (drop i ws)
      ≡ (if not (in_job ss ts (get_or ws i 0)) then Err (refusal NotInJob place) else all_in_job ss ts (place + 1) (drop (i + 1) ws))
  unfolding all_in_job
  next_binding h = rw (drop-next ws i h) refl

  pub none_strange : length ws ≤ i → all_in_job ss ts place (drop i ws) ≡ Ok tt
  unfolding all_in_job
  none_strange h = rw (drop_of_length-le ws h) refl

-- ---- a mapping fits exactly if the widths are the same and each binding is in the job

module _ (ss ts : List ℕ) where
  abbrev EachInJob : List ℕ → Type 0
  EachInJob ws = (i : ℕ) → i < length ws → in_job ss ts (get_or ws i 0) ≡ true

  each_here : (ws : List ℕ) (place : ℕ) → all_in_job ss ts place ws ≡ Ok tt → EachInJob ws
  unfolding all_in_job
  each_here [] place e = λ i l. absurd (omega arith)
  each_here (w ∷ ws) place e =
      either (λ (x : Result ⊤ Refusal). x ≡ Ok tt → EachInJob (w ∷ ws)) (not (in_job ss ts w))
      (λ _ u. absurd (let z : ◌≡◌ {A = ℕ} 0 1 = cc in omega arith))
      (λ b u. more (not-false (in_job ss ts w) b) (each_here ws (place + 1) u)) e
    where
      more : in_job ss ts w ≡ true → EachInJob ws → EachInJob (w ∷ ws)
      more b each zero l = b
      more b each (suc i) l = each i (omega arith)

  here_each : (ws : List ℕ) (place : ℕ) → EachInJob ws → all_in_job ss ts place ws ≡ Ok tt
  unfolding all_in_job
  here_each [] place h = refl
  here_each (w ∷ ws) place h = rw (h 0 (omega arith)) (here_each ws (place + 1) (λ i l. h (suc i) (omega arith)))

pub fits_exactly : (t : Terms) (m : Mapping) (ws : List ℕ)
    → (fit_of t m ws ≡ (Ok tt)) ↔ ((t.width ≡ m.width) × ((i : ℕ) → i < length ws → in_job t.sources t.targets (get_or ws i 0) ≡ true))
unfolding fit_of
fits_exactly t m ws = (
  either (λ (x : Result ⊤ Refusal). x ≡ Ok tt → (t.width ≡ m.width) × EachInJob t.sources t.targets ws) (not (eqb t.width m.width))
      (λ _ u. absurd (let z : ◌≡◌ {A = ℕ} 0 1 = cc in omega arith))
      (λ b u. (
        eqb-true t.width m.width (not-false (eqb t.width m.width) b),
        each_here t.sources t.targets ws bindings_start u,
      )),
  λ h. rw (eq-eqb t.width m.width h.0) (here_each t.sources t.targets ws bindings_start h.1),
)
