-- The first word of a list that fails a test: what the definitions of 9 and 10 pick.
use mathlib.Core.Path.{◌≡◌, refl, sym, ◌∙◌}
use mathlib.Core.Bool.{Bool, true, false, not, false≢true}
use mathlib.Core.List.{List, [], ◌∷◌}
use Prim.Native.Nat.{ℕ, zero, suc, ◌≤◌, ◌<◌}
use native.Mathlib.Decide.{dec_lt}
use native.Mathlib.Omega.{arith}
use lib.ListN.{length, get_or}
use borrow.Author.Tests.{not-false}
use Rattle.std.specs.Prelude.{Some, None, Result, Ok, ⊤}
use Rattle.words.specs.Field.{source_function}
use Rattle.words.proofs.Choices.{either}
use Rattle.recipe.specs.Fields.{source_of}
use Rattle.binding.specs.Right.{is_right}
use Rattle.verdict.specs.Verdicts.{Ruling, Names}
use Rattle.table.specs.Parts.{Terms}
use Rattle.table.proofs.Entries.{found_at, at_found}
use Rattle.claims.specs.Claim.{claim_in}
use Rattle.checker.specs.Check.{CheckRuled}
use Rattle.rightness.specs.Rightness.{unless_wrong}
use Rattle.completeness.specs.Complete.{binds, first_unbound}
use Rattle.checker.specs.declared.CheckError.{CheckError}

-- the word at k fails, and those before it pass
pub record First (p : ℕ → Bool) (ws : List ℕ) (k : ℕ) : Type 0 where
  pub within : k < length ws
  pub fails : p (get_or ws k 0) ≡ false
  pub before : (i : ℕ) → i < k → p (get_or ws i 0) ≡ true

-- each word passes
abbrev pub Passes : (ℕ → Bool) → List ℕ → Type 0
Passes p ws = (i : ℕ) → i < length ws → p (get_or ws i 0) ≡ true

module _ (p : ℕ → Bool) where
  first_here : (w : ℕ) (ws : List ℕ) → p w ≡ false → First p (w ∷ ws) 0
  first_here w ws e = record { within = omega arith; fails = e; before = λ i h. absurd (omega arith) }

  first_later : (w : ℕ) (ws : List ℕ) (k : ℕ) → p w ≡ true → First p ws k → First p (w ∷ ws) (suc k)
  first_later w ws k e q = record { within = omega (arith, q.within); fails = q.fails; before = earlier }
    where
      earlier : (i : ℕ) → i < suc k → p (get_or (w ∷ ws) i 0) ≡ true
      earlier zero h = e
      earlier (suc i) h = q.before i (omega arith)

  -- a word that fails is the first, or there is one before it
  pub first_failing : (ws : List ℕ) (i : ℕ) → i < length ws → p (get_or ws i 0) ≡ false → (k : ℕ) × First p ws k
  first_failing [] i h e = absurd (omega arith)
  first_failing (w ∷ ws) zero h e = (0, first_here w ws e)
  first_failing (w ∷ ws) (suc i) h e = let r = first_failing ws i (omega arith) e in go (p w) refl r.0 r.1
    where
      go : (b : Bool) → p w ≡ b → (k : ℕ) → First p ws k → (m : ℕ) × First p (w ∷ ws) m
      go false u k q = (0, first_here w ws u)
      go true u k q = (suc k, first_later w ws k u q)

  -- and none that fails comes before it
  pub first_least : (ws : List ℕ) (k : ℕ) → First p ws k → (i : ℕ) → p (get_or ws i 0) ≡ false → k ≤ i
  first_least ws k q i e =
      elim (dec_lt i k) [ yes l ↦ absurd (false≢true (sym e ∙ q.before i l)) | no l ↦ omega arith ]

  pub passes_rest : (w : ℕ) (ws : List ℕ) → Passes p (w ∷ ws) → Passes p ws
  passes_rest w ws h i l = h (suc i) (omega arith)

  pub passes_more : (w : ℕ) (ws : List ℕ) → p w ≡ true → Passes p ws → Passes p (w ∷ ws)
  passes_more w ws e h zero l = e
  passes_more w ws e h (suc i) l = h i (omega arith)

  first_rest : (w : ℕ) (ws : List ℕ) (k : ℕ) → First p (w ∷ ws) (suc k) → First p ws k
  first_rest w ws k q =
      record { within = omega (arith, q.within); fails = q.fails; before = λ i h. q.before (suc i) (omega arith) }

-- ---- a function that is bound

pub bound_at : (ws : List ℕ) (f : ℕ) → binds ws f ≡ true → (k : ℕ) × ((k < length ws) × (source_of (get_or ws k 0) ≡ f))
unfolding binds
bound_at ws f e = at_found source_of ws f e

pub at_bound : (ws : List ℕ) (f k : ℕ) → k < length ws → source_of (get_or ws k 0) ≡ f → binds ws f ≡ true
unfolding binds
at_bound ws f k h e = found_at source_of ws f k h e

-- ---- 9

-- the function of a source word is bound
abbrev pub bound_in : List ℕ → ℕ → Bool
bound_in ws s = binds ws (source_function s)

module _ (ws : List ℕ) where
  pub all_bound_none : (ss : List ℕ) → Passes (bound_in ws) ss → first_unbound ss ws ≡ None
  unfolding first_unbound
  all_bound_none [] h = refl
  all_bound_none (s ∷ ss) h = rw (h 0 (omega arith)) (all_bound_none ss (passes_rest (bound_in ws) s ss h))

  pub unbound_first : (ss : List ℕ) (k : ℕ) → First (bound_in ws) ss k → first_unbound ss ws ≡ Some (source_function (get_or ss k 0))
  unfolding first_unbound
  unbound_first [] k q = absurd (omega (arith, q.within))
  unbound_first (s ∷ ss) zero q = rw q.fails refl
  unbound_first (s ∷ ss) (suc k) q = rw (q.before 0 (omega arith)) (unbound_first ss k (first_rest (bound_in ws) s ss k q))

  pub none_all_bound : (ss : List ℕ) → first_unbound ss ws ≡ None → Passes (bound_in ws) ss
  unfolding first_unbound
  none_all_bound [] e = λ i h. absurd (omega arith)
  none_all_bound (s ∷ ss) e =
      either (λ x. x ≡ None → Passes (bound_in ws) (s ∷ ss)) (not (bound_in ws s))
      (λ b u. absurd (let z : ◌≡◌ {A = ℕ} 0 1 = cc in omega arith))
      (λ b u. passes_more (bound_in ws) s ss (not-false (bound_in ws s) b) (none_all_bound ss u))
      e

-- ---- 10

-- a binding's claim holds under a job's terms
abbrev pub right_under : Terms → ℕ → Bool
right_under t w = is_right (claim_in t.sources t.targets w) t.width

module _ (t : Terms) (next : Ruling (Result ⊤ CheckError)) where
  pub all_right_next : (ws : List ℕ) → Passes (right_under t) ws → unless_wrong t ws next ≡ next
  unfolding unless_wrong
  all_right_next [] h = refl
  all_right_next (w ∷ ws) h = rw (h 0 (omega arith)) (all_right_next ws (passes_rest (right_under t) w ws h))

  pub wrong_first : (ws : List ℕ) (k : ℕ) → First (right_under t) ws k
      → unless_wrong t ws next ≡ Names (claim_in t.sources t.targets (get_or ws k 0)) t.width
  unfolding unless_wrong
  wrong_first [] k q = absurd (omega (arith, q.within))
  wrong_first (w ∷ ws) zero q = rw q.fails refl
  wrong_first (w ∷ ws) (suc k) q = rw (q.before 0 (omega arith)) (wrong_first ws k (first_rest (right_under t) w ws k q))

  -- only where each is right can the answer be Accepted
  pub accepted_all_right : (ws : List ℕ) → CheckRuled (unless_wrong t ws next) (Ok tt) → Passes (right_under t) ws × CheckRuled next (Ok tt)
  unfolding unless_wrong
  accepted_all_right [] h = (λ i l. absurd (omega arith), h)
  accepted_all_right (w ∷ ws) h =
      either (λ x. CheckRuled x (Ok tt) → Passes (right_under t) (w ∷ ws) × CheckRuled next (Ok tt)) (not (right_under t w))
      (λ _ u. absurd u)
      (λ b u. let r = accepted_all_right ws u in (passes_more (right_under t) w ws (not-false (right_under t w) b) r.0, r.1)) h
