-- A word without a fault, and words without a fault one after another.
use mathlib.Core.Path.{◌≡◌, refl, subst}
use mathlib.Core.Bool.{Bool, true, false, not, false≢true, true≢false}
use mathlib.Core.List.{List}
use Prim.Native.Nat.{ℕ, zero, suc, ◌+◌, ◌<◌}
use native.Mathlib.Omega.{arith}
use lib.ListN.{length, drop, get_or, drop_of_length-le}
use borrow.Author.Tests.{not-true, not-false}
use Rattle.std.specs.Prelude.{if◌then◌else◌, Option, Some, None, Result, Ok, Err}
use Rattle.words.specs.declared.Fault.{Fault}
use Rattle.words.specs.declared.Fault.TheVariants.{ReadsUndriven, OtherOutputs}
use Rattle.words.specs.Paper.{unless_fault}
use Rattle.words.specs.Field.{kind_of}
use Rattle.words.specs.Kinds.{is_recipe}
use Rattle.words.specs.declared.Refusal.{Refusal}
use Rattle.words.proofs.Choices.{either}
use Rattle.words.proofs.Lists.{drop-next}
use Rattle.layout.specs.Layout.{reads_undriven, shows_other}
use Rattle.sequence.specs.Sequence.{in_sequence}
use Rattle.grammar.specs.Reading.{fits, rises, word_fault, after, reading}
use Rattle.sequence.specs.declared.File.{File}
use Rattle.sequence.specs.declared.State.{State}

-- ---- the tests that a word has passed

pub record Faultless (file : File) (s : State) (w : ℕ) : Type 0 where
  pub in_sequence_lem : in_sequence file s (kind_of w) ≡ true
  pub layout : fits file w ≡ true
  pub order : rises s w ≡ true
  pub outputs : is_recipe (kind_of w) ≡ true → (reads_undriven w ≡ false) × (shows_other w ≡ false)

module _ (file : File) (s : State) (w : ℕ) where
  pub fault_free : word_fault file s w ≡ None → Faultless file s w
  unfolding word_fault
  fault_free =
      let Q : Option Fault → Type 0 = λ n. n ≡ None → Faultless file s w in
      either Q (not (in_sequence file s (kind_of w))) (λ _ e. absurd cc)
      (λ a. either Q (not (fits file w)) (λ _ e. absurd cc)
      (λ b. either Q (not (rises s w)) (λ _ e. absurd cc)
      (λ c.
      let given : (is_recipe (kind_of w) ≡ true → (reads_undriven w ≡ false) × (shows_other w ≡ false)) → Faultless file s w =
      λ o.
      record {
        in_sequence_lem = not-false (in_sequence file s (kind_of w)) a;
        layout = not-false (fits file w) b;
        order = not-false (rises s w) c;
        outputs = o;
      } in
      either Q (not (is_recipe (kind_of w))) (λ d _. given (λ r. absurd (apart (is_recipe (kind_of w)) r (not-true (is_recipe (kind_of w)) d))))
      (λ _. either Q (reads_undriven w) (λ _ e. absurd cc)
      (λ u. either Q (shows_other w) (λ _ e. absurd cc) (λ v _. given (λ _. (u, v))))))))
    where
      apart : (b : Bool) → b ≡ true → b ≡ false → ⊥
      apart true p q = true≢false q
      apart false p q = false≢true p

  pub no_fault : Faultless file s w → word_fault file s w ≡ None
  unfolding word_fault
  no_fault p = rw (p.in_sequence_lem, p.layout, p.order) (by_kind (is_recipe (kind_of w)) refl)
    where
      by_kind : (b : Bool) → is_recipe (kind_of w) ≡ b
          → ◌≡◌ {A = Option Fault} (if not b then None else if reads_undriven w then Some ReadsUndriven else if shows_other w then Some OtherOutputs else None) None
      by_kind false e = refl
      by_kind true e = let o = p.outputs e in rw (o.0, o.1) refl

-- ---- words without a fault one after another

pub apart : {Q : Type 0} (r : Refusal) (t : State) → Err r ≡ Ok t → Q
apart r t e = let z : ◌≡◌ {A = ℕ} 0 1 = cc in absurd (omega arith)

-- what a word without a fault keeps up, holds after the last
module _ (file : File) (ws : List ℕ) (P : State → ℕ → Type 0)
    (keeps : (s : State) (i : ℕ) → i < length ws → Faultless file s (get_or ws i 0) → P s i → P (after s (get_or ws i 0)) (i + 1)) where
  pub passed : (n i : ℕ) (s t : State) → i + n ≡ length ws → P s i → reading file s i (drop i ws) ≡ Ok t → P t (length ws)
  passed zero i s t h p e =
      let l : i ≡ length ws = omega arith in
      let q : Ok s ≡ Ok t = rw (drop_of_length-le ws {i = i} (omega arith)) at e in
      let u : s ≡ t = cc in
      subst (λ x. P x (length ws)) u (subst (λ x. P s x) l p)
  passed (suc n) i s t h p e =
      let w = get_or ws i 0 in
      let l : i < length ws = omega arith in
      by_fault (word_fault file s w) refl
      (λ z. passed n (i + 1) (after s w) t (omega arith) (keeps s i l (fault_free file s w z) p))
      (rw (drop-next ws i l) at e)
    where
      by_fault : {R : Type 0} (o : Option Fault) {x : Result State Refusal} → word_fault file s (get_or ws i 0) ≡ o
          → (word_fault file s (get_or ws i 0) ≡ None → x ≡ Ok t → R) → unless_fault o i x ≡ Ok t → R
      by_fault None h f = f h
      by_fault (Some fault) h f = apart _ t
