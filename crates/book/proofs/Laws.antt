-- Request #101, the book: "at least 200 distinct recipes ..., in rising order of source function, each passing 3, 5 and 6 and right at every
-- width from 1 to 64". One test over the table is computed, and each of these follows from it.
use mathlib.Core.Path.{◌≡◌, refl}
use Prim.Native.Nat.{ℕ, zero, suc, ◌≤◌, ◌<◌}
use native.Mathlib.Omega.{arith}
use native.Mathlib.Decide.{dec_lt}
use mathlib.Core.Bool.{Bool, true, false, ◌&&◌}
use mathlib.Core.List.{List, [], ◌∷◌}
use lib.Dec.{eqb, ltb, leb}
use lib.ListN.{length, get_or}
use borrow.Author.Tests.{eqb-true, ltb-true, leb-true}
use Rattle.std.specs.Prelude.{Option, Some, None}
use Rattle.words.specs.Field.{kind_of}
use Rattle.words.specs.Kinds.{RULE}
use Rattle.words.specs.declared.Fault.{Fault}
use Rattle.words.proofs.Choices.{and_split}
use Rattle.bits.specs.Bits.{bit}
use Rattle.alu.specs.Range.{is_function, is_width}
use Rattle.alu.proofs.Shown.{width_of}
use Rattle.recipe.specs.Fields.{source_of}
use Rattle.layout.specs.Layout.{is_logic, scratch_laid_out, target_laid_out, laid_out, reads_driven, reads_undriven, shows_source, shows_other, recipe_fault}
use Rattle.binding.specs.Binding.{recipe_of}
use Rattle.binding.specs.Right.{Right, claim_of, every}
use Rattle.book.specs.Book.{book}
use Rattle.book.proofs.Closed.{right_always, always_right}

-- ---- the test

abbrev faultless : Option Fault → Bool
faultless None = true
faultless (Some fault) = false

none_of : (o : Option Fault) → faultless o ≡ true → o ≡ None
none_of None h = refl
none_of (Some fault) h = absurd (false≢true h)
  where
    false≢true : false ≡ true → ⊥
    false≢true e = cc

-- a word by itself
abbrev sound : ℕ → Bool
sound w = eqb (kind_of w) RULE && (faultless (recipe_fault w) && right_always w)

-- a word and the one after it
abbrev rises : ℕ → ℕ → Bool
rises v w = ltb v w && leb (source_of v) (source_of w)

-- the words after one
abbrev passes : ℕ → List ℕ → Bool
passes v [] = true
passes v (w ∷ ws) = rises v w && (sound w && passes w ws)

-- the first word comes after 0
book-passes : passes 0 book ≡ true
unfolding book bit every recipe_of is_function is_logic scratch_laid_out target_laid_out laid_out reads_driven reads_undriven shows_source shows_other recipe_fault
book-passes = refl

-- ---- what it tells of the words

module _ (v w : ℕ) (ws : List ℕ) (h : passes v (w ∷ ws) ≡ true) where
  head_rises : rises v w ≡ true
  head_rises = (and_split (rises v w) (sound w && passes w ws) h).0

  head_sound : sound w ≡ true
  head_sound = (and_split (sound w) (passes w ws) (and_split (rises v w) (sound w && passes w ws) h).1).0

  tail_passes : passes w ws ≡ true
  tail_passes = (and_split (sound w) (passes w ws) (and_split (rises v w) (sound w && passes w ws) h).1).1

sound_at : (v : ℕ) (ws : List ℕ) → passes v ws ≡ true → (k : ℕ) → k < length ws → sound (get_or ws k 0) ≡ true
sound_at v [] h k l = absurd (omega arith)
sound_at v (w ∷ ws) h zero l = head_sound v w ws h
sound_at v (w ∷ ws) h (suc k) l = sound_at w ws (tail_passes v w ws h) k (omega arith)

rises_at : (v : ℕ) (ws : List ℕ) → passes v ws ≡ true → (k : ℕ) → suc k < length ws → rises (get_or ws k 0) (get_or ws (suc k) 0) ≡ true
rises_at v [] h k l = absurd (omega arith)
rises_at v (w ∷ []) h k l = absurd (omega arith)
rises_at v (w ∷ x ∷ ws) h zero l = head_rises w x ws (tail_passes v w (x ∷ ws) h)
rises_at v (w ∷ x ∷ ws) h (suc k) l = rises_at w (x ∷ ws) (tail_passes v w (x ∷ ws) h) k (omega arith)

sound_entry : (k : ℕ) → k < length book
    → (kind_of (get_or book k 0) ≡ RULE) × (recipe_fault (get_or book k 0) ≡ None) × (right_always (get_or book k 0) ≡ true)
sound_entry k l =
    let w : ℕ = get_or book k 0 in
    let p = and_split (eqb (kind_of w) RULE) (faultless (recipe_fault w) && right_always w) (sound_at 0 book book-passes k l) in
    let q = and_split (faultless (recipe_fault w)) (right_always w) p.1 in
    (eqb-true (kind_of w) RULE p.0, none_of (recipe_fault w) q.0, q.1)

rising_entry : (k : ℕ) → suc k < length book
    → (get_or book k 0 < get_or book (suc k) 0) × (source_of (get_or book k 0) ≤ source_of (get_or book (suc k) 0))
rising_entry k l =
    let v : ℕ = get_or book k 0 in
    let w : ℕ = get_or book (suc k) 0 in
    let p = and_split (ltb v w) (leb (source_of v) (source_of w)) (rises_at 0 book book-passes k l) in
    (ltb-true v w p.0, leb-true (source_of v) (source_of w) p.1)

-- what holds from each index to the next, and from one to another by way of a third, holds from each to each later one
later : (P : ℕ → ℕ → Type 0) → ((k : ℕ) → suc k < length book → P k (suc k)) → ((i j k : ℕ) → P i j → P j k → P i k)
    → (i j : ℕ) → i < j → j < length book → P i j
later P step by i zero h l = absurd (omega arith)
later P step by i (suc j) h l = elim (dec_lt i j) [
  | yes m ↦ by i j (suc j) (later P step by i j m (omega arith)) (step j l)
  | no m ↦ let e : i ≡ j = omega arith in rw e (step j l)
]

-- ---- the book

-- "at least 200"
pub at_least_200 : 200 ≤ length book
unfolding book
at_least_200 = leb-true 200 (length book) refl

-- "each passing 3, 5 and 6"
pub each_is_a_rule : (k : ℕ) → k < length book → (kind_of (get_or book k 0) ≡ RULE) × (recipe_fault (get_or book k 0) ≡ None)
each_is_a_rule k l = let p = sound_entry k l in (p.0, p.1)

-- "right at every width from 1 to 64"
pub each_is_right : (k : ℕ) → k < length book → (n : ℕ) → is_width n ≡ true → Right (claim_of (get_or book k 0)) n
each_is_right k l n h = always_right (get_or book k 0) (sound_entry k l).2 n (width_of n h).least

pub each_above_the_one_before : (k : ℕ) → suc k < length book → get_or book k 0 < get_or book (suc k) 0
each_above_the_one_before k l = (rising_entry k l).0

-- "distinct"
pub distinct : (i j : ℕ) → i < j → j < length book → get_or book i 0 < get_or book j 0
distinct = later (λ i j. get_or book i 0 < get_or book j 0) each_above_the_one_before (λ i j k p q. omega arith)

-- "in rising order of source function"
pub sources_rise : (i j : ℕ) → i < j → j < length book → source_of (get_or book i 0) ≤ source_of (get_or book j 0)
sources_rise = later (λ i j. source_of (get_or book i 0) ≤ source_of (get_or book j 0)) (λ k l. (rising_entry k l).1) (λ i j k p q. omega arith)
