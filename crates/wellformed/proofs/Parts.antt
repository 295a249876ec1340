-- Parts of a list of words: what holds of each word of a part, and what rises from each to the next.
use mathlib.Core.Path.{◌≡◌, sym, subst}
use mathlib.Core.Logic.{⊎_elim}
use mathlib.Core.List.{List}
use Prim.Native.Nat.{ℕ, zero, suc, ◌+◌, ◌*◌, ◌<◌, ◌≤◌, ◌^◌}
use native.Mathlib.Nat.{eq-or-lt_of_le, add-zero}
use native.Mathlib.Omega.{arith}
use borrow.Author.Count.{below_more}
use lib.ListN.{get_or}
use Rattle.std.specs.Prelude.{None}
use Rattle.words.specs.Field.{kind_of, content_of, target_function}
use Rattle.words.specs.Kinds.{SOURCE, TARGET}
use Rattle.layout.specs.Layout.{recipe_fault}

-- P holds of each of the n words from an index on
abbrev pub Each : (ℕ → Type 0) → List ℕ → ℕ → ℕ → Type 0
Each P ws start n = (m : ℕ) → m < n → P (get_or ws (start + m) 0)

-- f rises strictly from each of the n words from an index on to the next
abbrev pub Rising : (ℕ → ℕ) → List ℕ → ℕ → ℕ → Type 0
Rising f ws start n = (m : ℕ) → m + 1 < n → f (get_or ws (start + m) 0) < f (get_or ws (start + (m + 1)) 0)

-- a source word: a function's number
pub record SourceWord (w : ℕ) : Type 0 where
  pub kind_is : kind_of w ≡ SOURCE
  pub least : 1 ≤ content_of w
  pub most : content_of w ≤ 27

-- a target word: a function's number, and a mark above it
pub record TargetWord (w : ℕ) : Type 0 where
  pub kind_is : kind_of w ≡ TARGET
  pub up_to_mark : content_of w < 2 ^ 6
  pub least : 1 ≤ target_function w
  pub most : target_function w ≤ 27

-- a rule or binding word: a kind and a recipe that passes 3, 5 and 6
pub record RecipeWord (kind w : ℕ) : Type 0 where
  pub kind_is : kind_of w ≡ kind
  pub no_fault : recipe_fault w ≡ None

pub kind_of-laid : (k c : ℕ) → k < 2 ^ 4 → c < 2 ^ 28 → kind_of (k * 2 ^ 28 + c) ≡ k
kind_of-laid k c h g = omega arith

pub content_of-laid : (k c : ℕ) → c < 2 ^ 28 → content_of (k * 2 ^ 28 + c) ≡ c
content_of-laid k c g = omega arith

module _ (ws : List ℕ) (start n : ℕ) where
  module _ (P : ℕ → Type 0) where
    pub each_none : n ≡ 0 → Each P ws start n
    each_none e m h = absurd (omega arith)

    pub each_more : (i : ℕ) → i ≡ start + n → Each P ws start n → P (get_or ws i 0) → Each P ws start (n + 1)
    each_more i e all here = below_more (λ m. P (get_or ws (start + m) 0)) n all (subst (λ (x : ℕ). P (get_or ws x 0)) e here)

  module _ (f : ℕ → ℕ) where
    pub rising_none : n ≡ 0 → Rising f ws start n
    rising_none e m h = absurd (omega arith)

    pub rising_more : (i : ℕ) → i ≡ start + n → Rising f ws start n
        → ((m : ℕ) → m + 1 ≡ n → f (get_or ws (start + m) 0) < f (get_or ws i 0)) → Rising f ws start (n + 1)
    rising_more i e all here m h =
        ⊎_elim
        (λ (p : m + 1 ≡ n). subst (λ (x : ℕ). f (get_or ws (start + m) 0) < f (get_or ws x 0)) (omega arith) (here m p))
        (λ p. all m p) (eq-or-lt_of_le (omega arith))

    -- from any word of the part to any later one
    pub rising_far : Rising f ws start n → (i d : ℕ) → i + d + 1 < n → f (get_or ws (start + i) 0) < f (get_or ws (start + (i + d + 1)) 0)
    rising_far r i zero h = subst (λ (x : ℕ). f (get_or ws (start + i) 0) < f (get_or ws (start + (x + 1)) 0)) (sym (add-zero i)) (r i (omega arith))
    rising_far r i (suc d) h =
        let near = rising_far r i d (omega arith) in
        let far = r (i + d + 1) (omega arith) in
        let e : i + d + 1 + 1 ≡ i + suc d + 1 = omega arith in
        subst (λ (x : ℕ). f (get_or ws (start + i) 0) < f (get_or ws (start + x) 0)) e (omega (arith, near, far))

    -- f may be told by another number on words of which P holds
    pub rising_as : (P : ℕ → Type 0) (g : ℕ → ℕ) → ((w : ℕ) → P w → f w ≡ g w) → Each P ws start n → Rising f ws start n → Rising g ws start n
    rising_as P g same each r m h =
        let a = same _ (each m (omega arith)) in
        let b = same _ (each (m + 1) h) in
        omega (arith, a, b, r m h)
