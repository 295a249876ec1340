-- How the sets of bindings join, and how the code comes to them.
use mathlib.Core.Path.{◌≡◌, refl, sym, ap, ap₂, ◌∙◌}
use mathlib.Core.List.{List, [], ◌∷◌, ◌++◌}
use Prim.Native.Nat.{ℕ, ◌+◌, ◌*◌, ◌/◌, ◌%◌, max}
use native.Mathlib.Omega.{arith}
use lib.Arith.{bin_ind}
use lib.Bits.{bit_or, or_step, or_shr, or_comm, or_self, or_zero_r}
use Rattle.std.specs.Prelude.{fold, if◌then◌else◌}
use Rattle.words.specs.Field.{content_of}
use Rattle.recipe.proofs.Content.{same_from_scratch, same_vector, same_fields}
use Rattle.usage.specs.Sets.{target_usage, scratch_usage, usage_of, usage}

or_low : (a b : ℕ) → bit_or a b % 2 ≡ max (a % 2) (b % 2)
or_low a b = omega (arith, or_step a b)

or_half : (a b : ℕ) → bit_or a b / 2 ≡ bit_or (a / 2) (b / 2)
or_half a b = or_shr a b 1

pub or_assoc : (a b c : ℕ) → bit_or (bit_or a b) c ≡ bit_or a (bit_or b c)
or_assoc =
    bin_ind (λ (a : ℕ). (b c : ℕ) → bit_or (bit_or a b) c ≡ bit_or a (bit_or b c)) (λ b c. refl)
    (λ a h b c.
    or_step (bit_or a b) c
    ∙ ap₂ (λ (x y : ℕ). x * 2 + y)
    (ap (λ (x : ℕ). bit_or x (c / 2)) (or_half a b) ∙ h (b / 2) (c / 2) ∙ ap (bit_or (a / 2)) (sym (or_half b c)))
    (ap (λ (x : ℕ). max x (c % 2)) (or_low a b) ∙ max_three (a % 2) (b % 2) (c % 2) ∙ ap (max (a % 2)) (sym (or_low b c)))
    ∙ sym (or_step a (bit_or b c)))
  where
    max_three : (x y z : ℕ) → max (max x y) z ≡ max x (max y z)
    max_three x y z = omega arith

-- the set of two lists of bindings is their sets joined
pub usage-append : (xs ys : List ℕ) → usage (xs ++ ys) ≡ bit_or (usage xs) (usage ys)
unfolding usage
usage-append [] ys = refl
usage-append (w ∷ xs) ys = ap (bit_or (usage_of w)) (usage-append xs ys) ∙ sym (or_assoc (usage_of w) (usage xs) (usage ys))

pub usage-one : (w : ℕ) → usage (w ∷ []) ≡ usage_of w
unfolding usage
usage-one w = or_zero_r (usage_of w)

-- one binding more
pub usage-more : (ws : List ℕ) (w : ℕ) → usage (ws ++ w ∷ []) ≡ bit_or (usage ws) (usage_of w)
usage-more ws w = usage-append ws (w ∷ []) ∙ ap (bit_or (usage ws)) (usage-one w)

-- the order does not matter
pub usage-swap : (xs ys : List ℕ) → usage (xs ++ ys) ≡ usage (ys ++ xs)
usage-swap xs ys = usage-append xs ys ∙ or_comm (usage xs) (usage ys) ∙ sym (usage-append ys xs)

-- a binding may stand anywhere
pub usage-move : (xs ys : List ℕ) (w : ℕ) → usage (xs ++ w ∷ ys) ≡ usage (w ∷ xs ++ ys)
unfolding usage
usage-move xs ys w =
    usage-append xs (w ∷ ys)
    ∙ sym (or_assoc (usage xs) (usage_of w) (usage ys))
    ∙ ap (λ (x : ℕ). bit_or x (usage ys)) (or_comm (usage xs) (usage_of w))
    ∙ or_assoc (usage_of w) (usage xs) (usage ys)
    ∙ ap (bit_or (usage_of w)) (sym (usage-append xs ys))

-- nor does it matter how often
pub usage-twice : (ws : List ℕ) → usage (ws ++ ws) ≡ usage ws
usage-twice ws = usage-append ws ws ∙ or_self (usage ws)

-- a rule and the binding made of it differ in their kind alone, so they use the same
pub usage-content : (v w : ℕ) → content_of v ≡ content_of w → usage_of v ≡ usage_of w
unfolding usage_of
usage-content v w e =
    λ i.
    if same_from_scratch v w e i then scratch_usage (same_vector v w e i)
    else target_usage (same_fields v w e i)

-- ---- how the code comes to the set

folded : (ws : List ℕ) (s : ℕ) → fold (λ u w. bit_or u (usage_of w)) s ws ≡ bit_or s (usage ws)
unfolding usage
folded [] s = sym (or_zero_r s)
folded (w ∷ ws) s = folded ws (bit_or s (usage_of w)) ∙ or_assoc s (usage_of w) (usage ws)

pub all_joined : (ws : List ℕ) → fold (λ u w. bit_or u (usage_of w)) 0 ws ≡ usage ws
all_joined ws = folded ws 0
