-- The count of the set that some bindings use is their glue count.
use mathlib.Core.Path.{◌≡◌, refl, sym, ap, ap₂, ◌∙◌}
use mathlib.Core.Bool.{Bool, false, not, ◌&&◌, ◌||◌}
use mathlib.Core.List.{List, [], ◌∷◌, ◌++◌}
use Prim.Native.Nat.{ℕ, ◌%◌, ◌^◌, ◌<◌}
use native.Mathlib.Nat.{zero-div, zero-mod}
use native.Mathlib.Decide.{dec_lt}
use native.Mathlib.Omega.{arith}
use lib.Bits.{bit_or}
use Rattle.words.specs.Field.{field}
use Rattle.words.specs.declared.Prices.{Prices}
use Rattle.bits.specs.Bits.{bit}
use Rattle.recipe.specs.Fields.{from_scratch}
use Rattle.usage.specs.Sets.{usage_of, usage}
use Rattle.words.proofs.Fields.{field_lt}
use Rattle.usage.proofs.Bits.{or_bit, or_field, bit-zero, bit_past}
use Rattle.usage.proofs.Codes.{left_has, right_has, carry_has, main_has, cout_has, code_has, LO-has, minterm_has, minterm_lacks}
use Rattle.usage.proofs.Joining.{usage-more}
use Rattle.glue.specs.Glue.{some, has_minterm, lacks_minterm, in_use, count_of, glue}
use Rattle.tally.specs.Parts.{parts_of, used, set_count}

-- ---- what the set says is in use is in use

-- a test that one bit of each binding's set decides
in_some : (at size k : ℕ) (test : ℕ → Bool) → ((w : ℕ) → bit (field (usage_of w) at size) k ≡ test w)
    → (ws : List ℕ) → bit (field (usage ws) at size) k ≡ some test ws
unfolding usage some
in_some at size k test one [] =
    ap (λ (x : ℕ). bit (x % 2 ^ size) k) (zero-div (2 ^ at)) ∙ ap (λ (x : ℕ). bit x k) (zero-mod (2 ^ size)) ∙ bit-zero k
in_some at size k test one (w ∷ ws) =
    ap (λ (x : ℕ). bit x k) (or_field (usage_of w) (usage ws) at size)
    ∙ or_bit (field (usage_of w) at size) (field (usage ws) at size) k
    ∙ ap₂ (λ (x y : Bool). x || y) (one w) (in_some at size k test one ws)

minterms_used : (ws : List ℕ) (k : ℕ) → bit (field (usage ws) 45 4) k ≡ some (has_minterm k) ws
minterms_used ws k = in_some 45 4 k (has_minterm k) (λ w. minterm_has w k) ws

-- past the four minterms nothing is in use
common_used : (ws : List ℕ) (k : ℕ) → bit (field (usage ws) 45 4) k && not (bit (field (usage ws) 49 4) k)
    ≡ some (has_minterm k) ws && not (some (lacks_minterm k) ws)
common_used ws k = elim (dec_lt k 4) [
  | yes h ↦ λ i. minterms_used ws k i && not (in_some 49 4 k (lacks_minterm k) (λ w. minterm_lacks w k h) ws i)
  | no h ↦ past h
]
  where
    past : (k < 4 → ⊥) → bit (field (usage ws) 45 4) k && not (bit (field (usage ws) 49 4) k)
        ≡ some (has_minterm k) ws && not (some (lacks_minterm k) ws)
    past h =
        let e : bit (field (usage ws) 45 4) k ≡ false = bit_past (field (usage ws) 45 4) 4 k (field_lt (usage ws) 45 4) (omega arith) in
        rw (e, sym (minterms_used ws k) ∙ e) refl

all_used : (ws : List ℕ) → used (parts_of (usage ws)) ≡ in_use ws
all_used ws = λ i.
    record {
      left = λ k. in_some 0 8 k _ (λ w. left_has w k) ws i;
      right = λ k. in_some 8 8 k _ (λ w. right_has w k) ws i;
      carry = λ k. in_some 16 4 k _ (λ w. carry_has w k) ws i;
      main = λ k. in_some 20 4 k _ (λ w. main_has w k) ws i;
      cout = λ k. in_some 24 4 k _ (λ w. cout_has w k) ws i;
      code = λ k. in_some 28 16 k _ (λ w. code_has w k) ws i;
      LO = in_some 44 1 0 from_scratch LO-has ws i;
      minterm = λ k. minterms_used ws k i;
      common = λ k. common_used ws k i;
    }

-- the count of the set is the glue count
pub price_is_glue : (n : ℕ) (p : Prices) (ws : List ℕ) → set_count n p (usage ws) ≡ glue n p ws
unfolding set_count glue
price_is_glue n p ws = ap (count_of n p) (all_used ws)

-- the glue of the bindings so far and one more: the count of the set so far joined with that binding's
pub glue_more : (n : ℕ) (p : Prices) (ws : List ℕ) (w : ℕ) → set_count n p (bit_or (usage ws) (usage_of w)) ≡ glue n p (ws ++ w ∷ [])
glue_more n p ws w = ap (set_count n p) (sym (usage-more ws w)) ∙ price_is_glue n p (ws ++ w ∷ [])

-- the same of what the code has in hand: a set, one binding's set, and their count
pub glue_with : (n : ℕ) (p : Prices) (ws : List ℕ) (w set one r : ℕ) → set ≡ usage ws → one ≡ usage_of w
    → r ≡ set_count n p (bit_or set one) → r ≡ glue n p (ws ++ w ∷ [])
glue_with n p ws w set one r es eo er = er ∙ (λ i. set_count n p (bit_or (es i) (eo i))) ∙ glue_more n p ws w

-- bindings that use the same have the same glue
pub glue_same : (n : ℕ) (p : Prices) (xs ys : List ℕ) → usage xs ≡ usage ys → glue n p xs ≡ glue n p ys
glue_same n p xs ys e = sym (price_is_glue n p xs) ∙ ap (set_count n p) e ∙ price_is_glue n p ys
