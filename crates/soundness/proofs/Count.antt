-- The glue count of what is bound: what the filled entries use, and the count of that set.
use mathlib.Core.Path.{◌≡◌, refl, sym, ap, ◌∙◌}
use mathlib.Core.Bool.{Bool, true, false}
use mathlib.Core.List.{List, [], ◌∷◌}
use Prim.Native.Nat.{ℕ, ◌≤◌}
use lib.Bits.{bit_or, or_zero_r}
use lib.Dec.{eqb}
use Rattle.std.specs.Prelude.{fold, if◌then◌else◌}
use Rattle.usage.specs.Sets.{usage_of, usage}
use Rattle.usage.proofs.Joining.{or_assoc}
use Rattle.tally.specs.Parts.{set_count}
use Rattle.tally.proofs.Joining.{price_is_glue}
use Rattle.soundness.specs.Sound.{filled, glue_on}
use Rattle.soundness.specs.declared.Tables.{Tables}

-- ---- what the filled entries use

pub usage-filled : (w : ℕ) (bs : List ℕ) → usage (filled (w ∷ bs)) ≡ bit_or (if eqb w 0 then 0 else usage_of w) (usage (filled bs))
unfolding filled usage
usage-filled w bs = go (eqb w 0)
  where
    go : (b : Bool) → usage (if b then filled bs else w ∷ filled bs) ≡ bit_or (if b then 0 else usage_of w) (usage (filled bs))
    go true = refl
    go false = refl

folded : (bs : List ℕ) (s : ℕ) → fold (λ u w. bit_or u (if eqb w 0 then 0 else usage_of w)) s bs ≡ bit_or s (usage (filled bs))
unfolding filled usage
folded [] s = sym (or_zero_r s)
folded (w ∷ bs) s =
    let x = if eqb w 0 then 0 else usage_of w in
    folded bs (bit_or s x) ∙ or_assoc s x (usage (filled bs)) ∙ ap (bit_or s) (sym (usage-filled w bs))

pub all_used : (bs : List ℕ) (r : ℕ) → r ≡ fold (λ u w. bit_or u (if eqb w 0 then 0 else usage_of w)) 0 bs → r ≡ usage (filled bs)
all_used bs r e = e ∙ folded bs 0

-- ---- the count

pub set_counted : (t : Tables) (bound : List ℕ) (u r : ℕ) → u ≡ usage (filled bound)
    → (r ≡ set_count t.width t.prices u) × (r ≤ 612000) → r ≡ glue_on t bound
unfolding glue_on
set_counted t bound u r eu h =
    h.0 ∙ ap (set_count t.width t.prices) eu ∙ price_is_glue t.width t.prices (filled bound)
