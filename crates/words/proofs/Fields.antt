-- Fields taken out of a word by a shift and a mask, and laid side by side by `|`; fields below the kind.
use mathlib.Core.Path.{◌≡◌, ap, sym, ◌∙◌}
use Prim.Native.Nat.{ℕ, ◌+◌, ◌-◌, ◌*◌, ◌/◌, ◌%◌, ◌^◌, ◌<◌, ◌≤◌}
use native.Mathlib.Omega.{arith}
use native.Mathlib.Nat.{add-zero, div-one, mod-lt}
use lib.Bits.{bit_or, and_mask, or_shifted}
use lib.Pow.{split, shl_exact, shl_lt, pow_pos, mod-mod-pow, field as cut-Shr}
use Rattle.words.specs.Field.{field, content_of}

pub field_lt : (w at size : ℕ) → field w at size < 2 ^ size
field_lt w at size = mod-lt (w / 2 ^ at) (pow_pos size)

-- a field below the kind is one of the content
below_kind : (w at size : ℕ) → at + size ≤ 28 → field w at size ≡ field (content_of w) at size
below_kind w at size h =
    let e : 28 ≡ 28 - at - size + size + at = omega arith in
    sym (
    (λ i. div-one w i % 2 ^ e i / 2 ^ at % 2 ^ size)
    ∙ ap (λ (x : ℕ). x % 2 ^ size) (cut-Shr w (28 - at - size + size) at)
    ∙ mod-mod-pow (w / 2 ^ at) (28 - at - size) size)

-- so words that differ in their kind alone have the same
pub same_field : (v w at size : ℕ) → content_of v ≡ content_of w → at + size ≤ 28 → field v at size ≡ field w at size
same_field v w at size e h = below_kind v at size h ∙ ap (λ (x : ℕ). field x at size) e ∙ sym (below_kind w at size h)

-- n has no bit below k: `|` with a number below 2 ^ k adds
pub onto : {n m : ℕ} (k b : ℕ) → n ≡ m → m % 2 ^ k ≡ 0 → b < 2 ^ k → bit_or n b ≡ m + b
onto {n} {m} k b e z h =
    let q : m / 2 ^ k * 2 ^ k ≡ m = sym (add-zero _) ∙ ap (λ t. m / 2 ^ k * 2 ^ k + t) (sym z) ∙ split m k in
    ap (λ t. bit_or t b) (e ∙ sym q) ∙ or_shifted (m / 2 ^ k) k b h ∙ ap (λ t. t + b) q

-- the same with x of j bits shifted by k in 32 bits
pub laid : {n m : ℕ} (x j k : ℕ) → n ≡ m → m % 2 ^ (j + k) ≡ 0 → x < 2 ^ j → j + k ≤ 32 → bit_or n (x * 2 ^ k % 2 ^ 32) ≡ m + x * 2 ^ k
laid {n} {m} x j k e z h w = ap (λ t. bit_or n t) (shl_exact j k 32 h w) ∙ onto (j + k) (x * 2 ^ k) e z (shl_lt j k h)

pub ruleset masks = (div-one, and_mask)
