-- A bit at each of some places, below a word.
use mathlib.Core.Path.{◌≡◌, ◌∙◌, subst}
use Prim.Native.Nat.{ℕ, zero, suc, ◌+◌, ◌-◌, ◌*◌, ◌%◌, ◌^◌, ◌≤◌, ◌<◌}
use native.Mathlib.Nat.{pow-suc, one-mul, mul_comm, mul_assoc, add-mul}
use Rattle.std.proofs.Math.Nat.{mul-le-mul_right}
use native.Mathlib.Omega.{arith}
use lib.Pow.{pow_pos, pow-add, shl_exact}
use Rattle.equivalence.specs.Sets.{run}

module _ (l : ℕ) where
  twice : (d : ℕ) → 2 ^ suc d * l ≡ 2 * (2 ^ d * l)
  twice d = rw (pow-suc, mul_comm (2 ^ d) 2) (mul_assoc 2 (2 ^ d) l)

  pub run_next : (d b : ℕ) → b < 2 → b + 2 * run d b l ≡ run (suc d) b l
  run_next d zero h = let e = twice d in omega arith
  run_next d (suc zero) h = let e = twice d in let p = pow_pos d in let q = pow-suc 2 d in omega arith
  run_next d (suc (suc b)) h = absurd (omega arith)

  pub run_lt : (d e b : ℕ) → b < 2 → l < 2 ^ e → run d b l < 2 ^ (d + e)
  run_lt d e b h k =
      let m : (l + 1) * 2 ^ d ≤ 2 ^ e * 2 ^ d = mul-le-mul_right (2 ^ d) (omega arith) in
      let n : (l + 1) * 2 ^ d ≡ 2 ^ d * l + 2 ^ d = add-mul l 1 (2 ^ d) ∙ (λ i. mul_comm l (2 ^ d) i + one-mul (2 ^ d) i) in
      let p : 2 ^ (d + e) ≡ 2 ^ e * 2 ^ d = pow-add 2 d e ∙ mul_comm (2 ^ d) (2 ^ e) in
      let q : b * (2 ^ d - 1) ≤ 2 ^ d - 1 = ones_le b h in
      let z = pow_pos d in
      omega arith
    where
      ones_le : (b : ℕ) → b < 2 → b * (2 ^ d - 1) ≤ 2 ^ d - 1
      ones_le zero h = omega arith
      ones_le (suc zero) h = omega arith
      ones_le (suc (suc b)) h = absurd (omega arith)

  pub run_none : (b : ℕ) → run 0 b l ≡ l
  run_none b = omega arith

  pub run_one : (b : ℕ) → run 1 b l ≡ b + 2 * l
  run_one b = omega arith

-- ---- the code's shifts

pub one_shifted : (d : ℕ) → d < 64 → 1 * 2 ^ d % 2 ^ 64 ≡ 2 ^ d
one_shifted d h = shl_exact {a = 1} 1 d 64 (omega arith) (omega arith) ∙ one-mul (2 ^ d)

pub shifted : (l d : ℕ) → d < 64 → l < 2 ^ (64 - d) → l * 2 ^ d % 2 ^ 64 ≡ 2 ^ d * l
shifted l d h k = shl_exact {a = l} (64 - d) d 64 k (omega arith) ∙ mul_comm l (2 ^ d)

-- a run of d places below a word of the other places is a word
pub run_fits : (l d b : ℕ) → b < 2 → d < 64 → l < 2 ^ (64 - d) → b * (2 ^ d - 1) + 2 ^ d * l < 2 ^ 64
run_fits l d b h k m = let e : d + (64 - d) ≡ 64 = omega arith in subst (λ (x : ℕ). run d b l < 2 ^ x) e (run_lt l d (64 - d) b h m)
