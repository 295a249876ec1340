-- Fields shifted to their bits and joined by `|`, from the highest to the lowest, are the packed word.
use mathlib.Core.Path.{◌≡◌}
use Prim.Native.Nat.{ℕ, ◌*◌, ◌%◌, ◌^◌}
use native.Mathlib.Omega.{arith}
use lib.Bits.{bit_or}
use lib.Pow.{shl_exact}
use Rattle.words.proofs.Fields.{laid, onto}
use Rattle.recipe.specs.Fields.{packed}
use Rattle.recipe.specs.Asked.{Fit}
use Rattle.recipe.specs.declared.Fields.{Fields}

module _ (k : ℕ) (r : Fields) (h : Fit k r) where
  pub joined : bit_or (bit_or (bit_or (bit_or (bit_or (bit_or (bit_or (bit_or (bit_or (bit_or (k * 2 ^ 28 % 2 ^ 32)
      (r.source * 2 ^ 23 % 2 ^ 32)) (r.target * 2 ^ 18 % 2 ^ 32)) (r.left * 2 ^ 15 % 2 ^ 32)) (r.right * 2 ^ 12 % 2 ^ 32))
      (r.carry * 2 ^ 10 % 2 ^ 32)) (r.main * 2 ^ 8 % 2 ^ 32)) (r.cout * 2 ^ 6 % 2 ^ 32)) (r.ovf * 2 ^ 5 % 2 ^ 32))
      (r.blank * 2 ^ 4 % 2 ^ 32)) r.code ≡ packed k r
  joined =
      let source = laid r.source 5 23 (shl_exact 4 28 32 h.kind_fits (omega arith)) (omega arith) h.source_fits (omega arith) in
      let target = laid r.target 5 18 source (omega arith) h.target_fits (omega arith) in
      let left = laid r.left 3 15 target (omega arith) h.left_fits (omega arith) in
      let right = laid r.right 3 12 left (omega arith) h.right_fits (omega arith) in
      let carry = laid r.carry 2 10 right (omega arith) h.carry_fits (omega arith) in
      let main = laid r.main 2 8 carry (omega arith) h.main_fits (omega arith) in
      let cout = laid r.cout 2 6 main (omega arith) h.cout_fits (omega arith) in
      let ovf = laid r.ovf 1 5 cout (omega arith) h.ovf_fits (omega arith) in
      let blank = laid r.blank 1 4 ovf (omega arith) h.blank_fits (omega arith) in
      onto 4 r.code blank (omega arith) h.code_fits
