-- A function on its own inputs is the function.
use mathlib.Core.Path.{◌≡◌, refl}
use mathlib.Core.Bool.{Bool}
use Prim.Native.Nat.{ℕ}
use Rattle.alu.specs.Function.{function_of, ports}
use Rattle.binding.specs.Binding.{plain, side_shows}

pub plain-shows : (f n l r : ℕ) (c : Bool) → side_shows (plain f) n l r c ≡ ports (function_of f) n l r c
unfolding side_shows
plain-shows f n l r c = refl
