-- The fields of a header and of prices.
use mathlib.Core.Path.{◌≡◌}
use mathlib.Core.List.{append_assoc, append-nil}
use Prim.Native.Nat.{ℕ, ◌/◌, ◌^◌, ◌<◌}
use native.Mathlib.Nat.{div-one}
use native.Mathlib.Omega.{arith}
use lib.Bits.{bit_and, and_mask, mask_lt}
use Rattle.words.specs.Field.{field}

pub width_field : (w : ℕ) → bit_and w 127 ≡ field w 0 7
width_field w = rw div-one (and_mask w 7)

pub book_field : (w : ℕ) → bit_and (w / 2 ^ 7) 1 ≡ field w 7 1
book_field w = and_mask (w / 2 ^ 7) 1

pub inverter_field : (w : ℕ) → bit_and (w / 2 ^ 16) 255 ≡ field w 16 8
inverter_field w = and_mask (w / 2 ^ 16) 8

pub gate_field : (w : ℕ) → bit_and (w / 2 ^ 8) 255 ≡ field w 8 8
gate_field w = and_mask (w / 2 ^ 8) 8

pub multiplexer_field : (w : ℕ) → bit_and w 255 ≡ field w 0 8
multiplexer_field w = rw div-one (and_mask w 8)

pub width_fits : (n : ℕ) → bit_and n 127 < 2 ^ 64
width_fits n = omega (arith, mask_lt n 7)

pub byte_fits : (n : ℕ) → bit_and n 255 < 2 ^ 64
byte_fits n = omega (arith, mask_lt n 8)

pub ruleset fields = (append_assoc, append-nil, width_field, book_field, inverter_field, gate_field, multiplexer_field, width_fits, byte_fits)
