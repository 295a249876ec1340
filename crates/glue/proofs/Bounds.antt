-- The largest count: 612000, at width 64 and all prices 255, with every code in use: each wiring at both sides, each carry in, TO0,
-- NOT TO0 and LO, TOCOUT and NOT TOCOUT, each comparison code, and each minterm, none of which all vectors have. It fits the 28 bits of a
-- mapping's count.
use mathlib.Core.Path.{◌≡◌, refl}
use mathlib.Core.Bool.{Bool, true, false, ◌||◌}
use mathlib.Core.List.{List, [], ◌∷◌}
use Prim.Native.Nat.{ℕ, ◌+◌, ◌-◌, ◌*◌, ◌^◌, ◌≤◌, ◌<◌}
use native.Mathlib.Nat.{mul-le-mul, add-le-add, le_refl, le_trans}
use native.Mathlib.Omega.{arith}
use lib.Dec.{leb}
use lib.ListN.{length}
use Rattle.std.specs.Prelude.{if◌then◌else◌}
use Rattle.words.specs.declared.Prices.{Prices}
use Rattle.bits.specs.Bits.{num, bit}
use Rattle.glue.specs.Glue.{InUse, some, distinct, steps, wirings, complements, carry_in, main_output, carry_out, code_price, codes_count, comparison, comparison_codes, scratch, count_of, glue, in_use, wiring_codes, carry_codes, output_codes, minterms, NOT-SI0, NOT-SI1, NOT-SICIN, NOT-TO0, NOT-TOCOUT}
use Rattle.glue.specs.Asked.{InRange}

num-most : (b : Bool) → num b ≤ 1
num-most true = omega arith
num-most false = omega arith

pub distinct-most : (used : ℕ → Bool) (ks : List ℕ) → distinct used ks ≤ length ks
unfolding distinct
distinct-most used [] = omega arith
distinct-most used (k ∷ ks) = let h = distinct-most used ks in omega (arith, num-most (used k))

-- at most one multiplexer fewer than there are codes
steps-most : (used : ℕ → Bool) (ks : List ℕ) → steps (distinct used ks) ≤ length ks - 1
steps-most used ks = let h = distinct-most used ks in omega arith

-- what is paid only if it is used is at most what is paid
when_most : (b : Bool) {x : ℕ} (most : ℕ) → x ≤ most → (if b then x else 0) ≤ most
when_most true most h = h
when_most false most h = omega arith

-- at most the prices of all listed codes
all_listed : (price : ℕ → ℕ) (used : ℕ → Bool) (ks : List ℕ) → codes_count price used ks ≤ codes_count price (λ k. true) ks
unfolding codes_count
all_listed price used [] = omega arith
all_listed price used (k ∷ ks) =
    let h = all_listed price used ks in omega (arith, when_most (used k) (price k) (le_refl (price k)))

module _ (p : Prices) (g : InRange p) where
  multiplexers : (used : ℕ → Bool) (ks : List ℕ) → steps (distinct used ks) * p.multiplexer ≤ (length ks - 1) * 255
  multiplexers used ks = mul-le-mul (steps-most used ks) g.multiplexer_fits

  inverter : (b : Bool) → (if b then p.inverter else 0) ≤ 255
  inverter b = when_most b 255 g.inverter_fits

  gates : (x most : ℕ) → x ≤ most → x * p.gate ≤ most * 255
  gates x most k = mul-le-mul k g.gate_fits

  pub carry_in-most : (u : InUse) → carry_in p u ≤ 1020
  unfolding carry_in
  carry_in-most u = add-le-add (multiplexers u.carry carry_codes) (inverter (u.carry NOT-SICIN))

  pub carry_out-most : (u : InUse) → carry_out p u ≤ 510
  unfolding carry_out
  carry_out-most u = add-le-add (multiplexers u.cout output_codes) (inverter (u.cout NOT-TOCOUT))

  module _ (n : ℕ) (h : n ≤ 64) where
    -- of the width
    wide_multiplexers : (d most : ℕ) → d ≤ most → d * n * p.multiplexer ≤ most * 64 * 255
    wide_multiplexers d most k = mul-le-mul (mul-le-mul k h) g.multiplexer_fits

    inverters : (b : Bool) → (if b then n * p.inverter else 0) ≤ 64 * 255
    inverters b = when_most b (64 * 255) (mul-le-mul h g.inverter_fits)

    pub codes_count-most : (used : ℕ → Bool) → codes_count (code_price n p) used comparison_codes ≤ 149940
    unfolding codes_count code_price
    codes_count-most used =
        le_trans (all_listed (code_price n p) used comparison_codes)
        (omega (arith, gates (n - 1) 63 (omega arith), gates n 64 h, gates (n + 1) 65 (omega arith)))

    module _ (u : InUse) where
      pub wirings-most : wirings n p u ≤ 163200
      unfolding wirings
      wirings-most =
          add-le-add
          (wide_multiplexers (steps (distinct u.left wiring_codes)) 5 (steps-most u.left wiring_codes))
          (wide_multiplexers (steps (distinct u.right wiring_codes)) 5 (steps-most u.right wiring_codes))

      pub complements-most : complements n p u ≤ 32640
      unfolding complements
      complements-most =
          add-le-add (inverters (u.left NOT-SI0 || u.right NOT-SI0)) (inverters (u.left NOT-SI1 || u.right NOT-SI1))

      pub main_most : main_output n p u ≤ 48960
      unfolding main_output
      main_most =
          let d = distinct-most u.main output_codes in
          let s : steps (distinct u.main output_codes + num u.LO) ≤ 2 = omega (arith, num-most u.LO) in
          add-le-add
          (wide_multiplexers (steps (distinct u.main output_codes + num u.LO)) 2 s)
          (inverters (u.main NOT-TO0))

      pub comparison_most : comparison n p u ≤ 153510
      unfolding comparison
      comparison_most = add-le-add (multiplexers u.code comparison_codes) (codes_count-most u.code)

      pub scratch-most : scratch n p u ≤ 212160
      unfolding scratch
      scratch-most =
          let d = distinct-most u.minterm minterms in
          let s : 3 * distinct u.minterm minterms - 1 - distinct u.common minterms ≤ 11 = omega arith in
          when_most (leb 1 (distinct u.minterm minterms)) 212160
          (add-le-add
          (add-le-add (mul-le-mul (mul-le-mul h s) g.gate_fits) (inverters (u.minterm 3 || u.minterm 2)))
          (inverters (u.minterm 3 || u.minterm 1)))

      count_most : count_of n p u ≤ 612000
      count_most =
          omega (arith, wirings-most, complements-most, carry_in-most u, main_most, carry_out-most u, comparison_most, scratch-most)

-- the glue count of any bindings at any width and prices
pub glue_most : (n : ℕ) (p : Prices) (ws : List ℕ) → n ≤ 64 → InRange p → glue n p ws ≤ 612000
unfolding glue
glue_most n p ws h g = count_most p g n h (in_use ws)

-- "bits 27..0 glue count"
pub glue_fits_lem : (n : ℕ) (p : Prices) (ws : List ℕ) → n ≤ 64 → InRange p → glue n p ws < 2 ^ 28
glue_fits_lem n p ws h g = omega (arith, glue_most n p ws h g)

-- reached: one binding for each comparison code, with every other code among them, and two from scratch, with all minterms and with none
dearest : glue 64 (record { inverter = 255; gate = 255; multiplexer = 255 })
    (0x60849681 ∷ 0x60852942 ∷ 0x6085BE83 ∷ 0x60864144 ∷
    0x6086D685 ∷ 0x60840946 ∷ 0x60849E87 ∷ 0x60852148 ∷
    0x6085B689 ∷ 0x6086494A ∷ 0x6086DE8B ∷ 0x6084014C ∷
    0x6084968D ∷ 0x6085294E ∷ 0x6085BE8F ∷ 0x6380000F ∷
    0x63000000 ∷ []) ≡ 612000
unfolding glue some distinct wirings complements carry_in main_output carry_out code_price codes_count comparison scratch bit
dearest = refl

-- the mapping of the printed job
printed : glue 16 (record { inverter = 1; gate = 1; multiplexer = 3 }) (0x60854960 ∷ 0x6185C960 ∷ 0x64000001 ∷ 0x6C89440C ∷ []) ≡ 132
unfolding glue some distinct wirings complements carry_in main_output carry_out code_price codes_count comparison scratch bit
printed = refl

-- no bindings
pub glue_none : (n : ℕ) (p : Prices) → glue n p [] ≡ 0
unfolding glue some distinct wirings complements carry_in main_output carry_out code_price codes_count comparison scratch
glue_none n p = omega arith
