-- Document 01, "Glue count". The words are rules or bindings: only their fields matter.
use Rattle.std.specs.Prelude.{ℕ, ◌+◌, ◌-◌, ◌*◌, Bool, false, not, ◌&&◌, ◌||◌, List, [], ◌∷◌, eqb, leb, get_or, if◌then◌else◌}
use Rattle.words.specs.declared.Prices.{Prices}
use Rattle.bits.specs.Bits.{num, bit}
use Rattle.recipe.specs.Fields.{from_scratch, vector_of, fields_of}
use Rattle.recipe.specs.declared.Fields.{Fields}

-- ---- what is in use

-- some word of the list passes the test
unfoldable pub some : (ℕ → Bool) → List ℕ → Bool
some test [] = false
some test (w ∷ ws) = test w || some test ws

-- "Wirings and carry in count every binding with a target, whether the target reads them or not, and no scratch binding"; nor
-- does a scratch binding have an output code
abbrev pub has_code : (Fields → ℕ) → ℕ → ℕ → Bool
has_code port k w = not (from_scratch w) && eqb (port (fields_of w)) k

abbrev pub used_at : (Fields → ℕ) → List ℕ → ℕ → Bool
used_at port ws k = some (has_code port k) ws

-- a scratch binding whose vector has bit i, and one whose vector lacks it
abbrev pub has_minterm : ℕ → ℕ → Bool
has_minterm i w = from_scratch w && bit (vector_of w) i

abbrev pub lacks_minterm : ℕ → ℕ → Bool
lacks_minterm i w = from_scratch w && not (bit (vector_of w) i)

-- what a set of bindings uses: of each port, whether a code is in use; LO; which minterms are in the union of the vectors; and which of
-- these no vector lacks, "a minterm that all scratch functions of a mapping need" (request #106)
pub record InUse : Type 0 where
  pub left : ℕ → Bool
  pub right : ℕ → Bool
  pub carry : ℕ → Bool
  pub main : ℕ → Bool
  pub cout : ℕ → Bool
  pub code : ℕ → Bool
  pub LO : Bool
  pub minterm : ℕ → Bool
  pub common : ℕ → Bool

abbrev pub in_use : List ℕ → InUse
in_use ws =
    record {
      left = used_at (λ r. r.left) ws;
      right = used_at (λ r. r.right) ws;
      carry = used_at (λ r. r.carry) ws;
      main = used_at (λ r. r.main) ws;
      cout = used_at (λ r. r.cout) ws;
      code = used_at (λ r. r.code) ws;
      LO = some from_scratch ws;
      minterm = λ i. some (has_minterm i) ws;
      common = λ i. some (has_minterm i) ws && not (some (lacks_minterm i) ws);
    }

-- how many of the listed codes are in use
unfoldable pub distinct : (ℕ → Bool) → List ℕ → ℕ
distinct used [] = 0
distinct used (k ∷ ks) = num (used k) + distinct used ks

-- "steps means d−1, or 0 when d is 0": a difference of natural numbers stops at 0
abbrev pub steps : ℕ → ℕ
steps d = d - 1

-- ---- the codes of each port; "an output's code 0 is not in use"

abbrev pub wiring_codes : List ℕ
wiring_codes = 0 ∷ 1 ∷ 2 ∷ 3 ∷ 4 ∷ 5 ∷ []

abbrev pub carry_codes : List ℕ
carry_codes = 0 ∷ 1 ∷ 2 ∷ 3 ∷ []

-- TO0 and NOT TO0, or TOCOUT and NOT TOCOUT
abbrev pub output_codes : List ℕ
output_codes = 1 ∷ 2 ∷ []

abbrev pub comparison_codes : List ℕ
comparison_codes = 1 ∷ 2 ∷ 3 ∷ 4 ∷ 5 ∷ 6 ∷ 7 ∷ 8 ∷ 9 ∷ 10 ∷ 11 ∷ 12 ∷ 13 ∷ 14 ∷ 15 ∷ []

abbrev pub minterms : List ℕ
minterms = 0 ∷ 1 ∷ 2 ∷ 3 ∷ []

abbrev pub NOT-SI0 : ℕ
NOT-SI0 = 3

abbrev pub NOT-SI1 : ℕ
NOT-SI1 = 5

abbrev pub NOT-SICIN : ℕ
NOT-SICIN = 3

abbrev pub NOT-TO0 : ℕ
NOT-TO0 = 2

abbrev pub NOT-TOCOUT : ℕ
NOT-TOCOUT = 2

-- ---- the count, line by line: width n, prices a = inverter, b = gate, m = multiplexer

-- "Left, right: steps × n × m each."
unfoldable pub wirings : ℕ → Prices → InUse → ℕ
wirings n p u =
    steps (distinct u.left wiring_codes) * n * p.multiplexer
    + steps (distinct u.right wiring_codes) * n * p.multiplexer

-- "NOT SI0 used anywhere: n × a, once; NOT SI1 likewise."
unfoldable pub complements : ℕ → Prices → InUse → ℕ
complements n p u =
    (if u.left NOT-SI0 || u.right NOT-SI0 then n * p.inverter else 0)
    + (if u.left NOT-SI1 || u.right NOT-SI1 then n * p.inverter else 0)

-- "Carry in: steps × m; a if NOT SICIN is used."
unfoldable pub carry_in : Prices → InUse → ℕ
carry_in p u =
    steps (distinct u.carry carry_codes) * p.multiplexer + (if u.carry NOT-SICIN then p.inverter else 0)

-- "Main (TO0, NOT TO0, LO): steps × n × m; n × a if NOT TO0 is used."
unfoldable pub main_output : ℕ → Prices → InUse → ℕ
main_output n p u =
    steps (distinct u.main output_codes + num u.LO) * n * p.multiplexer
    + (if u.main NOT-TO0 then n * p.inverter else 0)

-- "Carry out: steps × m; a if NOT is used. Overflow: nothing."
unfoldable pub carry_out : Prices → InUse → ℕ
carry_out p u =
    steps (distinct u.cout output_codes) * p.multiplexer + (if u.cout NOT-TOCOUT then p.inverter else 0)

-- "1, 7: 0; 2, 8: a; 3, 5: (n−1)b; 4, 6: (n−1)b+a; 9, 10: nb+a; 11: nb+2a; 12: b; 13: b+a; 14: (n+1)b+a; 15: (n+1)b+2a"
abbrev pub code_prices : ℕ → ℕ → ℕ → List ℕ
code_prices n a b =
    0  -- 0 is not in use
    ∷ 0  -- 1 TO1
    ∷ a  -- 2 NOT TO1
    ∷ ((n - 1) * b)  -- 3 GOR
    ∷ ((n - 1) * b + a)  -- 4 GNOR
    ∷ ((n - 1) * b)  -- 5 GAND
    ∷ ((n - 1) * b + a)  -- 6 GNAND
    ∷ 0  -- 7 S
    ∷ a  -- 8 NOT S
    ∷ (n * b + a)  -- 9 S OR GNOR
    ∷ (n * b + a)  -- 10 NOT S AND GOR
    ∷ (n * b + 2 * a)  -- 11 NOT S AND GNOR
    ∷ b  -- 12 S XOR TOVF
    ∷ (b + a)  -- 13 NOT of 12
    ∷ ((n + 1) * b + a)  -- 14 (code 12) OR GNOR
    ∷ ((n + 1) * b + 2 * a)  -- 15 NOT of 14
    ∷ []

unfoldable pub code_price : ℕ → Prices → ℕ → ℕ
code_price n p k = get_or (code_prices n p.inverter p.gate) k 0

-- the prices of the listed codes that are in use
unfoldable pub codes_count : (ℕ → ℕ) → (ℕ → Bool) → List ℕ → ℕ
codes_count price used [] = 0
codes_count price used (k ∷ ks) = (if used k then price k else 0) + codes_count price used ks

-- "Comparison: steps × m, and for each distinct code" its price
unfoldable pub comparison : ℕ → Prices → InUse → ℕ
comparison n p u =
    steps (distinct u.code comparison_codes) * p.multiplexer + codes_count (code_price n p) u.code comparison_codes

-- "(minterm, control gate, joining)" of t minterms in the union; and request #106: "The library vendors no longer gate a minterm that all
-- scratch functions of a mapping need. With c such minterms the scratch gates are n × (3t−1−c) × b for t ≥ 1"
abbrev pub gates : InUse → ℕ
gates u =
    let t = distinct u.minterm minterms in
    let c = distinct u.common minterms in
    3 * t - 1 - c

-- "Scratch: with t minterms in the union of the vectors, t ≥ 1": these gates, "plus n × a if bit 3 or 2 is in the union, and n × a if
-- bit 3 or 1 is."
unfoldable pub scratch : ℕ → Prices → InUse → ℕ
scratch n p u =
    if leb 1 (distinct u.minterm minterms)
    then n * gates u * p.gate
    + (if u.minterm 3 || u.minterm 2 then n * p.inverter else 0)
    + (if u.minterm 3 || u.minterm 1 then n * p.inverter else 0)
    else 0

-- the lines together
abbrev pub count_of : ℕ → Prices → InUse → ℕ
count_of n p u =
    wirings n p u + complements n p u + carry_in p u + main_output n p u + carry_out p u + comparison n p u + scratch n p u

-- the glue count of some bindings at a width and prices
unfoldable pub glue : ℕ → Prices → List ℕ → ℕ
glue n p ws = count_of n p (in_use ws)
