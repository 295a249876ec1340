-- One place: which of the four states that share what both sides remember fail there, or lead to states that fail.
use mathlib.Core.Path.{◌≡◌, refl, sym, ap, ap₂, ◌∙◌}
use Prim.Native.Nat.{ℕ, ◌+◌, ◌*◌, ◌/◌, ◌%◌, ◌^◌, ◌<◌}
use native.Mathlib.Omega.{arith}
use mathlib.Core.Bool.{Bool, true, false, not, ◌&&◌, ◌||◌, beq}
use lib.Dec.{eqb}
use lib.Bits.{bit_or, or_lt, bit_xor, xor_lt}
use lib.Pow.{shr-shr}
use borrow.Author.Tests.{eqb-true}
use Rattle.std.specs.Prelude.{Option, Some, None}
use Rattle.bits.specs.Bits.{num, bit, exor, word}
use Rattle.bits.proofs.Words.{word_lt, word_mod, word-ext, word-zeros, word_ones, bit_word}
use Rattle.output.specs.Output.{shown_bit, shown_comparison}
use Rattle.output.specs.declared.Outputs.{Outputs}
use Rattle.binding.specs.Right.{every}
use Rattle.binding.specs.declared.Side.{Side}
use Rattle.binding.specs.declared.Recipe.{Recipe}
use Rattle.binding.proofs.Tests.{every-at}
use Rattle.automaton.specs.Machine.{cell_of, next_by, alike_by, low_bit}
use Rattle.automaton.specs.declared.Cell.{Cell}
use Rattle.equivalence.specs.Shown.{high, memory, ripple_of, group_of, orders, shown_of, whole}
use Rattle.equivalence.specs.States.{index_of, shown_at}
use Rattle.equivalence.specs.Sets.{fails_by, after, pulled, group_by, group_by_pair}
use Rattle.equivalence.specs.declared.shown.Shown.{Shown}
use Rattle.equivalence.proofs.States.{low_of, high_of}
use Rattle.equivalence.proofs.Words.{or_word, xor_word}

-- ---- the two maps

-- a group after a bit, as a table of sixteen
pulls : Bool → (ℕ → ℕ) → ℕ → Bool
pulls b f group = eqb (f group) (pulled b group)

pub pulled_by_one : (group : ℕ) → group < 16 → group / 2 % 2 * 3 + group / 8 * 12 ≡ pulled true group
unfolding pulls every pulled word bit
pulled_by_one group h = eqb-true _ _ (every-at 16 (pulls true (λ g. g / 2 % 2 * 3 + g / 8 * 12)) refl group h)

pub pulled_by_zero : (group : ℕ) → group < 16 → group % 4 * 5 ≡ pulled false group
unfolding pulls every pulled word bit
pulled_by_zero group h = eqb-true _ _ (every-at 16 (pulls false (λ g. g % 4 * 5)) refl group h)

joins : Bool → ℕ → Bool
joins b k = eqb (num (low_bit k || b) + 2 * num (high k && b)) (after b k)

joined : (b : Bool) (k : ℕ) → k < 4 → num (low_bit k || b) + 2 * num (high k && b) ≡ after b k
unfolding joins every
joined true k h = eqb-true _ _ (every-at 4 (joins true) refl k h)
joined false k h = eqb-true _ _ (every-at 4 (joins false) refl k h)

after_lt : (b : Bool) (k : ℕ) → k < 4 → after b k < 4
after_lt true k h = omega arith
after_lt false k h = omega arith

low_after : (b : Bool) (k : ℕ) → k < 4 → low_bit (after b k) ≡ low_bit k || b
low_after b k h = ap low_bit (sym (joined b k h)) ∙ low_of (low_bit k || b) (high k && b)

high_after : (b : Bool) (k : ℕ) → k < 4 → high (after b k) ≡ high k && b
high_after b k h = ap high (sym (joined b k h)) ∙ high_of (low_bit k || b) (high k && b)

-- the bits of a group are bits of the set
set_bit : (set m n k : ℕ) → k < n → bit (set / 2 ^ m % 2 ^ n) k ≡ bit set (m + k)
unfolding bit
set_bit set m n k h =
    ap (λ (w : ℕ). bit w k) (sym (word_mod n (set / 2 ^ m))) ∙ bit_word n (bit (set / 2 ^ m)) k h
    ∙ ap (λ (x : ℕ). eqb (x % 2) 1) (shr-shr set m k)

-- ---- of the four states of two cells those that fail

pull_word : (b : Bool) (f : ℕ → Bool) → pulled b (word 4 f) ≡ word 4 (λ k. f (after b k))
unfolding pulled
pull_word b f = word-ext 4 (λ k. bit (word 4 f) (after b k)) (λ k. f (after b k)) (λ k h. bit_word 4 f (after b k) (after_lt b k h))

xor_not : (x y : Bool) → exor x y ≡ not (beq y x)
xor_not true true = refl
xor_not true false = refl
xor_not false true = refl
xor_not false false = refl

pub orders_lt : (code : ℕ) (to1 s tovf : Bool) → orders code to1 s tovf < 16
unfolding orders
orders_lt code to1 s tovf = word_lt 4 (λ k. shown_comparison code to1 (low_bit k) (high k) s tovf)

pub xor_fits : (a b : ℕ) → a < 16 → b < 16 → bit_xor a b < 16
xor_fits a b h l = xor_lt 4 a b h l

pub join_fits : (a : ℕ) (differs : Bool) → a < 16 → bit_or a (15 * num differs) < 16
join_fits a true h = or_lt 4 a 15 h (omega arith)
join_fits a false h = or_lt 4 a 0 h (omega arith)

join_all : (differs : Bool) (f : ℕ → Bool) → bit_or (word 4 f) (15 * num differs) ≡ word 4 (λ k. f k || differs)
join_all true f = ap (bit_or (word 4 f)) (sym (word_ones 4)) ∙ or_word 4 f (λ k. true)
join_all false f = ap (bit_or (word 4 f)) (sym (word-zeros 4)) ∙ or_word 4 f (λ k. false)

join_pulled : (b : Bool) (group : ℕ) (differs : Bool) → bit_or (pulled b group) (15 * num differs) ≡ word 4 (λ k. bit group (after b k) || differs)
unfolding pulled
join_pulled b group differs = join_all differs (λ k. bit group (after b k))

-- a port differs, told in the order in which the code asks
top_ports : (a b c d : Bool) → not d || (not a || (not b || not c)) ≡ not (a && (b && (c && d)))
top_ports true true true true = refl
top_ports true true true false = refl
top_ports true true false true = refl
top_ports true true false false = refl
top_ports true false c true = refl
top_ports true false c false = refl
top_ports false b c true = refl
top_ports false b c false = refl

or_comm : (a b : Bool) → a || b ≡ b || a
or_comm true true = refl
or_comm true false = refl
or_comm false true = refl
or_comm false false = refl

module _ (o : Outputs) (p q : Cell) where
  -- O1 as the recipe shows it where any and all are the bits of k
  order : ℕ → Bool
  order k = shown_comparison o.code q.order (low_bit k) (high k) q.bit q.overflow

  orders_differ : pulled q.bit (bit_xor (orders 1 p.order p.bit p.overflow) (orders o.code q.order q.bit q.overflow))
      ≡ word 4 (λ k. exor p.order (order (after q.bit k)))
  unfolding orders order
  orders_differ = ap (pulled q.bit) (xor_word 4 (λ k. p.order) order) ∙ pull_word q.bit (λ k. exor p.order (order k))

  order_there : (k : ℕ) → k < 4 → exor p.order (order (after q.bit k))
      ≡ not (beq (shown_comparison o.code q.order (low_bit k || q.bit) (high k && q.bit) q.bit q.overflow) p.order)
  unfolding order
  order_there k h =
      (λ i. exor p.order (shown_comparison o.code q.order (low_after q.bit k h i) (high_after q.bit k h i) q.bit q.overflow)) ∙ xor_not p.order _

  pub next_index : (k : ℕ) → k < 4 → index_of (next_by p q (low_bit k) (high k)) ≡ 4 * group_of (memory p.ripple) (memory q.ripple) + after q.bit k
  next_index k h = let e = joined q.bit k h in omega arith

  set_there : (set k : ℕ) → k < 4 → bit (set / 2 ^ (4 * group_of (memory p.ripple) (memory q.ripple)) % 16) (after q.bit k) ≡ bit set (index_of (next_by p q (low_bit k) (high k)))
  set_there set k h =
      set_bit set (4 * group_of (memory p.ripple) (memory q.ripple)) 4 (after q.bit k) (after_lt q.bit k h) ∙ sym (ap (bit set) (next_index k h))

  -- the law of the top place and of one place
  place : (above : Option ℕ) → group_by above (shown_of whole p) (shown_of o q) ≡ word 4 (λ k. fails_by o above p q (low_bit k) (high k))
  place None =
      let cout : Bool = beq (shown_bit o.cout q.carry) p.carry in
      let ovf : Bool = beq (shown_bit o.ovf q.overflow) p.overflow in
      let differ : Bool = not (alike_by o p q) || (not cout || not ovf) in
      ap (λ (x : ℕ). bit_or x (15 * num differ)) orders_differ
      ∙ join_all differ (λ k. exor p.order (order (after q.bit k)))
      ∙ word-ext 4 (λ k. exor p.order (order (after q.bit k)) || differ) (λ k. fails_by o None p q (low_bit k) (high k))
      (λ k h. ap (λ (x : Bool). x || differ) (order_there k h) ∙ top_ports (alike_by o p q) cout ovf _)
  place (Some set) =
      let there : ℕ = set / 2 ^ (4 * group_of (memory p.ripple) (memory q.ripple)) % 16 in
      let differ : Bool = not (alike_by o p q) in
      join_pulled q.bit there differ
      ∙ word-ext 4 (λ k. bit there (after q.bit k) || differ) (λ k. fails_by o (Some set) p q (low_bit k) (high k))
      (λ k h. or_comm (bit there (after q.bit k)) differ ∙ ap (λ (x : Bool). differ || x) (set_there set k h))

pub place_shown : (s : Side) (t : Recipe) (above : Option ℕ) (g pair : ℕ) (u v : Shown) → u ≡ shown_at whole s (g / 4) pair → v ≡ shown_at t.outputs t.target (g % 4) pair
    → group_by above u v ≡ group_by_pair s t above g pair
unfolding group_by_pair
place_shown s t above g pair u v eu ev =
    ap₂ (group_by above) eu ev
    ∙ place t.outputs (cell_of s (ripple_of (g / 4)) (high pair) (low_bit pair)) (cell_of t.target (ripple_of (g % 4)) (high pair) (low_bit pair)) above
