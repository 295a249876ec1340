-- The sets of failing states: how a round makes one, that one which repeats stays, and that a state outside it agrees at all operands.
use mathlib.Core.Path.{◌≡◌, refl, sym, ap, ap₂, ◌∙◌}
use Prim.Native.Nat.{ℕ, zero, suc, ◌+◌, ◌-◌, ◌*◌, ◌/◌, ◌%◌, ◌^◌, ◌≤◌, ◌<◌}
use native.Mathlib.Nat.{lt_of_lt_of_le, mul-suc}
use native.Mathlib.Numerals.{add-one}
use native.Mathlib.Omega.{arith}
use mathlib.Core.Bool.{Bool, true, false, not, ◌&&◌, ◌||◌, true≢false}
use lib.Bits.{bit_or}
use lib.Dec.{ltb}
use lib.Pow.{pow_mono, shl_exact}
use borrow.Author.Tests.{lt-ltb, le-ltb, not-false}
use Rattle.std.specs.Prelude.{Option, Some, None}
use Rattle.bits.specs.Bits.{bit, word}
use Rattle.bits.proofs.Words.{word_lt, word-ext, bit_word}
use Rattle.binding.specs.declared.Side.{Side}
use Rattle.binding.specs.declared.Recipe.{Recipe}
use Rattle.automaton.specs.Machine.{cell_of, next, alike, last, low_bit, agrees_from}
use Rattle.automaton.specs.declared.State.{State}
use Rattle.equivalence.specs.Shown.{high}
use Rattle.equivalence.specs.States.{state_in, index_of, state_of, memories, can_be}
use Rattle.equivalence.specs.Sets.{fails_by, fails, some, member, group_by_pair, group_at, of_row, row_at, round, failing}
use Rattle.equivalence.proofs.Memories.{few}
use Rattle.equivalence.proofs.Words.{or_word, above_word, cut_word}
use Rattle.equivalence.proofs.States.{index_lt, state_index, state_at, held, next_held}

-- ---- a group

module _ (s : Side) (t : Recipe) (above : Option ℕ) (g : ℕ) where
  pub some_pair : (a b c d : ℕ) → can_be s t g ≡ true
      → a ≡ group_by_pair s t above g 0 → b ≡ group_by_pair s t above g 1 → c ≡ group_by_pair s t above g 2 → d ≡ group_by_pair s t above g 3
      → bit_or a (bit_or b (bit_or c d)) ≡ group_at s t above g
  unfolding group_by_pair group_at
  some_pair a b c d h ea eb ec ed =
      let f : ℕ → ℕ → Bool = λ k. fails s t above (state_in g k) in
      (λ i. bit_or (ea i) (bit_or (eb i) (bit_or (ec i) (ed i))))
      ∙ ap (bit_or (word 4 (λ k. f k 0))) (ap (bit_or (word 4 (λ k. f k 1))) (or_word 4 (λ k. f k 2) (λ k. f k 3)) ∙ or_word 4 (λ k. f k 1) (λ k. f k 2 || f k 3))
      ∙ or_word 4 (λ k. f k 0) (λ k. f k 1 || (f k 2 || f k 3))
      ∙ word-ext 4 (λ k. some (f k)) (λ k. member s t above (4 * g + k))
      (λ k l.
      let e : (4 * g + k) / 4 ≡ g = omega arith in
      ap (λ (a : State). some (fails s t above a)) (sym (state_at g k l)) ∙ rw (e, h) refl)

  pub group_lt : group_at s t above g < 16
  unfolding group_at
  group_lt = word_lt 4 (λ k. member s t above (4 * g + k))

pub placed_there : (word at : ℕ) → word < 2 ^ 16 → at ≤ 48 → word * 2 ^ at % 2 ^ 64 ≡ word * 2 ^ at
placed_there word at h l = shl_exact {a = word} 16 at 64 h (omega arith)

no_source : (a b c : Bool) → a ≡ false → (a && b) && c ≡ false
no_source a b c h = rw h refl

no_target : (a b c : Bool) → b ≡ false → (a && b) && c ≡ false
no_target true b c h = rw h refl
no_target false b c h = refl

-- ---- blocks of a word, laid one above another: groups in a row, rows in a round

module _ (size : ℕ) (f : ℕ → Bool) where
  laid_next : (w b x q : ℕ) → w ≡ word (size * q) f → x ≡ word size (λ k. f (size * q + k)) → b ≡ x * 2 ^ (size * q)
      → w + b ≡ word (size * (q + 1)) f
  laid_next w b x q e v u =
      ap₂ ◌+◌ e (u ∙ ap (λ (z : ℕ). z * 2 ^ (size * q)) v)
      ∙ above_word (size * q) size f ∙ ap (λ (k : ℕ). word k f) (sym (ap (λ (k : ℕ). size * k) (add-one q) ∙ mul-suc size q))

  laid_fits : (w q : ℕ) → w ≡ word (size * q) f → size * q ≤ 64 → w < 2 ^ 64
  laid_fits w q e h = rw e (lt_of_lt_of_le (word_lt (size * q) f) (pow_mono {i = size * q} {j = 64} h))

-- ---- the groups in which the source remembers p

module _ (s : Side) (t : Recipe) (above : Option ℕ) (p : ℕ) where
  pub row_start : 0 ≡ word (4 * 0) (of_row s t above p)
  unfolding word
  row_start = refl

  pub within : (q : ℕ) → p < memories s.kind → q < memories t.target.kind → can_be s t (4 * p + q) ≡ true
  within q h l =
      let k = few t.target.kind in
      let e : (4 * p + q) / 4 ≡ p = omega arith in
      let r : (4 * p + q) % 4 ≡ q = omega arith in
      rw (e, r, lt-ltb p (memories s.kind) h) (lt-ltb q (memories t.target.kind) l)

  -- the group is what the row has there
  group_there : (q : ℕ) → group_at s t above (4 * p + q) ≡ word 4 (λ k. of_row s t above p (4 * q + k))
  unfolding group_at of_row
  group_there q = word-ext 4 _ _ (λ k h. let i : 4 * (4 * p + q) + k ≡ 16 * p + (4 * q + k) = omega arith in ap (member s t above) i)

  module _ (w b x q : ℕ) (e : w ≡ word (4 * q) (of_row s t above p)) (v : x ≡ group_at s t above (4 * p + q)) (u : b ≡ x * 2 ^ (4 * q)) where
    pub row_next : w + b ≡ word (4 * (q + 1)) (of_row s t above p)
    row_next = laid_next 4 (of_row s t above p) w b x q e (v ∙ group_there q) u

    pub row_fits : q < 4 → w + b < 2 ^ 64
    row_fits h = laid_fits 4 (of_row s t above p) (w + b) (q + 1) row_next (omega arith)

  pub row_done : (w q : ℕ) → w ≡ word (4 * q) (of_row s t above p) → q ≡ memories t.target.kind → w ≡ row_at s t above p
  unfolding row_at of_row
  row_done w q e h =
      let k = few t.target.kind in
      let n : 4 * q + (16 - 4 * q) ≡ 16 = omega arith in
      e ∙ cut_word (4 * q) (16 - 4 * q) (of_row s t above p) (λ i l m. let x : (16 * p + i) / 4 % 4 ≡ i / 4 = omega arith in
      let y : memories t.target.kind ≤ i / 4 = omega arith in
      no_target (ltb ((16 * p + i) / 4 / 4) (memories s.kind)) (ltb ((16 * p + i) / 4 % 4) (memories t.target.kind)) _
      (ap (λ (m : ℕ). ltb m (memories t.target.kind)) x ∙ le-ltb (i / 4) (memories t.target.kind) y)) ∙ ap (λ (k : ℕ). word k (of_row s t above p)) n

  pub row_lt : row_at s t above p < 2 ^ 16
  unfolding row_at
  row_lt = word_lt 16 (of_row s t above p)

-- ---- a round

pub round_start : (s : Side) (t : Recipe) (above : Option ℕ) → 0 ≡ word (16 * 0) (member s t above)
unfolding word
round_start s t above = refl

module _ (s : Side) (t : Recipe) (above : Option ℕ) (w b x p : ℕ)
    (e : w ≡ word (16 * p) (member s t above)) (v : x ≡ row_at s t above p) (u : b ≡ x * 2 ^ (16 * p)) where
  pub round_next : w + b ≡ word (16 * (p + 1)) (member s t above)
  unfolding row_at of_row
  round_next = laid_next 16 (member s t above) w b x p e v u

  pub round_fits : p < 4 → w + b < 2 ^ 64
  round_fits h = laid_fits 16 (member s t above) (w + b) (p + 1) round_next (omega arith)

pub round_done : (s : Side) (t : Recipe) (above : Option ℕ) (w p : ℕ) → w ≡ word (16 * p) (member s t above) → p ≡ memories s.kind → w ≡ round s t above
unfolding round
round_done s t above w p e h =
    let k = few s.kind in
    let n : 16 * p + (64 - 16 * p) ≡ 64 = omega arith in
    e ∙ cut_word (16 * p) (64 - 16 * p) (member s t above) (λ i l m.
    no_source _ _ _ (le-ltb (i / 4 / 4) (memories s.kind) (omega arith))) ∙ ap (λ (k : ℕ). word k (member s t above)) n

-- ---- the rounds

module _ (s : Side) (t : Recipe) where
  -- a set that repeats stays
  stays : (j : ℕ) → round s t (Some (failing s t j)) ≡ failing s t j → (d : ℕ) → failing s t (d + j) ≡ failing s t j
  unfolding failing
  stays j e zero = let u : 0 + j ≡ j = omega arith in ap (failing s t) u
  stays j e (suc d) =
      let u : suc d + j ≡ suc (d + j) = omega arith in
      ap (failing s t) u ∙ ap (λ (set : ℕ). round s t (Some set)) (stays j e d) ∙ e

  pub stable : (j m : ℕ) → j ≤ m → round s t (Some (failing s t j)) ≡ failing s t j → failing s t m ≡ failing s t j
  stable j m h e = let u : m ≡ m - j + j = omega arith in ap (failing s t) u ∙ stays j e (m - j)

pub bit-round : (s : Side) (t : Recipe) (above : Option ℕ) (i : ℕ) → i < 64 → bit (round s t above) i ≡ member s t above i
unfolding round
bit-round s t above i h = bit_word 64 (member s t above) i h

-- ---- a state outside the set

or_none : (a b : Bool) → a || b ≡ false → (a ≡ false) × (b ≡ false)
or_none true b e = absurd (true≢false e)
or_none false b e = (refl, e)

or_not : (a b : Bool) → not a || b ≡ false → (a ≡ true) × (b ≡ false)
or_not true b e = (refl, e)
or_not false b e = absurd (true≢false e)

none_of : (f : Bool → Bool → Bool) → some (λ k. f (high k) (low_bit k)) ≡ false → (x y : Bool) → f x y ≡ false
none_of f e x y =
    let p = or_none (f false false) _ e in
    let q = or_none (f false true) _ p.1 in
    let r = or_none (f true false) (f true true) q.1 in
    go x y p.0 q.0 r.0 r.1
  where
    go : (x y : Bool) → f false false ≡ false → f false true ≡ false → f true false ≡ false → f true true ≡ false → f x y ≡ false
    go false false a b c d = a
    go false true a b c d = b
    go true false a b c d = c
    go true true a b c d = d

module _ (s : Side) (t : Recipe) where
  outside : (above : Option ℕ) (a : State) → held s t a ≡ true → bit (round s t above) (index_of a) ≡ false
      → (x y : Bool) → fails_by t.outputs above (cell_of s a.source x y) (cell_of t.target a.target x y) a.any a.all ≡ false
  outside above a m e =
      let u : some (fails s t above (state_of (index_of a))) ≡ false =
      ap (λ (b : Bool). b && some (fails s t above (state_of (index_of a)))) (sym m)
      ∙ sym (bit-round s t above (index_of a) (index_lt a)) ∙ e in
      none_of (λ x y. fails_by t.outputs above (cell_of s a.source x y) (cell_of t.target a.target x y) a.any a.all)
      (ap (λ (b : State). some (fails s t above b)) (sym (state_index a)) ∙ u)

  pub agrees : (j : ℕ) (a : State) → held s t a ≡ true → bit (failing s t j) (index_of a) ≡ false → (l r : ℕ) → agrees_from s t j a l r ≡ true
  unfolding agrees_from failing
  agrees zero a m e l r = not-false (last s t a (low_bit l) (low_bit r)) (outside None a m e (low_bit l) (low_bit r))
  agrees (suc j) a m e l r =
      let x : Bool = low_bit l in
      let y : Bool = low_bit r in
      let n : State = next s t a x y in
      let p = or_not (alike s t a x y) (bit (failing s t j) (index_of n)) (outside (Some (failing s t j)) a m e x y) in
      ap₂ ◌&&◌ p.0 (agrees j n (next_held s t a x y m) p.1 (l / 2) (r / 2))
