-- The walk to operands at which a recipe fails: a pair of bits by which a state fails, for how many places it leads on, and the whole walk.
use mathlib.Core.Path.{◌≡◌, refl, sym, ap, ap₂, ◌∙◌, subst}
use Prim.Native.Nat.{ℕ, zero, suc, ◌+◌, ◌-◌, ◌*◌, ◌/◌, ◌%◌, ◌^◌, ◌≤◌, ◌<◌}
use native.Mathlib.Nat.{zero-add, suc-add, lt_of_lt_of_le}
use native.Mathlib.Omega.{arith}
use native.Mathlib.Decide.{dec_lt}
use mathlib.Core.Bool.{Bool, true, false, not, ◌&&◌, ◌||◌}
use lib.Dec.{eqb, ltb}
use lib.ListN.{get_or}
use lib.Pow.{pow_pos, pow_mono}
use borrow.Author.Tests.{not-true, eqb-true, ltb-true, le-ltb}
use Rattle.std.specs.Prelude.{Option, Some, None, if◌then◌else◌}
use Rattle.words.proofs.Choices.{either, and_split}
use Rattle.bits.specs.Bits.{bit}
use Rattle.bits.proofs.Words.{bit_word, suc-sub_one}
use Rattle.binding.specs.declared.Side.{Side}
use Rattle.binding.specs.declared.Recipe.{Recipe}
use Rattle.automaton.specs.Machine.{cell_of, next, alike, last, low_bit, agrees_from}
use Rattle.automaton.specs.declared.State.{State}
use Rattle.equivalence.specs.Shown.{high, ripple_of, whole}
use Rattle.equivalence.specs.States.{state_in, index_of, state_of, can_be, shown_at}
use Rattle.equivalence.specs.Sets.{fails, some, leads_by, member, group_by_pair, round, failing, above_at, kept_at, kept_above, run, places_of, leads, Failing, Refuted, Goes, Stepped}
use Rattle.equivalence.specs.declared.shown.Shown.{Shown}
use Rattle.equivalence.specs.declared.rounds.Rounds.{Rounds}
use Rattle.equivalence.specs.declared.witness.Step.{Step}
use Rattle.equivalence.proofs.States.{index_lt, state_index}
use Rattle.equivalence.proofs.Memories.{is_one}
use Rattle.equivalence.proofs.Places.{next_index}
use Rattle.equivalence.proofs.Runs.{run_none, run_one, run_next, run_lt}
use Rattle.equivalence.proofs.Sets.{bit-round}

-- ---- the place above

pub top_above : (rounds : Rounds) (j : ℕ) → j ≡ 0 → None ≡ kept_above rounds j
top_above rounds zero e = refl
top_above rounds (suc j) e = absurd (omega arith)

pub low_above : (rounds : Rounds) (j at : ℕ) → (j ≡ 0 → ⊥) → at ≡ kept_at rounds.last (j - 1) → Some (get_or rounds.sets at 0) ≡ kept_above rounds j
low_above rounds zero at z e = absurd (z refl)
low_above rounds (suc j) at z e = ap (λ (k : ℕ). Some (get_or rounds.sets k 0)) (e ∙ ap (kept_at rounds.last) (suc-sub_one j))

-- ---- a state that fails

pub fails_there : (s : Side) (t : Recipe) (above : Option ℕ) (i pair : ℕ) → bit (group_by_pair s t above (i / 4) pair) (i % 4) ≡ fails s t above (state_of i) pair
unfolding group_by_pair
fails_there s t above i pair = bit_word 4 (λ k. fails s t above (state_in (i / 4) k) pair) (i % 4) (omega arith)

module _ (s : Side) (t : Recipe) (rounds : Rounds) (i : ℕ) where
  above_known : (j : ℕ) → Failing s t rounds j i → kept_above rounds j ≡ above_at s t j
  above_known zero g = refl
  above_known (suc j) g = ap Some (g.below j (omega arith))

  failing_round : (j : ℕ) → failing s t j ≡ round s t (above_at s t j)
  unfolding failing
  failing_round zero = refl
  failing_round (suc j) = refl

  pub fails_here : (j : ℕ) (above : Option ℕ) → Failing s t rounds j i → above ≡ kept_above rounds j → member s t above i ≡ true
  fails_here j above g e =
      ap (λ (x : Option ℕ). member s t x i) (e ∙ above_known j g) ∙ sym (bit-round s t (above_at s t j) i g.state)
      ∙ ap (λ (w : ℕ). bit w i) (sym (failing_round j)) ∙ g.member

  pub can_be_here : (j : ℕ) → Failing s t rounds j i → can_be s t (i / 4) ≡ true
  can_be_here j g = (and_split _ _ (fails_here j (kept_above rounds j) g refl)).0

-- ---- a pair of bits below other operands

left_bit : (pair l : ℕ) → pair < 4 → low_bit (pair / 2 + 2 * l) ≡ high pair
left_bit pair l h = is_one ((pair / 2 + 2 * l) % 2) (pair / 2 % 2) (omega arith)

right_bit : (pair r : ℕ) → low_bit (pair % 2 + 2 * r) ≡ low_bit pair
right_bit pair r = is_one ((pair % 2 + 2 * r) % 2) (pair % 2) (omega arith)

left_rest : (pair l : ℕ) → pair < 4 → (pair / 2 + 2 * l) / 2 ≡ l
left_rest pair l h = omega arith

right_rest : (pair r : ℕ) → (pair % 2 + 2 * r) / 2 ≡ r
right_rest pair r = omega arith

-- ---- one place of the walk

pub leads_shown : (s : Side) (t : Recipe) (i pair : ℕ) (u v : Shown) → u ≡ shown_at whole s (i / 4 / 4) pair → v ≡ shown_at t.outputs t.target (i / 4 % 4) pair
    → leads_by u v (i % 4) ≡ leads s t i pair
unfolding leads
leads_shown s t i pair u v eu ev = ap₂ (λ (u v : Shown). leads_by u v (i % 4)) eu ev

module _ (s : Side) (t : Recipe) (rounds : Rounds) (i pair : ℕ) (h : pair < 4) where
  ends_at_top : fails s t None (state_of i) pair ≡ true
      → (l r : ℕ) → agrees_from s t 0 (state_of i) (pair / 2 + 2 * l) (pair % 2 + 2 * r) ≡ false
  unfolding agrees_from
  ends_at_top e l r = ap₂ (last s t (state_of i)) (left_bit pair l h) (right_bit pair r) ∙ not-true _ e

  after_pair : State
  after_pair = next s t (state_of i) (high pair) (low_bit pair)

  opened : (j l r : ℕ) → agrees_from s t (suc j) (state_of i) (pair / 2 + 2 * l) (pair % 2 + 2 * r)
      ≡ alike s t (state_of i) (high pair) (low_bit pair) && agrees_from s t j after_pair l r
  unfolding agrees_from after_pair
  opened j l r =
      (λ k. alike s t (state_of i) (left_bit pair l h k) (right_bit pair r k)
      && agrees_from s t j (next s t (state_of i) (left_bit pair l h k) (right_bit pair r k)) (left_rest pair l h k) (right_rest pair r k))

  kept_last : (k : ℕ) → rounds.last ≤ k → kept_at rounds.last k ≡ rounds.last
  kept_last k l = rw (le-ltb k rounds.last l) refl

  module _ (j m : ℕ) (g : Failing s t rounds (suc j) i) (n : m ≡ index_of after_pair) where
    -- where O0 agrees and the state after the pair fails
    module _ (e : alike s t (state_of i) (high pair) (low_bit pair) ≡ true) (f : bit (failing s t j) (index_of after_pair) ≡ true) where
      on : (d l r : ℕ) → agrees_from s t d (state_of m) l r ≡ false → agrees_from s t (suc d) (state_of i) (pair / 2 + 2 * l) (pair % 2 + 2 * r) ≡ false
      on d l r z =
          opened d l r
          ∙ ap₂ ◌&&◌ e (ap (λ (a : State). agrees_from s t d a l r) (sym (ap state_of n ∙ state_index after_pair)) ∙ z)

      failing_at : (k : ℕ) → k ≤ j → bit (failing s t k) m ≡ true → Failing s t rounds k m
      failing_at k l b =
          record {
            last_fits = g.last_fits;
            places = omega (arith, g.places);
            state = rw n (index_lt after_pair);
            below = λ k p. g.below k (omega arith);
            member = b;
          }

      one_place : Goes s t rounds (suc j) i pair 1 (Some m)
      one_place =
          rw (suc-sub_one j) (
            omega arith,
            omega arith,
            failing_at j (omega arith) (rw n f),
            λ l r z. ap₂ (agrees_from s t (suc j) (state_of i)) (run_one l (pair / 2)) (run_one r (pair % 2)) ∙ on j l r z,
          )

      again : m ≡ i → (c d l r : ℕ) → agrees_from s t d (state_of i) l r ≡ false
          → agrees_from s t (c + d) (state_of i) (run c (pair / 2) l) (run c (pair % 2) r) ≡ false
      again w zero d l r z =
          (λ k. agrees_from s t (zero-add d k) (state_of i) (run_none l (pair / 2) k) (run_none r (pair % 2) k)) ∙ z
      again w (suc c) d l r z =
          (λ k. agrees_from s t (suc-add c d k) (state_of i) (sym (run_next l c (pair / 2) (omega arith)) k) (sym (run_next r c (pair % 2) (omega arith)) k))
          ∙ on (c + d) (run c (pair / 2) l) (run c (pair % 2) r)
          (ap (λ (k : ℕ). agrees_from s t (c + d) (state_of k) (run c (pair / 2) l) (run c (pair % 2) r)) w ∙ again w c d l r z)

      all_places : eqb m i && ltb rounds.last (suc j) ≡ true → Goes s t rounds (suc j) i pair (suc j - rounds.last) (Some m)
      all_places q =
          let p = and_split (eqb m i) (ltb rounds.last (suc j)) q in
          let w = eqb-true m i p.0 in
          let k : rounds.last < suc j = ltb-true rounds.last (suc j) p.1 in
          let back : suc j - (suc j - rounds.last) ≡ rounds.last = omega arith in
          let whole : suc j - rounds.last + rounds.last ≡ suc j = omega arith in
          let set : failing s t j ≡ failing s t rounds.last =
          sym (g.below j (omega arith)) ∙ ap (λ (x : ℕ). get_or rounds.sets x 0) (kept_last j (omega arith) ∙ sym (kept_last rounds.last (omega arith)))
          ∙ g.below rounds.last k in (
            omega arith,
            omega arith,
            rw back (failing_at rounds.last (omega arith) (ap (λ (x : ℕ). bit x m) (sym set) ∙ rw n f)),
            λ l r z. ap (λ (x : ℕ). agrees_from s t x (state_of i) (run (suc j - rounds.last) (pair / 2) l) (run (suc j - rounds.last) (pair % 2) r)) (sym whole)
                ∙ again w (suc j - rounds.last) rounds.last l r ((λ x. agrees_from s t (sym back x) (state_of (sym w x)) l r) ∙ z),
          )

    goes : (b : Bool) → alike s t (state_of i) (high pair) (low_bit pair) ≡ b → not b || bit (failing s t j) (index_of after_pair) ≡ true
        → Goes s t rounds (suc j) i pair (places_of rounds.last (suc j) i (if b then Some m else None)) (if b then Some m else None)
    goes false e f = (
      refl,
      λ l r. ap₂ (agrees_from s t (suc j) (state_of i)) (run_one l (pair / 2)) (run_one r (pair % 2))
          ∙ opened j l r ∙ ap (λ (b : Bool). b && agrees_from s t j after_pair l r) e,
    )
    goes true e f = either (λ (p : ℕ). Goes s t rounds (suc j) i pair p (Some m)) (eqb m i && ltb rounds.last (suc j)) (all_places e f) (λ h. one_place e f)

  pub steps_at_top : (j : ℕ) (above : Option ℕ) → Failing s t rounds j i → j ≡ 0 → above ≡ kept_above rounds j → fails s t above (state_of i) pair ≡ true
      → Stepped s t rounds j i (record { pair = pair; places = 1; leads = None })
  steps_at_top zero above g z e f = (
    h,
    (
      refl,
      λ l r. ap₂ (agrees_from s t 0 (state_of i)) (run_one l (pair / 2)) (run_one r (pair % 2))
          ∙ ends_at_top (ap (λ (x : Option ℕ). fails s t x (state_of i) pair) (sym e) ∙ f) l r,
    ),
  )
  steps_at_top (suc j) above g z e f = absurd (omega arith)

  pub steps_below : (j : ℕ) (above to : Option ℕ) (places : ℕ) → Failing s t rounds j i → (j ≡ 0 → ⊥) → above ≡ kept_above rounds j
      → fails s t above (state_of i) pair ≡ true → to ≡ leads s t i pair → places ≡ places_of rounds.last j i to
      → Stepped s t rounds j i (record { pair = pair; places = places; leads = to })
  unfolding leads after_pair
  steps_below zero above to places g z e f el ep = absurd (z refl)
  steps_below (suc j) above to places g z e f el ep = (
    h,
    subst (λ (p : ℕ). Goes s t rounds (suc j) i pair p to) (sym ep)
        (subst (λ (x : Option ℕ). Goes s t rounds (suc j) i pair (places_of rounds.last (suc j) i x) x) (sym el)
        (goes j _ g
        (sym (next_index t.outputs (cell_of s (ripple_of (i / 4 / 4)) (high pair) (low_bit pair)) (cell_of t.target (ripple_of (i / 4 % 4)) (high pair) (low_bit pair)) (i % 4) (omega arith)))
        (alike s t (state_of i) (high pair) (low_bit pair)) refl
        (ap (λ (x : Option ℕ). fails s t x (state_of i) pair) (sym (e ∙ above_known s t rounds i (suc j) g)) ∙ f))),
  )

pub one_more : (f : ℕ → Bool) (n : ℕ) → ((k : ℕ) → k < n → f k ≡ false) → f n ≡ false → (k : ℕ) → k < n + 1 → f k ≡ false
one_more f n e h k l =
    elim (dec_lt k n) [
      | yes v ↦ e k v
      | no v ↦ let w : k ≡ n = omega arith in rw w h
    ]

-- where none of three pairs fails, the fourth does
pub fourth_fails : (f : ℕ → Bool) → some f ≡ true → ((k : ℕ) → k < 3 → f k ≡ false) → f 3 ≡ true
fourth_fails f h e = rw (e 0 (omega arith), e 1 (omega arith), e 2 (omega arith)) at h

pub member_fails : (s : Side) (t : Recipe) (above : Option ℕ) (i : ℕ) → member s t above i ≡ true → some (fails s t above (state_of i)) ≡ true
member_fails s t above i h = (and_split (can_be s t (i / 4)) (some (fails s t above (state_of i))) h).1

pub member_can_be : (s : Side) (t : Recipe) (above : Option ℕ) (i : ℕ) → member s t above i ≡ true → can_be s t (i / 4) ≡ true
member_can_be s t above i h = (and_split (can_be s t (i / 4)) (some (fails s t above (state_of i))) h).0

-- ---- the whole walk

module _ (s : Side) (t : Recipe) (rounds : Rounds) (j i : ℕ) (r : Step) (left right : ℕ) (z : Stepped s t rounds j i r) where
  pub ends_there : r.leads ≡ None → left ≡ run 1 (r.pair / 2) 0 → right ≡ run 1 (r.pair % 2) 0 → Refuted s t j i left right
  ends_there e u v =
      let f = subst (Goes s t rounds j i r.pair r.places) e z.1 in
      let h : r.pair < 4 = z.0 in
      let k : 1 + j ≡ suc j = omega arith in
      record {
        left_fits = rw (u, sym k) (run_lt 0 1 j (r.pair / 2) (omega arith) (pow_pos j));
        right_fits = rw (v, sym k) (run_lt 0 1 j (r.pair % 2) (omega arith) (pow_pos j));
        fails = rw (u, v) (f.1 0 0);
      }

  module _ (m : ℕ) (e : r.leads ≡ Some m) where
    pub on_from : Goes s t rounds j i r.pair r.places (Some m)
    on_from = subst (Goes s t rounds j i r.pair r.places) e z.1

    -- there is room below the word of the places above
    pub fits_above : j < 64 → (l : ℕ) → l < 2 ^ suc (j - r.places) → l < 2 ^ (64 - r.places)
    fits_above h l k = lt_of_lt_of_le k (pow_mono {i = suc (j - r.places)} {j = 64 - r.places} (omega (arith, on_from.1)))

    pub goes_on : (l q : ℕ) → Refuted s t (j - r.places) m l q → left ≡ run r.places (r.pair / 2) l → right ≡ run r.places (r.pair % 2) q
        → Refuted s t j i left right
    goes_on l q w u v =
        let h : r.pair < 4 = z.0 in
        let k : r.places + suc (j - r.places) ≡ suc j = omega (arith, on_from.1) in
        record {
          left_fits = rw u (subst (λ (x : ℕ). run r.places (r.pair / 2) l < 2 ^ x) k (run_lt l r.places (suc (j - r.places)) (r.pair / 2) (omega arith) w.left_fits));
          right_fits = rw v (subst (λ (x : ℕ). run r.places (r.pair % 2) q < 2 ^ x) k (run_lt q r.places (suc (j - r.places)) (r.pair % 2) (omega arith) w.right_fits));
          fails = rw (u, v) (on_from.3 l q w.fails);
        }
