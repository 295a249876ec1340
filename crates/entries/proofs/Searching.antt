-- The searches of entries: the entry of a function, and the first empty one.
use mathlib.Core.Path.{◌≡◌, refl, sym, ap, subst, ◌∙◌}
use mathlib.Core.Bool.{Bool, true, false, ◌||◌, not, false≢true}
use mathlib.Core.List.{List, [], ◌∷◌}
use mathlib.Core.Logic.{◌⊎◌, inl, inr}
use Prim.Native.Nat.{ℕ, suc, ◌+◌, ◌≤◌, ◌<◌}
use native.Mathlib.Decide.{dec_lt}
use native.Mathlib.Omega.{arith}
use lib.Dec.{eqb}
use lib.ListN.{length, get_or, get_or-eq_default}
use borrow.Author.Tests.{eq-eqb, ne_eqb, eqb-true, eqb-false, not-true, not-false, lt-ltb, le-ltb}
use Rattle.std.specs.Prelude.{if◌then◌else◌, Option, Some, None}
use Rattle.std.specs.List.{position_or_len}
use Rattle.std.proofs.lemmas.Grind.{common_steps}
use Rattle.std.proofs.lemmas.List.Sums.{prefix_len-le-length}
use Rattle.words.specs.Field.{source_function}
use Rattle.table.specs.Table.{lists_source}
use Rattle.entries.specs.Entries.{entry_of, holds_one, is_bound, first_empty}

-- ---- the entry of a function

-- how many sources stand before that of the function
abbrev pub place_of : List ℕ → ℕ → ℕ
place_of ss f = position_or_len (λ s. eqb (source_function s) f) ss

-- a function that the table lists has an entry in it
pub lists_entry : (ss : List ℕ) (f : ℕ) → lists_source ss f ≡ true → place_of ss f < length ss
unfolding lists_source
lists_entry [] f e = absurd (false≢true e)
lists_entry (s ∷ ss) f e = go (eqb (source_function s) f) (lists_entry ss f) e
  where
    go : (b : Bool) → (lists_source ss f ≡ true → place_of ss f < length ss) → b || lists_source ss f ≡ true
        → (if not b then 1 + place_of ss f else 0) < suc (length ss)
    go true h u = omega arith
    go false h u = omega (arith, h u)

module _ (ss : List ℕ) (f : ℕ) where
  pub entry_there : place_of ss f < length ss → entry_of ss f ≡ Some (place_of ss f)
  entry_there h = rw (lt-ltb (place_of ss f) (length ss) h) refl

  entry_absent : length ss ≤ place_of ss f → entry_of ss f ≡ None
  entry_absent h = rw (le-ltb (place_of ss f) (length ss) h) refl

  pub entry_place : (i : ℕ) → entry_of ss f ≡ Some i → (i ≡ place_of ss f) × (i < length ss)
  entry_place i e = (grind (arith, common_steps), grind (arith, common_steps))

  -- what is said of the entry where there is one, and of the one past the sources where there is none, is said of the place
  pub at_entry : (P : Option ℕ → ℕ → Type 0) → ((i : ℕ) → P (Some i) i) → P None (length ss) → P (entry_of ss f) (place_of ss f)
  at_entry P some none =
      let p = place_of ss f in
      elim (dec_lt p (length ss)) [
        | yes h ↦ subst (λ o. P o p) (sym (entry_there h)) (some p)
        | no h ↦
            let most : p ≤ length ss = prefix_len-le-length (λ s. not (eqb (source_function s) f)) ss in
            let last : length ss ≡ p = omega arith in
            subst (λ o. P o p) (sym (entry_absent (omega arith))) (subst (P None) last none)
      ]

  module _ (bs : List ℕ) where
    module _ (r : Option ℕ) (er : r ≡ entry_of ss f) where
      pub bound_some : (i : ℕ) → r ≡ Some i → not (eqb (get_or bs i 0) 0) ≡ is_bound ss bs f
      unfolding is_bound
      bound_some i e = ap (holds_one ss bs) (sym e ∙ er)

      module _ (i : ℕ) (ei : i ≡ length ss) (e : r ≡ None) where
        pub bound_past : not (eqb (get_or bs i 0) 0) ≡ is_bound ss bs f
        unfolding is_bound
        bound_past = ap (λ (x : ℕ). not (eqb (get_or bs x 0) 0)) ei ∙ ap (holds_one ss bs) (sym e ∙ er)

        -- there is no entry past the last
        pub bound_nowhere : (most : ℕ) → length bs ≡ most → most ≤ i → false ≡ is_bound ss bs f
        bound_nowhere most n h = (rw (get_or-eq_default bs 0 {n = i} (omega arith)) refl) ∙ bound_past

    -- whether something is bound is seen at the place
    pub seen_there : not (eqb (get_or bs (place_of ss f) 0) 0) ≡ is_bound ss bs f
    unfolding is_bound
    seen_there = at_entry (λ o i. not (eqb (get_or bs i 0) 0) ≡ holds_one ss bs o) (λ i. refl) refl

    -- what is bound to a function stands at its place
    pub bound_place : is_bound ss bs f ≡ true → get_or bs (place_of ss f) 0 ≡ 0 → ⊥
    bound_place e = eqb-false (get_or bs (place_of ss f) 0) 0 (not-true (eqb (get_or bs (place_of ss f) 0) 0) (seen_there ∙ e))

    -- and within the entries
    pub bound_within : is_bound ss bs f ≡ true → place_of ss f < length bs
    bound_within e =
        elim (dec_lt (place_of ss f) (length bs)) [
          | yes h ↦ h
          | no h ↦ absurd (bound_place e (get_or-eq_default bs 0 {n = place_of ss f} (omega arith)))
        ]

    pub is_bound_lem : (get_or bs (place_of ss f) 0 ≡ 0 → ⊥) → is_bound ss bs f ≡ true
    is_bound_lem some = sym seen_there ∙ rw (ne_eqb (get_or bs (place_of ss f) 0) 0 some) refl

    pub nothing_there : is_bound ss bs f ≡ false → get_or bs (place_of ss f) 0 ≡ 0
    nothing_there e =
        eqb-true (get_or bs (place_of ss f) 0) 0 (not-false (eqb (get_or bs (place_of ss f) 0) 0) (seen_there ∙ e))

    pub not_bound : get_or bs (place_of ss f) 0 ≡ 0 → is_bound ss bs f ≡ false
    not_bound e = sym seen_there ∙ rw (eq-eqb (get_or bs (place_of ss f) 0) 0 e) refl

-- ---- the first empty entry

pub none_left : (ss bs : List ℕ) → (length ss ≡ 0) ⊎ (length bs ≡ 0) → first_empty ss bs ≡ None
unfolding first_empty
none_left [] bs h = refl
none_left (s ∷ ss) [] h = refl
none_left (s ∷ ss) (w ∷ bs) (inl h) = absurd (omega arith)
none_left (s ∷ ss) (w ∷ bs) (inr h) = absurd (omega arith)

module _ (ss bs : List ℕ) (s w : ℕ) (ss' bs' : List ℕ) (es : ss ≡ s ∷ ss') (eb : bs ≡ w ∷ bs') where
  pub unbound_found : (f : ℕ) → w ≡ 0 → f ≡ source_function s → first_empty ss bs ≡ Some f
  unfolding first_empty
  unbound_found f h ef = rw (es, eb, eq-eqb w 0 h) (ap Some (sym ef))

  pub unbound_passed : (w ≡ 0 → ⊥) → first_empty ss bs ≡ first_empty ss' bs'
  unfolding first_empty
  unbound_passed h = rw (es, eb, ne_eqb w 0 h) refl
