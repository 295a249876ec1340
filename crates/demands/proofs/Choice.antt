-- What document 01's choice has to be: each chosen rule is a rule of the job, usable, and none gives less at its turn, none earlier as
-- little; and a choice is made exactly where every source has a usable rule.
use mathlib.Core.Path.{◌≡◌, refl, sym, ap, subst, ◌∙◌}
use mathlib.Core.Bool.{Bool, true, false, false≢true, true≢false}
use mathlib.Core.List.{List, [], ◌∷◌, ◌++◌}
use Prim.Native.Nat.{ℕ, zero, suc, ◌+◌, ◌≤◌, ◌<◌}
use native.Mathlib.Omega.{arith}
use lib.ListN.{length, take, get_or, length-append}
use lib.Seq.{take-take, take-length, take-append_seam, get_or-take, get_or-append_seam}
use native.Mathlib.Nat.{add-zero}
use borrow.Author.Tests.{ltb-true, ltb-false}
use Rattle.std.specs.Prelude.{Option, Some, None, Result, Ok, Err}
use Rattle.words.specs.Field.{source_function}
use Rattle.words.specs.Paper.{source_place}
use Rattle.table.specs.Parts.{Terms}
use Rattle.best.specs.Best.{serves, beats, better, best_of}
use Rattle.choice.specs.Choose.{with_rule, choose, bind_best}
use Rattle.best.specs.declared.Best.{Best}
use Rattle.demands.specs.Choice.{Served, Least}

-- ---- one rule

-- the best so far is there, and makes at most so much
abbrev AtMost : Option Best → ℕ → Type 0
AtMost None x = ⊥
AtMost (Some best) x = best.total ≤ x

-- so much is less than the best so far makes, if it is there
abbrev Beats : ℕ → Option Best → Type 0
Beats x None = Unit {0}
Beats x (Some best) = x < best.total

beaten : (best : Option Best) (x : ℕ) → beats best x ≡ true → Beats x best
unfolding beats
beaten None x h = tt
beaten (Some best) x h = ltb-true x best.total h

unbeaten : (best : Option Best) (x : ℕ) → beats best x ≡ false → AtMost best x
unfolding beats
unbeaten None x h = absurd (true≢false h)
unbeaten (Some best) x h = ltb-false x best.total h

beats_too : (best : Option Best) (x y : ℕ) → x < y → Beats y best → Beats x best
beats_too None x y h k = tt
beats_too (Some best) x y h k = omega arith

between : (best : Option Best) (x y : ℕ) → Beats x best → AtMost best y → x < y
between None x y h k = absurd k
between (Some best) x y h k = omega arith

module _ (g : ℕ → ℕ) (t : Terms) (f : ℕ) where
  Serves : ℕ → Type 0
  Serves w = serves t f w ≡ true

  -- a rule is taken, or the best so far stays and is at most as dear
  data Taken (best : Option Best) (w : ℕ) : Type 0 where
    takes : Serves w → Beats (g w) best → better g t f best w ≡ Some (record { word = w; total = g w }) → Taken best w
    leaves : (Serves w → AtMost best (g w)) → better g t f best w ≡ best → Taken best w

  when_served : (best : Option Best) (w : ℕ) → Serves w → (b : Bool) → beats best (g w) ≡ b → Taken best w
  unfolding better Serves
  when_served best w e true u = takes e (beaten best (g w) u) (rw e (rw u refl))
  when_served best w e false u = leaves (λ _. unbeaten best (g w) u) (rw e (rw u refl))

  taken : (best : Option Best) (w : ℕ) (b : Bool) → serves t f w ≡ b → Taken best w
  unfolding better Serves
  taken best w true e = when_served best w e (beats best (g w)) refl
  taken best w false e = leaves (λ h. absurd (false≢true (sym e ∙ h))) (rw e refl)

  -- ---- all rules

  -- the best after some rules: the one before them, which none of them beats, or the least of them, which beats it
  data Outcome (best : Option Best) (ws : List ℕ) (r : Option Best) : Type 0 where
    stays : r ≡ best → ((i : ℕ) → i < length ws → Serves (get_or ws i 0) → AtMost best (g (get_or ws i 0))) → Outcome best ws r
    moves : (b : Best) → r ≡ Some b → b.total ≡ g b.word → Least g t f ws b.word → Beats b.total best → Outcome best ws r

  -- at the first index or a later one
  by_index : (P : ℕ → Type 0) → P 0 → ((i : ℕ) → P (suc i)) → (i : ℕ) → P i
  by_index P p q zero = p
  by_index P p q (suc i) = q i

  -- the least of the later rules is the least, where the first is dearer or serves not
  later : (w : ℕ) (ws : List ℕ) (v : ℕ) → Least g t f ws v → (Serves w → g v < g w) → Least g t f (w ∷ ws) v
  unfolding Serves
  later w ws v l h =
      record {
        index = suc l.index;
        within = omega (arith, l.within);
        is_rule = l.is_rule;
        usable-rule = l.usable-rule;
        none_less =
            by_index (λ i. i < suc (length ws) → serves t f (get_or (w ∷ ws) i 0) ≡ true → g v ≤ g (get_or (w ∷ ws) i 0))
            (λ _ s. omega (arith, h s)) (λ i b s. l.none_less i (omega arith) s);
        none_earlier =
            by_index (λ i. i < suc l.index → serves t f (get_or (w ∷ ws) i 0) ≡ true → g v < g (get_or (w ∷ ws) i 0))
            (λ _ s. h s) (λ i b s. l.none_earlier i (omega arith) s);
      }

  -- the first rule is the least, where no later one makes less
  earlier : (w : ℕ) (ws : List ℕ) → Serves w → ((i : ℕ) → i < length ws → Serves (get_or ws i 0) → g w ≤ g (get_or ws i 0)) → Least g t f (w ∷ ws) w
  unfolding Serves
  earlier w ws s h =
      record {
        index = 0;
        within = omega arith;
        is_rule = refl;
        usable-rule = s;
        none_less =
            by_index (λ i. i < suc (length ws) → serves t f (get_or (w ∷ ws) i 0) ≡ true → g w ≤ g (get_or (w ∷ ws) i 0))
            (λ _ _. omega arith) (λ i b u. h i (omega arith) u);
        none_earlier = λ i b u. absurd (omega arith);
      }

  after-taking : (best : Option Best) (w : ℕ) (ws : List ℕ) (r : Option Best) → Serves w → Beats (g w) best
      → Outcome (Some (record { word = w; total = g w })) ws r → Outcome best (w ∷ ws) r
  after-taking best w ws r s b (stays e all) = moves (record { word = w; total = g w }) e refl (earlier w ws s all) b
  after-taking best w ws r s b (moves x e et l k) =
      moves x e et (later w ws x.word l (λ _. omega arith)) (beats_too best x.total (g w) k b)

  after-leaving : (best : Option Best) (w : ℕ) (ws : List ℕ) (r : Option Best) → (Serves w → AtMost best (g w))
      → Outcome best ws r → Outcome best (w ∷ ws) r
  unfolding Serves
  after-leaving best w ws r b (stays e all) =
      stays e
      (by_index (λ i. i < suc (length ws) → serves t f (get_or (w ∷ ws) i 0) ≡ true → AtMost best (g (get_or (w ∷ ws) i 0)))
      (λ _ s. b s) (λ i h s. all i (omega arith) s))
  after-leaving best w ws r b (moves x e et l k) =
      moves x e et (later w ws x.word l (λ s. let z = between best x.total (g w) k (b s) in omega arith)) k

  one_more : (best : Option Best) (w : ℕ) (ws : List ℕ) → ((b : Option Best) → Outcome b ws (best_of g t f b ws)) → Taken best w
      → Outcome best (w ∷ ws) (best_of g t f (better g t f best w) ws)
  one_more best w ws rest (takes s b e) = after-taking best w ws _ s b (rw e (rest (Some (record { word = w; total = g w }))))
  one_more best w ws rest (leaves b e) = after-leaving best w ws _ b (rw e (rest best))

  outcome : (ws : List ℕ) (best : Option Best) → Outcome best ws (best_of g t f best ws)
  unfolding best_of
  outcome [] best = stays refl (λ i h s. absurd (omega arith))
  outcome (w ∷ ws) best = one_more best w ws (outcome ws) (taken best w (serves t f w) refl)

  -- the best rule of all is the least
  pub best_least : (rules : List ℕ) (b : Best) → best_of g t f None rules ≡ Some b → Least g t f rules b.word
  best_least rules b h = go (best_of g t f None rules) h (outcome rules None)
    where
      go : (r : Option Best) → r ≡ Some b → Outcome None rules r → Least g t f rules b.word
      go r e (stays u all) = absurd (let z : ◌≡◌ {A = ℕ} 0 1 = cc in omega arith)
      go r e (moves x u et l k) = let q : x ≡ b = cc in subst (λ (y : Best). Least g t f rules y.word) q l

  -- one is found where some rule is usable
  pub served_found : (rules : List ℕ) → Served t f rules → (b : Best) × (best_of g t f None rules ≡ Some b)
  unfolding Serves
  served_found rules s = go (best_of g t f None rules) (outcome rules None)
    where
      go : (r : Option Best) → Outcome None rules r → (b : Best) × (r ≡ Some b)
      go r (stays u all) = absurd (all s.index s.within s.is_served)
      go r (moves x u et l k) = (x, u)

-- ---- all sources

module _ (t : Terms) (rules : List ℕ) where
  -- a choice for these sources, after some bindings: the bindings come first, and each source has the least rule at its turn
  pub record Chosen (bound sources all : List ℕ) : Type 0 where
    pub size : length all ≡ length bound + length sources
    pub first : take (length bound) all ≡ bound
    pub least : (k : ℕ) → k < length sources
        → Least (with_rule t (take (length bound + k) all)) t (source_function (get_or sources k 0)) rules (get_or all (length bound + k) 0)

  apart : {Q : Type 0} (place : ℕ) (all : List ℕ) → Err place ≡ Ok all → Q
  apart place all e = let z : ◌≡◌ {A = ℕ} 0 1 = cc in absurd (omega arith)

  -- the source that comes next has the least rule, and so have those after it
  module _ (bound : List ℕ) (s : ℕ) (ss all : List ℕ) (w : ℕ) (l : Least (with_rule t bound) t (source_function s) rules w)
      (c : Chosen (bound ++ w ∷ []) ss all) where
    one_longer : length (bound ++ w ∷ []) ≡ length bound + 1
    one_longer = length-append bound (w ∷ [])

    before : take (length bound) all ≡ bound
    before =
        sym (take-take (length bound) (length (bound ++ w ∷ [])) all (omega (arith, one_longer)))
        ∙ ap (take (length bound)) c.first ∙ take-append_seam bound (w ∷ [])

    here : get_or all (length bound) 0 ≡ w
    here =
        sym (get_or-take (length (bound ++ w ∷ [])) all (length bound) 0 (omega (arith, one_longer)))
        ∙ ap (λ (x : List ℕ). get_or x (length bound) 0) c.first ∙ get_or-append_seam bound w [] 0

    longer : (k : ℕ) → length (bound ++ w ∷ []) + k ≡ length bound + suc k
    longer k = omega (arith, one_longer)

    chosen_more : Chosen bound (s ∷ ss) all
    chosen_more =
        record {
          size = omega (arith, c.size, one_longer);
          first = before;
          least =
              by_turn
              (rw add-zero (rw (before, here) l))
              (λ k h. rw (← longer k) (c.least k (omega arith)));
        }
      where
        P : ℕ → Type 0
        P k = Least (with_rule t (take (length bound + k) all)) t (source_function (get_or (s ∷ ss) k 0)) rules (get_or all (length bound + k) 0)

        by_turn : P 0 → ((k : ℕ) → suc k < suc (length ss) → P (suc k)) → (k : ℕ) → k < suc (length ss) → P k
        by_turn q r zero h = q
        by_turn q r (suc k) h = r k h

  pub mapped_chosen : (sources bound all : List ℕ) → choose t rules bound sources ≡ Ok all → Chosen bound sources all
  unfolding choose
  mapped_chosen [] bound all e =
      let u : bound ≡ all = cc in
      record { size = omega (arith, ap length u); first = rw u (take-length all); least = λ k h. absurd (omega arith) }
  mapped_chosen (s ∷ ss) bound all e =
      by_best (best_of (with_rule t bound) t (source_function s) None rules) refl (λ w. mapped_chosen ss (bound ++ w ∷ []) all) e
    where
      by_best : (b : Option Best) → best_of (with_rule t bound) t (source_function s) None rules ≡ b
          → ((w : ℕ) → choose t rules (bound ++ w ∷ []) ss ≡ Ok all → Chosen (bound ++ w ∷ []) ss all)
          → bind_best b (source_function s) (λ w. choose t rules (bound ++ w ∷ []) ss) ≡ Ok all → Chosen bound (s ∷ ss) all
      by_best (Some b) u rest v =
          chosen_more bound s ss all b.word (best_least (with_rule t bound) t (source_function s) rules b u) (rest b.word v)
      by_best None u rest v = apart (source_place (source_function s)) all v

  -- "A function is unmappable only if no usable rule for it is in the job": where every source has one, a choice is made
  pub all_served : (sources bound : List ℕ) → ((k : ℕ) → k < length sources → Served t (source_function (get_or sources k 0)) rules)
      → (all : List ℕ) × (choose t rules bound sources ≡ Ok all)
  unfolding choose
  all_served [] bound h = (bound, refl)
  all_served (s ∷ ss) bound h =
      let q = served_found (with_rule t bound) t (source_function s) rules (h 0 (omega arith)) in
      let r = all_served ss (bound ++ q.0.word ∷ []) (λ k l. h (suc k) (omega arith)) in
      (r.0, rw q.1 r.1)

  -- and where a choice is made every source has one
  pub chosen_served : (sources all : List ℕ) → Chosen [] sources all → (k : ℕ) → k < length sources
      → Served t (source_function (get_or sources k 0)) rules
  chosen_served sources all c k h =
      let l = c.least k h in
      record { index = l.index; within = l.within; is_served = rw l.is_rule l.usable-rule }

  -- a place is called unmappable only if it names a source without a usable rule, and every source before it has one
  pub record Unserved (sources : List ℕ) (place : ℕ) : Type 0 where
    pub index : ℕ
    pub within : index < length sources
    pub is_place : source_place (source_function (get_or sources index 0)) ≡ place
    pub unserved : Served t (source_function (get_or sources index 0)) rules → ⊥
    pub earlier_served : (i : ℕ) → i < index → Served t (source_function (get_or sources i 0)) rules

  mapped_apart : {Q : Type 0} (all : List ℕ) (place : ℕ) → Ok all ≡ Err place → Q
  mapped_apart all place e = let z : ◌≡◌ {A = ℕ} 0 1 = cc in absurd (omega arith)

  here_unserved : (s : ℕ) (ss bound : List ℕ) (place : ℕ) → best_of (with_rule t bound) t (source_function s) None rules ≡ None
      → ◌≡◌ {A = Result (List ℕ) ℕ} (Err (source_place (source_function s))) (Err place) → Unserved (s ∷ ss) place
  here_unserved s ss bound place h u =
      record {
        index = 0;
        within = omega arith;
        is_place = cc;
        unserved =
            λ v. let q = served_found (with_rule t bound) t (source_function s) rules v in
            let n : ◌≡◌ {A = Option Best} None (Some q.0) = sym h ∙ q.1 in let z : ◌≡◌ {A = ℕ} 0 1 = cc in omega arith;
        earlier_served = λ i l. absurd (omega arith);
      }

  later_unserved : (s : ℕ) (ss bound : List ℕ) (place : ℕ) (b : Best) → best_of (with_rule t bound) t (source_function s) None rules ≡ Some b
      → Unserved ss place → Unserved (s ∷ ss) place
  later_unserved s ss bound place b h u =
      let l = best_least (with_rule t bound) t (source_function s) rules b h in
      record {
        index = suc u.index;
        within = omega (arith, u.within);
        is_place = u.is_place;
        unserved = u.unserved;
        earlier_served =
            first_or_later (record { index = l.index; within = l.within; is_served = rw l.is_rule l.usable-rule })
            (λ i b. u.earlier_served i (omega arith));
      }
    where
      first_or_later : Served t (source_function s) rules
          → ((i : ℕ) → suc i < suc u.index → Served t (source_function (get_or ss i 0)) rules)
          → (i : ℕ) → i < suc u.index → Served t (source_function (get_or (s ∷ ss) i 0)) rules
      first_or_later q r zero b = q
      first_or_later q r (suc i) b = r i b

  pub unmappable_unserved : (sources bound : List ℕ) (place : ℕ) → choose t rules bound sources ≡ Err place → Unserved sources place
  unfolding choose
  unmappable_unserved [] bound place e = mapped_apart bound place e
  unmappable_unserved (s ∷ ss) bound place e =
      by_best (best_of (with_rule t bound) t (source_function s) None rules) refl
      (λ w. unmappable_unserved ss (bound ++ w ∷ []) place) e
    where
      by_best : (b : Option Best) → best_of (with_rule t bound) t (source_function s) None rules ≡ b
          → ((w : ℕ) → choose t rules (bound ++ w ∷ []) ss ≡ Err place → Unserved ss place)
          → bind_best b (source_function s) (λ w. choose t rules (bound ++ w ∷ []) ss) ≡ Err place → Unserved (s ∷ ss) place
      by_best (Some b) u rest v = later_unserved s ss bound place b u (rest b.word v)
      by_best None u rest v = here_unserved s ss bound place u v
