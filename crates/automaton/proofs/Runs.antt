-- The machine's runs: it finds exactly whether a recipe agrees with a source side at given operands.
use mathlib.Core.Path.{◌≡◌, refl, sym, ap, ap₂, ◌∙◌, subst}
use Prim.Native.Nat.{ℕ, zero, suc, ◌+◌, ◌-◌, ◌*◌, ◌/◌, ◌^◌, ◌<◌}
use native.Mathlib.Nat.{add-suc, add-zero, zero-add, suc-add, div-div-eq-div-mul, div-one, pow-suc}
use native.Mathlib.Omega.{arith}
use mathlib.Core.Logic.{◌↔◌}
use mathlib.Core.Bool.{Bool, true, false, not, ◌&&◌, ◌||◌, beq}
use lib.Dec.{eqb}
use lib.Pow.{pow_pos}
use borrow.Author.Tests.{eq-eqb, ne_eqb, eqb-true, eqb-false, not-true, not-false}
use Rattle.words.proofs.Choices.{and_split, and_join, beq-true, beq-refl}
use Rattle.bits.specs.Bits.{num, bit, exor, word}
use Rattle.bits.specs.Wiring.{carried}
use Rattle.bits.specs.declared.Ports.{Ports}
use Rattle.bits.proofs.Words.{pow2, word_lt, word-ext, word-bits, same, same_word, word_same, top-word, word-not, word-zeros}
use Rattle.binding.specs.Binding.{as_marked, side_shows, shows}
use Rattle.output.specs.Output.{outputs_show, shown_bit, shown_word, shown_comparison}
use Rattle.binding.specs.Right.{Agrees}
use Rattle.binding.specs.declared.Side.{Side}
use Rattle.binding.specs.declared.Recipe.{Recipe}
use Rattle.automaton.specs.Place.{wire, side_bit, side_carry, side_overflow, side_order}
use Rattle.automaton.specs.Machine.{first, next, alike, last, agrees_from}
use Rattle.automaton.specs.declared.Ripple.{Ripple}
use Rattle.automaton.specs.declared.State.{State}
use Rattle.automaton.proofs.Sides.{wired-word, ripples, ports-word}

-- ---- joined bits

pub anys : (ℕ → Bool) → ℕ → Bool
anys f zero = false
anys f (suc i) = anys f i || f i

pub alls : (ℕ → Bool) → ℕ → Bool
alls f zero = true
alls f (suc i) = alls f i && f i

any_step : (b x : Bool) (a a' p : ℕ) → 0 < p → not (eqb a 0) ≡ b → a' ≡ a + num x * p → not (eqb a' 0) ≡ b || x
any_step true x a a' p h e u =
    let z = eqb-false a 0 (not-true (eqb a 0) e) in ap not (ne_eqb a' 0 (λ v. z (omega arith)))
any_step false true a a' p h e u = ap not (ne_eqb a' 0 (λ v. omega arith))
any_step false false a a' p h e u =
    let z = eqb-true a 0 (not-false (eqb a 0) e) in ap not (eq-eqb a' 0 (omega arith))

any_word : (n : ℕ) (f : ℕ → Bool) → not (eqb (word n f) 0) ≡ anys f n
unfolding word anys
any_word zero f = refl
any_word (suc n) f = any_step (anys f n) (f n) (word n f) _ (2 ^ n) (pow_pos n) (any_word n f) refl

all_step : (b x : Bool) (a a' p p' : ℕ) → a < p → eqb a (p - 1) ≡ b → a' ≡ a + num x * p → p' ≡ p + p → eqb a' (p' - 1) ≡ b && x
all_step true true a a' p p' h e u v = let z = eqb-true a (p - 1) e in eq-eqb a' (p' - 1) (omega arith)
all_step true false a a' p p' h e u v = let z = eqb-true a (p - 1) e in ne_eqb a' (p' - 1) (λ w. omega arith)
all_step false true a a' p p' h e u v = let z = eqb-false a (p - 1) e in ne_eqb a' (p' - 1) (λ w. z (omega arith))
all_step false false a a' p p' h e u v = let z = eqb-false a (p - 1) e in ne_eqb a' (p' - 1) (λ w. z (omega arith))

all_word : (n : ℕ) (f : ℕ → Bool) → eqb (word n f) (2 ^ n - 1) ≡ alls f n
unfolding word alls
all_word zero f = refl
all_word (suc n) f = all_step (alls f n) (f n) (word n f) _ (2 ^ n) (2 ^ suc n) (word_lt n f) (all_word n f) refl (pow2 n)

pub shown_bits : (code n : ℕ) (f : ℕ → Bool) → shown_word n code (word n f) ≡ word n (λ i. shown_bit code (f i))
shown_bits zero n f = sym (word-zeros n)
shown_bits (suc zero) n f = refl
shown_bits (suc (suc zero)) n f = sym (word-not n f)
shown_bits (suc (suc (suc code))) n f = sym (word-zeros n)

four : (a a' b b' d d' e e' : Bool) → beq a a' && (beq b b' && (beq d d' && beq e e')) ≡ true
    → (a ≡ a') × (b ≡ b') × (d ≡ d') × (e ≡ e')
four a a' b b' d d' e e' h =
    let p = and_split (beq a a') (beq b b' && (beq d d' && beq e e')) h in
    let q = and_split (beq b b') (beq d d' && beq e e') p.1 in
    let r = and_split (beq d d') (beq e e') q.1 in
    (beq-true a a' p.0, beq-true b b' q.0, beq-true d d' r.0, beq-true e e' r.1)

-- what comes out complemented is complemented place by place
marked-word : (b : Bool) (n : ℕ) (h : ℕ → Bool) (c v o : Bool)
    → as_marked b n (record { o0 = word n h; ocout = c; ovf = v; o1 = o })
    ≡ record { o0 = word n (λ i. exor b (h i)); ocout = c; ovf = v; o1 = exor b o }
marked-word true n h c v o = λ i. record { o0 = sym (word-not n h) i; ocout = c; ovf = v; o1 = not o }
marked-word false n h c v o = refl

-- ---- the machine's run over the bits f and g
module _ (s : Side) (t : Recipe) (f g : ℕ → Bool) (c : Bool) where
  state_at : ℕ → State
  state_at zero = first s t c
  state_at (suc i) = next s t (state_at i) (f i) (g i)

  side : Side → ℕ → Ripple
  side r i = ripples r.kind (λ j. wire r.left (f j) (g j)) (λ j. wire r.right (f j) (g j)) (carried r.carry c) i

  bits : Side → ℕ → Bool
  bits r i = side_bit r (side r i) (f i) (g i)

  state_at_is : (i : ℕ) → state_at i ≡ record { source = side s i; target = side t.target i; any = anys (bits t.target) i; all = alls (bits t.target) i }
  unfolding state_at side bits anys alls
  state_at_is zero = refl
  state_at_is (suc i) = ap (λ (a : State). next s t a (f i) (g i)) (state_at_is i)

  -- the two main outputs, bit by bit
  main_t : ℕ → Bool
  main_t i = shown_bit t.outputs.main (side_bit t.target (state_at i).target (f i) (g i))

  main_s : ℕ → Bool
  main_s i = side_bit s (state_at i).source (f i) (g i)

  side_word : (r : Side) (k : ℕ) → side_shows r (suc k) (word (suc k) f) (word (suc k) g) c
      ≡ record {
        o0 = word (suc k) (bits r);
        ocout = side_carry r (side r k) (f k) (g k);
        ovf = side_overflow r (side r k) (f k) (g k);
        o1 = side_order r (side r k) (f k) (g k);
      }
  unfolding side_shows side bits
  side_word r k =
      rw (wired-word (suc k) r.left f g, wired-word (suc k) r.right f g)
      (ap (as_marked r.negated (suc k)) (ports-word r.kind k (λ j. wire r.left (f j) (g j)) (λ j. wire r.right (f j) (g j)) (carried r.carry c))
      ∙ marked-word r.negated (suc k) _ _ _ _)

  recipe_word : (k : ℕ) → shows t (suc k) (word (suc k) f) (word (suc k) g) c
      ≡ record {
        o0 = word (suc k) (λ i. shown_bit t.outputs.main (bits t.target i));
        ocout = shown_bit t.outputs.cout (side_carry t.target (side t.target k) (f k) (g k));
        ovf = shown_bit t.outputs.ovf (side_overflow t.target (side t.target k) (f k) (g k));
        o1 = shown_comparison t.outputs.code (side_order t.target (side t.target k) (f k) (g k)) (anys (bits t.target) (suc k)) (alls (bits t.target) (suc k)) (bits t.target k) (side_overflow t.target (side t.target k) (f k) (g k));
      }
  unfolding outputs_show
  recipe_word k =
      ap (outputs_show t.outputs (suc k)) (side_word t.target k)
      ∙ (λ i. record {
        o0 = shown_bits t.outputs.main (suc k) (bits t.target) i;
        ocout = shown_bit t.outputs.cout (side_carry t.target (side t.target k) (f k) (g k));
        ovf = shown_bit t.outputs.ovf (side_overflow t.target (side t.target k) (f k) (g k));
        o1 = shown_comparison t.outputs.code (side_order t.target (side t.target k) (f k) (g k)) (any_word (suc k) (bits t.target) i) (all_word (suc k) (bits t.target) i) (top-word k (bits t.target) i) (side_overflow t.target (side t.target k) (f k) (g k));
      })

  main_t_is : (i : ℕ) → main_t i ≡ shown_bit t.outputs.main (bits t.target i)
  unfolding main_t bits
  main_t_is i = ap (λ (a : State). shown_bit t.outputs.main (side_bit t.target a.target (f i) (g i))) (state_at_is i)

  main_s_is : (i : ℕ) → main_s i ≡ bits s i
  unfolding main_s bits
  main_s_is i = ap (λ (a : State). side_bit s a.source (f i) (g i)) (state_at_is i)

  -- the run's verdict at width k + 1
  agrees_at : ℕ → Bool
  agrees_at k = same k main_t main_s && last s t (state_at k) (f k) (g k)

  unfold_same : (k : ℕ) → word k main_t ≡ word k (λ i. shown_bit t.outputs.main (bits t.target i))
  unfold_same k = word-ext k main_t (λ i. shown_bit t.outputs.main (bits t.target i)) (λ i h. main_t_is i)

  unfold_source : (k : ℕ) → word k main_s ≡ word k (bits s)
  unfold_source k = word-ext k main_s (bits s) (λ i h. main_s_is i)

  agrees_run : (k : ℕ) → shows t (suc k) (word (suc k) f) (word (suc k) g) c ≡ side_shows s (suc k) (word (suc k) f) (word (suc k) g) c
      → agrees_at k ≡ true
  unfolding agrees_at anys alls same bits
  agrees_run k e =
      let p = sym (recipe_word k) ∙ e ∙ side_word s k in
      let q = and_split _ _ (word_same (suc k) (λ i. shown_bit t.outputs.main (bits t.target i)) (bits s) (ap (λ (z : Ports). z.o0) p)) in
      and_join
      (word_same k main_t main_s (unfold_same k ∙ same_word k (λ i. shown_bit t.outputs.main (bits t.target i)) (bits s) q.0 ∙ sym (unfold_source k)))
      (subst (λ (a : State). last s t a (f k) (g k) ≡ true) (sym (state_at_is k))
      (and_join q.1
      (and_join (beq-refl _ _ (ap (λ (z : Ports). z.ocout) p))
      (and_join (beq-refl _ _ (ap (λ (z : Ports). z.ovf) p))
      (beq-refl _ _ (ap (λ (z : Ports). z.o1) p))))))

  run_agrees : (k : ℕ) → agrees_at k ≡ true
      → shows t (suc k) (word (suc k) f) (word (suc k) g) c ≡ side_shows s (suc k) (word (suc k) f) (word (suc k) g) c
  unfolding agrees_at anys alls same bits
  run_agrees k h =
      let m = and_split (same k main_t main_s) _ h in
      let q =
      four
      (shown_bit t.outputs.main (bits t.target k)) (bits s k)
      (shown_bit t.outputs.cout (side_carry t.target (side t.target k) (f k) (g k))) (side_carry s (side s k) (f k) (g k))
      (shown_bit t.outputs.ovf (side_overflow t.target (side t.target k) (f k) (g k))) (side_overflow s (side s k) (f k) (g k))
      (shown_comparison t.outputs.code (side_order t.target (side t.target k) (f k) (g k)) (anys (bits t.target) (suc k)) (alls (bits t.target) (suc k)) (bits t.target k) (side_overflow t.target (side t.target k) (f k) (g k)))
      (side_order s (side s k) (f k) (g k))
      (subst (λ (a : State). last s t a (f k) (g k) ≡ true) (state_at_is k) m.1) in
      let w : word k (λ i. shown_bit t.outputs.main (bits t.target i)) ≡ word k (bits s) =
      sym (unfold_same k) ∙ same_word k main_t main_s m.0 ∙ unfold_source k in
      let o : word (suc k) (λ i. shown_bit t.outputs.main (bits t.target i)) ≡ word (suc k) (bits s) =
      same_word (suc k) (λ i. shown_bit t.outputs.main (bits t.target i)) (bits s)
      (and_join (word_same k (λ i. shown_bit t.outputs.main (bits t.target i)) (bits s) w) (beq-refl _ _ q.0)) in
      recipe_word k
      ∙ (λ i. record { o0 = o i; ocout = q.1 i; ovf = q.2 i; o1 = q.3 i })
      ∙ sym (side_word s k)

and_assoc : (a b d : Bool) → (a && b) && d ≡ a && (b && d)
and_assoc true b d = refl
and_assoc false b d = refl

half : (l k : ℕ) → l / 2 ^ k / 2 ≡ l / 2 ^ suc k
half l k = div-div-eq-div-mul l (2 ^ k) 2 ∙ ap (λ (p : ℕ). l / p) (sym (pow-suc 2 k))

-- ---- the run, lowest bits first, on the operands themselves
module _ (s : Side) (t : Recipe) (l r : ℕ) (c : Bool) where
  at : ℕ → State
  at k = state_at s t (bit l) (bit r) c k

  sames : ℕ → Bool
  sames k = same k (main_t s t (bit l) (bit r) c) (main_s s t (bit l) (bit r) c)

  agrees_from-run : (j k : ℕ) → sames k && agrees_from s t j (at k) (l / 2 ^ k) (r / 2 ^ k) ≡ agrees_at s t (bit l) (bit r) c (k + j)
  unfolding agrees_at at sames agrees_from bit state_at same main_t main_s
  agrees_from-run zero k = rw add-zero refl
  agrees_from-run (suc j) k =
      let L : Bool = alike s t (at k) (bit l k) (bit r k) in
      sym (and_assoc (sames k) L (agrees_from s t j (at (suc k)) (l / 2 ^ k / 2) (r / 2 ^ k / 2)))
      ∙ ap₂ (λ (x y : ℕ). (sames k && L) && agrees_from s t j (at (suc k)) x y) (half l k) (half r k)
      ∙ agrees_from-run j (suc k)
      ∙ ap (agrees_at s t (bit l) (bit r) c) (suc-add k j ∙ sym (add-suc k j))

  agrees_from-agrees_at : (k : ℕ) → agrees_from s t k (first s t c) l r ≡ agrees_at s t (bit l) (bit r) c k
  unfolding at sames state_at same
  agrees_from-agrees_at k = simp (zero-add, div-one) at (agrees_from-run k 0)

-- For any source side: at operands of k + 1 bits the recipe agrees with it exactly where the machine's run does.
pub decided : (s : Side) (t : Recipe) (k l r : ℕ) (c : Bool) → l < 2 ^ suc k → r < 2 ^ suc k
    → Agrees s t (suc k) l r c ↔ (agrees_from s t k (first s t c) l r ≡ true)
decided s t k l r c hl hr =
    let el = word-bits (suc k) l hl in
    let er = word-bits (suc k) r hr in
    let run = agrees_run s t (bit l) (bit r) c k in
    let back = run_agrees s t (bit l) (bit r) c k in (
      (λ e. agrees_from-agrees_at s t l r c k ∙ run (rw (el, er) e)),
      (λ h. rw (el, er) at (back (sym (agrees_from-agrees_at s t l r c k) ∙ h))),
    )
