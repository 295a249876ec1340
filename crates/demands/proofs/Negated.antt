-- What a target's mark means, request #105: "Every code that reads TO0 or TO1, S and the joined ones too, reads the complemented port."
use mathlib.Core.Path.{◌≡◌, refl, sym, ap, subst, ◌∙◌}
use mathlib.Core.Logic.{◌↔◌}
use mathlib.Core.Bool.{Bool, true, false, not, ◌&&◌, ◌||◌, beq, false≢true}
use Prim.Native.Nat.{ℕ, zero, suc, ◌-◌, ◌^◌, ◌<◌}
use native.Mathlib.Omega.{arith}
use lib.Dec.{eqb}
use borrow.Author.Tests.{eq-eqb, ne_eqb, eqb-true, eqb-false}
use Rattle.std.specs.Prelude.{Option, Some, None}
use Rattle.std.proofs.Math.Bool.{not-not}
use Rattle.words.proofs.Choices.{and_join, beq-true, beq-refl}
use Rattle.bits.specs.Bits.{top, bit}
use Rattle.bits.specs.Wiring.{complement, wired, carried}
use Rattle.bits.specs.declared.Ports.{Ports}
use Rattle.bits.proofs.Words.{word-zeros, not_bit, top-word}
use Rattle.alu.specs.Function.{function_of, ports}
use Rattle.alu.proofs.Shown.{ports_lt}
use Rattle.words.proofs.Fields.{field_lt}
use Rattle.recipe.specs.Fields.{SCRATCH, source_of, from_scratch, fields_of}
use Rattle.recipe.specs.declared.Fields.{Fields}
use Rattle.output.specs.Output.{shown_word, shown_bit, shown_comparison, outputs_show}
use Rattle.binding.specs.Binding.{plain, complemented, side_shows, from_target, recipe_of, shows}
use Rattle.binding.specs.Right.{RightFor, Right, claim_against, every}
use Rattle.binding.specs.declared.Side.{Side}
use Rattle.binding.proofs.Tests.{every-at, every-all}
use Rattle.book.proofs.Closed.{both, at_both}
use Rattle.demands.specs.Negated.{main_rewritten, compared_by, code_rewritten, rewritten}

-- tests of equations that say the same
eqb_iff : (a b a' b' : ℕ) → (a ≡ b → a' ≡ b') → (a' ≡ b' → a ≡ b) → eqb a' b' ≡ eqb a b
eqb_iff a b a' b' to from = by (eqb a b) refl
  where
    by : (c : Bool) → eqb a b ≡ c → eqb a' b' ≡ c
    by true e = eq-eqb a' b' (to (eqb-true a b e))
    by false e = ne_eqb a' b' (λ h. eqb-false a b e (from h))

-- the word 0 has no sign
no_sign : (k a : ℕ) → not (not (eqb a 0)) && top (suc k) a ≡ false
no_sign k a = by (eqb a 0) refl
  where
    by : (b : Bool) → eqb a 0 ≡ b → not (not b) && top (suc k) a ≡ false
    by false e = refl
    by true e =
        ap (top (suc k)) (eqb-true a 0 e) ∙ ap (top (suc k)) (sym (word-zeros (suc k))) ∙ top-word k (λ i. false)

-- ---- a word of n bits and its complement

module _ (k a : ℕ) (h : a < 2 ^ suc k) where
  -- complemented twice it is itself
  twice : complement (suc k) (complement (suc k) a) ≡ a
  twice = omega arith

  -- its top bit is complemented
  top_not : top (suc k) (complement (suc k) a) ≡ not (top (suc k) a)
  unfolding top
  top_not = not_bit (suc k) a (suc k - 1) h (omega arith)

  -- it is 0 where the word is all ones, and all ones where the word is 0
  zero_of : eqb (complement (suc k) a) 0 ≡ eqb a (2 ^ suc k - 1)
  zero_of = eqb_iff a (2 ^ suc k - 1) (complement (suc k) a) 0 (λ e. omega arith) (λ e. omega arith)

  ones_of : eqb (complement (suc k) a) (2 ^ suc k - 1) ≡ eqb a 0
  ones_of = eqb_iff a 0 (complement (suc k) a) (2 ^ suc k - 1) (λ e. omega arith) (λ e. omega arith)

  main_same : (code : ℕ) → shown_word (suc k) (main_rewritten code) (complement (suc k) a) ≡ shown_word (suc k) code a
  main_same zero = refl
  main_same (suc zero) = twice
  main_same (suc (suc zero)) = refl
  main_same (suc (suc (suc code))) = refl

-- ---- comparison codes, by one test over all codes and bits

-- a code reads of the complemented port NOT TO1, GNAND for GOR, GNOR for GAND and NOT S; no word has a sign and no bits
abbrev shows_same : ℕ → ℕ → Bool → Bool → Bool → Bool → Bool → Bool
shows_same code d to1 gor gand s tovf =
    not gor && s
    || beq (shown_comparison d (not to1) (not gand) (not gor) (not s) tovf) (shown_comparison code to1 gor gand s tovf)

abbrev always_same : ℕ → ℕ → Bool
always_same code d = both (λ to1. both (λ gor. both (λ gand. both (λ s. both (shows_same code d to1 gor gand s)))))

abbrev passes : ℕ → Option ℕ → Bool
passes code None = true
passes code (Some d) = always_same code d

all_pass : every 16 (λ code. passes code (code_rewritten code)) ≡ true
unfolding every
all_pass = refl

code_same : (code d : ℕ) → code < 16 → code_rewritten code ≡ Some d → (to1 gor gand s tovf : Bool) → not gor && s ≡ false
    → shown_comparison d (not to1) (not gand) (not gor) (not s) tovf ≡ shown_comparison code to1 gor gand s tovf
code_same code d h e to1 gor gand s tovf some =
    let test : always_same code d ≡ true
    = ap (passes code) (sym e) ∙ every-at 16 (λ code. passes code (code_rewritten code)) all_pass code h in
    let same : shows_same code d to1 gor gand s tovf ≡ true =
    at_both (shows_same code d to1 gor gand s)
    (at_both (λ s. both (shows_same code d to1 gor gand s))
    (at_both (λ gand. both (λ s. both (shows_same code d to1 gor gand s)))
    (at_both (λ gor. both (λ gand. both (λ s. both (shows_same code d to1 gor gand s))))
    (at_both (λ to1. both (λ gor. both (λ gand. both (λ s. both (shows_same code d to1 gor gand s))))) test to1) gor) gand) s) tovf in
    let p = shown_comparison d (not to1) (not gand) (not gor) (not s) tovf in
    let q = shown_comparison code to1 gor gand s tovf in
    beq-true p q (ap (λ (x : Bool). x || beq p q) (sym some) ∙ same)

-- ---- a recipe

module _ (r : Fields) (code : ℕ) (h : r.code < 16) (e : code_rewritten r.code ≡ Some code) where
  ports_same : (k : ℕ) (p : Ports) → p.o0 < 2 ^ suc k
      → outputs_show (record { main = main_rewritten r.main; cout = r.cout; ovf = r.ovf; code = code }) (suc k) (complemented (suc k) p)
      ≡ outputs_show (record { main = r.main; cout = r.cout; ovf = r.ovf; code = r.code }) (suc k) p
  unfolding outputs_show
  ports_same k p l =
      let o1 =
      (λ i. shown_comparison code (not p.o1) (not (zero_of k p.o0 l i)) ((ones_of k p.o0 l ∙ sym (not-not (eqb p.o0 0))) i) (top_not k p.o0 l i) p.ovf)
      ∙ code_same r.code code h e p.o1 (not (eqb p.o0 0)) (eqb p.o0 (2 ^ suc k - 1)) (top (suc k) p.o0) p.ovf (no_sign k p.o0) in
      λ i. record {
        o0 = main_same k p.o0 l r.main i;
        ocout = shown_bit r.cout p.ocout;
        ovf = shown_bit r.ovf p.ovf;
        o1 = o1 i;
      }

  -- on a negated target the rewritten recipe shows what the recipe shows on the plain one
  pub shows_the_same : (n : ℕ) → 0 < n → (left right : ℕ) (carry : Bool)
      → shows (from_target true (rewritten r code)) n left right carry ≡ shows (from_target false r) n left right carry
  unfolding side_shows
  shows_the_same zero l left right carry = absurd (omega arith)
  shows_the_same (suc k) l left right carry =
      ports_same k
      (ports (function_of r.target) (suc k) (wired (suc k) r.left left right) (wired (suc k) r.right left right) (carried r.carry carry))
      (ports_lt (function_of r.target) (suc k) (wired (suc k) r.left left right) (wired (suc k) r.right left right) (carried r.carry carry))

  -- and so it is right there exactly if the recipe is right here
  pub right_the_same : (s : Side) (n : ℕ) → 0 < n → RightFor s (from_target true (rewritten r code)) n ↔ RightFor s (from_target false r) n
  right_the_same s n l = (
    (λ q left right carry a b. sym (shows_the_same n l left right carry) ∙ q left right carry a b),
    (λ q left right carry a b. shows_the_same n l left right carry ∙ q left right carry a b),
  )

-- ---- of a word: w is not from scratch, and v is w rewritten
module _ (w v code : ℕ) (target : from_scratch w ≡ false) (e : code_rewritten (fields_of w).code ≡ Some code)
    (as_rewritten : fields_of v ≡ rewritten (fields_of w) code) where
  source_same : source_of v ≡ source_of w
  source_same = ap (λ (r : Fields). r.source) as_rewritten

  wired_v : recipe_of true v ≡ from_target true (rewritten (fields_of w) code)
  unfolding recipe_of
  wired_v =
      let t : from_scratch v ≡ false = ap (λ (r : Fields). eqb r.target SCRATCH) as_rewritten ∙ target in
      rw t (ap (from_target true) as_rewritten)

  wired_w : recipe_of false w ≡ from_target false (fields_of w)
  unfolding recipe_of
  wired_w = rw target refl

  -- v is right of the negated target exactly if w is right of the plain one
  pub right_of_words : (n : ℕ) → 0 < n → Right (claim_against true v) n ↔ Right (claim_against false w) n
  right_of_words n l =
      let same = right_the_same (fields_of w) code (field_lt w 0 4) e (plain (source_of w)) n l in
      let at : (RightFor (plain (source_of v)) (recipe_of true v) n) ≡ RightFor (plain (source_of w)) (from_target true (rewritten (fields_of w) code)) n
      = λ i. RightFor (plain (source_same i)) (wired_v i) n in
      let at-w : (RightFor (plain (source_of w)) (recipe_of false w) n) ≡ RightFor (plain (source_of w)) (from_target false (fields_of w)) n
      = λ i. RightFor (plain (source_of w)) (wired_w i) n in (
        (λ h. subst (λ (t : Type 0). t) (sym at-w) (same.0 (subst (λ (t : Type 0). t) at h))),
        (λ h. subst (λ (t : Type 0). t) (sym at) (same.1 (subst (λ (t : Type 0). t) at-w h))),
      )

-- ---- for the other comparison codes there is none, by one test at width 2

abbrev ports_at : ℕ → Bool → Ports
ports_at a tovf = record { o0 = a; ocout = false; ovf = tovf; o1 = false }

abbrev same_at : ℕ → ℕ → ℕ → Bool → Bool
same_at code d a tovf = beq (compared_by d 2 (complemented 2 (ports_at a tovf))) (compared_by code 2 (ports_at a tovf))

abbrev same_at_two : ℕ → ℕ → Bool
same_at_two code d = every 4 (λ a. both (same_at code d a))

abbrev differs : Option ℕ → ℕ → ℕ → Bool
differs None code d = not (same_at_two code d)
differs (Some c) code d = true

all_differ : every 16 (λ code. every 16 (differs (code_rewritten code) code)) ≡ true
unfolding every outputs_show top bit
all_differ = refl

pub no_code_for_the_others : (code d : ℕ) → code < 16 → d < 16 → code_rewritten code ≡ None
    → ((p : Ports) → p.o0 < 2 ^ 2 → compared_by d 2 (complemented 2 p) ≡ compared_by code 2 p) → ⊥
no_code_for_the_others code d h l e same =
    let differ : not (same_at_two code d) ≡ true
    = ap (λ (c : Option ℕ). differs c code d) (sym e)
    ∙ every-at 16 (differs (code_rewritten code) code) (every-at 16 (λ code. every 16 (differs (code_rewritten code) code)) all_differ code h) d l in
    let at : (a : ℕ) (tovf : Bool) → a < 4 → same_at code d a tovf ≡ true
    = λ a tovf m. beq-refl _ _ (same (ports_at a tovf) m) in
    let alike : same_at_two code d ≡ true
    = every-all 4 (λ a. both (same_at code d a)) (λ a m. and_join (at a false m) (at a true m)) in
    absurd (false≢true (ap not (sym alike) ∙ differ))
