-- A word without a fault: what each kind of word then holds.
use mathlib.Core.Path.{◌≡◌, refl, sym, ap, subst, ◌∙◌}
use mathlib.Core.Bool.{true, false, not, false≢true}
use mathlib.Core.List.{List}
use Prim.Native.Nat.{ℕ, ◌+◌, ◌<◌, ◌≤◌, ◌^◌}
use native.Mathlib.Omega.{arith}
use lib.Dec.{ltb}
use lib.ListN.{get_or}
use borrow.Author.Tests.{lt-ltb, le-ltb, le-leb, leb-true, ltb-true, ltb-false, not-false}
use Rattle.std.specs.Prelude.{Option, Some, None}
use Rattle.words.specs.Field.{field, kind_of, content_of, target_function}
use Rattle.words.specs.Kinds.{HEADER, PRICES, SOURCE, TARGET, RULE, BINDING, kind_number, kind_named, is_recipe}
use Rattle.words.specs.declared.kind.WordKind.{WordKind}
use Rattle.words.specs.declared.kind.WordKind.TheVariants.{Header, Prices, Source, Target, Rule, Binding}
use Rattle.words.specs.declared.Fault.{Fault}
use Rattle.words.proofs.Named.{named_back}
use Rattle.words.proofs.Choices.{either, and_split}
use Rattle.alu.specs.Range.{is_function}
use Rattle.bits.specs.Asked.{Width}
use Rattle.recipe.specs.Fields.{source_of}
use Rattle.layout.specs.Layout.{laid_out, reads_undriven, shows_other, recipe_fault}
use Rattle.sequence.specs.Sequence.{stage_after, stage_of, function_after, function_of}
use Rattle.grammar.specs.Reading.{header_fits, fits, function_in, rises, last_word, after}
use Rattle.sequence.specs.declared.File.{File}
use Rattle.sequence.specs.declared.State.{State}
use Rattle.grammar.proofs.Steps.{by_kind, rising_by, next_of_kind}
use Rattle.grammar.proofs.Faultless.{Faultless}
use Rattle.wellformed.proofs.Parts.{SourceWord, TargetWord, RecipeWord}

-- ---- numbers in range

pub is_function_lem : (f : ℕ) → 1 ≤ f → f ≤ 27 → is_function f ≡ true
unfolding is_function
is_function_lem f g h = rw (le-ltb f 1 g, le-leb f 27 h) refl

in_range_lem : (f : ℕ) → is_function f ≡ true → (1 ≤ f) × (f ≤ 27)
unfolding is_function
in_range_lem f =
    either (λ b. b ≡ true → (1 ≤ f) × (f ≤ 27)) (ltb f 1) (λ _ e. absurd (false≢true e))
    (λ h e. (ltb-false f 1 h, leb-true f 27 e))

-- the width takes up the whole content of its word
pub width_whole : (w : ℕ) → Width (content_of w) → content_of w ≡ field w 0 7
width_whole w h = omega arith

-- ---- a recipe without a fault

pub record Outputs (w : ℕ) : Type 0 where
  pub laid_out_lem : laid_out w ≡ true
  pub driven : reads_undriven w ≡ false
  pub exact : shows_other w ≡ false

pub recipe_outputs : (w : ℕ) → recipe_fault w ≡ None → Outputs w
unfolding recipe_fault
recipe_outputs w =
    let Q : Option Fault → Type 0 = λ n. n ≡ None → Outputs w in
    either Q (not (laid_out w)) (λ _ e. absurd cc)
    (λ a. either Q (reads_undriven w) (λ _ e. absurd cc)
    (λ b. either Q (shows_other w) (λ _ e. absurd cc)
    (λ c _. record { laid_out_lem = not-false (laid_out w) a; driven = b; exact = c })))

pub recipe_faultless : (w : ℕ) → Outputs w → recipe_fault w ≡ None
unfolding recipe_fault
recipe_faultless w o = rw (o.laid_out_lem, o.driven, o.exact) refl

-- words of a kind that holds no recipe have no outputs
pub no_outputs : (w k : ℕ) → kind_of w ≡ k → is_recipe k ≡ false → is_recipe (kind_of w) ≡ true
    → (reads_undriven w ≡ false) × (shows_other w ≡ false)
no_outputs w k e other h = absurd (false≢true (sym other ∙ ap is_recipe (sym e) ∙ h))

-- ---- what the kinds of words hold

module _ (file : File) (s : State) (w : ℕ) (g : Faultless file s w) where
  header_layout : kind_of w ≡ HEADER → header_fits file w ≡ true
  header_layout e = by_kind file w Header e ∙ g.layout

  pub prices_range : kind_of w ≡ PRICES → content_of w < 2 ^ 24
  prices_range e = ltb-true (content_of w) (2 ^ 24) (by_kind file w Prices e ∙ g.layout)

  pub source_word : kind_of w ≡ SOURCE → SourceWord w
  source_word e =
      let r = in_range_lem (content_of w) (by_kind file w Source e ∙ g.layout) in
      record { kind_is = e; least = r.0; most = r.1 }

  pub target_word : kind_of w ≡ TARGET → TargetWord w
  target_word e =
      let parts = and_split (ltb (content_of w) (2 ^ 6)) (is_function (target_function w)) (by_kind file w Target e ∙ g.layout) in
      let r = in_range_lem (target_function w) parts.1 in
      record { kind_is = e; up_to_mark = ltb-true (content_of w) (2 ^ 6) parts.0; least = r.0; most = r.1 }

  recipe_word : (k : ℕ) → kind_of w ≡ k → is_recipe k ≡ true → laid_out w ≡ fits file w → RecipeWord k w
  recipe_word k e r f =
      let o = g.outputs (ap is_recipe e ∙ r) in
      record { kind_is = e; no_fault = recipe_faultless w (record { laid_out_lem = f ∙ g.layout; driven = o.0; exact = o.1 }) }

  pub rule_word : kind_of w ≡ RULE → RecipeWord RULE w
  unfolding is_recipe
  rule_word e = recipe_word RULE e refl (by_kind file w Rule e)

  pub binding_word : kind_of w ≡ BINDING → RecipeWord BINDING w
  unfolding is_recipe
  binding_word e = recipe_word BINDING e refl (by_kind file w Binding e)

pub function_of-source : (w : ℕ) → SourceWord w → function_in w ≡ content_of w
function_of-source w e = sym (rising_by w Source e.kind_is)

pub function_of-target : (w : ℕ) → TargetWord w → function_in w ≡ target_function w
function_of-target w e = sym (rising_by w Target e.kind_is)

pub function_of-binding : (w : ℕ) → RecipeWord BINDING w → function_in w ≡ source_of w
function_of-binding w e = sym (rising_by w Binding e.kind_is)

-- ---- above the word before

module _ (s : State) (w : ℕ) (k : WordKind) (e : kind_of w ≡ kind_number k) where
  -- the word is the last of the state after it
  last_after : (after s w).last ≡ Some (record { kind = k; function = function_in w })
  last_after = ap (last_word (function_in w)) (ap kind_named e ∙ named_back k)

  -- a word of the same kind rises if its function is above this one's
  pub rises_above : (v : ℕ) → kind_of v ≡ kind_number k → (k ≡ Rule → ⊥) → function_in w < function_in v → rises (after s w) v ≡ true
  rises_above v kv other l =
      sym (next_of_kind (after s w) v k kv (function_in v) other (ap stage_after last_after) refl)
      ∙ lt-ltb (function_of (after s w)) (function_in v) (omega (arith, l, ap function_after last_after))

-- the state remembers the function of the word before it
abbrev pub Last : List ℕ → State → ℕ → Type 0
Last ws s i = (p : ℕ) → p + 1 ≡ i → function_of s ≡ function_in (get_or ws p 0)

pub last_more : (ws : List ℕ) (i p : ℕ) → p + 1 ≡ i + 1 → function_in (get_or ws i 0) ≡ function_in (get_or ws p 0)
last_more ws i p h = let e : i ≡ p = omega arith in ap (λ (x : ℕ). function_in (get_or ws x 0)) e

-- both files begin with a header
abbrev pub HeaderFirst : File → List ℕ → Type 0
HeaderFirst file ws = (kind_of (get_or ws 0 0) ≡ HEADER) × (header_fits file (get_or ws 0 0) ≡ true)

pub header_first : (file : File) (s : State) (ws : List ℕ) (i : ℕ) → i ≡ 0 → kind_of (get_or ws i 0) ≡ HEADER
    → Faultless file s (get_or ws i 0) → HeaderFirst file ws
header_first file s ws i e k g =
    subst (λ (x : ℕ). (kind_of (get_or ws x 0) ≡ HEADER) × (header_fits file (get_or ws x 0) ≡ true)) e (k, header_layout file s (get_or ws i 0) g k)

pub risen : (ws : List ℕ) (s : State) (i : ℕ) (k : WordKind) (start n : ℕ) → Last ws s i → i ≡ start + n
    → (1 ≤ n → stage_of s ≡ kind_number k) → (k ≡ Rule → ⊥) → kind_of (get_or ws i 0) ≡ kind_number k → rises s (get_or ws i 0) ≡ true
    → (m : ℕ) → m + 1 ≡ n → function_in (get_or ws (start + m) 0) < function_in (get_or ws i 0)
risen ws s i k start n last e same other ek r m h =
    let w = get_or ws i 0 in
    let a = ltb-true (function_of s) (function_in w) (next_of_kind s w k ek (function_in w) other (same (omega arith)) refl ∙ r) in
    let b = last (start + m) (omega arith) in
    omega (arith, a, b)
