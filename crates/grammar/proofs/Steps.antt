-- The ways out of the tests of one word.
use mathlib.Core.Path.{◌≡◌, refl, sym, ap, ◌∙◌}
use mathlib.Core.Bool.{Bool, true, false}
use Prim.Native.Nat.{ℕ}
use lib.Dec.{eqb, ltb}
use borrow.Author.Tests.{eq-eqb, ne_eqb}
use Rattle.std.specs.Prelude.{Some, None, Err}
use Rattle.words.specs.Field.{kind_of, source_function, target_function}
use Rattle.words.specs.Kinds.{RULE, kind_number, kind_named}
use Rattle.words.specs.declared.kind.Word.{Word}
use Rattle.words.specs.declared.kind.WordKind.{WordKind}
use Rattle.words.specs.declared.kind.WordKind.TheVariants.{Header, Prices, Source, Target, Rule, Binding, Glue}
use Rattle.words.specs.declared.Fault.TheVariants.{OutOfSequence}
use Rattle.words.proofs.Named.{named_back, same_kind}
use Rattle.words.proofs.Choices.{either}
use Rattle.recipe.specs.Fields.{source_of}
use Rattle.layout.specs.Layout.{laid_out}
use Rattle.sequence.specs.Sequence.{START, stage_of, function_of}
use Rattle.sequence.proofs.Numbers.{unnamed_word}
use Rattle.grammar.specs.Reading.{header_fits, prices_fit, source_fits, target_fits, glue_fits, fits, function_in, rises, word_fault, step_of}
use Rattle.sequence.specs.declared.File.{File}
use Rattle.sequence.specs.declared.State.{State}

-- ---- 3: what stands below the kind

-- what a word of each kind must be, and the function by which it rises
abbrev pub fits_as : File → WordKind → ℕ → Bool
fits_as file Header w = header_fits file w
fits_as file Prices w = prices_fit w
fits_as file Source w = source_fits w
fits_as file Target w = target_fits w
fits_as file Rule w = laid_out w
fits_as file Binding w = laid_out w
fits_as file Glue w = glue_fits w

abbrev pub function_as : WordKind → ℕ → ℕ
function_as Header w = source_of w
function_as Prices w = source_of w
function_as Source w = source_function w
function_as Target w = target_function w
function_as Rule w = source_of w
function_as Binding w = source_of w
function_as Glue w = source_of w

pub by_kind : (file : File) (w : ℕ) (k : WordKind) → kind_of w ≡ kind_number k → fits_as file k w ≡ fits file w
unfolding fits
by_kind file w Header e = rw e refl
by_kind file w Prices e = rw e refl
by_kind file w Source e = rw e refl
by_kind file w Target e = rw e refl
by_kind file w Rule e = rw e refl
by_kind file w Binding e = rw e refl
by_kind file w Glue e = rw e refl

pub rising_by : (w : ℕ) (k : WordKind) → kind_of w ≡ kind_number k → function_as k w ≡ function_in w
rising_by w Header e = rw e refl
rising_by w Prices e = rw e refl
rising_by w Source e = rw e refl
rising_by w Target e = rw e refl
rising_by w Rule e = rw e refl
rising_by w Binding e = rw e refl
rising_by w Glue e = rw e refl

-- ---- 4: the function

module _ (s : State) (w : ℕ) (k : WordKind) (e : kind_of w ≡ kind_number k) where
  pub no_order : k ≡ Rule → true ≡ rises s w
  unfolding rises
  no_order h = rw (e, h) refl

  pub next_of_kind : (f : ℕ) → (k ≡ Rule → ⊥) → stage_of s ≡ kind_number k → f ≡ function_in w → ltb (function_of s) f ≡ rises s w
  unfolding rises
  next_of_kind f other h ef =
      rw (ne_eqb (kind_of w) RULE (λ p. other (same_kind k Rule (sym e ∙ p))), eq-eqb (stage_of s) (kind_of w) (h ∙ sym e))
      (ap (λ (x : ℕ). ltb (function_of s) x) ef)

  pub first_of_kind : (stage_of s ≡ kind_number k → ⊥) → true ≡ rises s w
  unfolding rises
  first_of_kind h =
      either (λ b. true ≡ b) (eqb (kind_of w) RULE) (λ _. refl) (λ _. rw (e, ne_eqb (stage_of s) (kind_number k) h) refl)

pub not_at_start : (word : Word) → eqb START (kind_of word.bits) ≡ false
not_at_start word = ne_eqb START (kind_of word.bits) (λ e. none≢some (ap kind_named (e ∙ word.of_kind) ∙ named_back word.kind))
  where
    none≢some : None ≡ Some word.kind → ⊥
    none≢some p = cc

-- ---- the step

-- a word of no kind is out of sequence
pub no_step : (file : File) (s : State) (w : ℕ) → kind_named (kind_of w) ≡ None → Err OutOfSequence ≡ step_of file s w
unfolding word_fault
no_step file s w e = rw (sym (unnamed_word file s (kind_of w) e)) refl
