-- What a word means, by its kind and the layout.
use mathlib.Core.Path.{◌≡◌, refl, sym, ap, ◌∙◌}
use mathlib.Core.List.{[], ◌++◌, append_assoc}
use Prim.Native.Nat.{ℕ}
use native.Mathlib.Omega.{arith}
use Rattle.std.proofs.lemmas.Bool.Decides.{nat_tests}
use Rattle.std.specs.Prelude.{Option, Some, None, is_some, true, false}
use Rattle.words.specs.Field.{kind_of}
use Rattle.words.specs.Kinds.{kind_number, kind_named}
use Rattle.words.specs.declared.kind.WordKind.{WordKind}
use Rattle.words.specs.declared.kind.WordKind.TheVariants.{Header, Prices, Source, Target, Rule, Binding, Glue}
use Rattle.words.specs.declared.Fault.TheVariants.{OutOfSequence, NotLaidOut}
use Rattle.words.proofs.Named.{named, no_kind}
use Rattle.sequence.specs.declared.File.TheVariants.{AsJob}
use Rattle.grammar.specs.Reading.{fits}
use Rattle.text.specs.Text.{bytes}
use Rattle.describe.specs.Describe.{word_text, is_kind, layout_fault, output_fault, fault_text, meaning_text}

-- ---- what a word means, or its refusal

unnamed_kind : (n : ℕ) → kind_named n ≡ None → is_kind n ≡ false
unfolding is_kind
unnamed_kind n e =
    grind (arith, nat_tests, no_kind n e Header, no_kind n e Prices, no_kind n e Source, no_kind n e Target, no_kind n e Rule, no_kind n e Binding, no_kind n e Glue)

named_kind : (k : WordKind) → is_kind (kind_number k) ≡ true
unfolding is_kind
named_kind Header = refl
named_kind Prices = refl
named_kind Source = refl
named_kind Target = refl
named_kind Rule = refl
named_kind Binding = refl
named_kind Glue = refl

is_one : (n : ℕ) (o : Option WordKind) → o ≡ kind_named n → is_some o ≡ true → is_kind n ≡ true
is_one n None e h = cc
is_one n (Some k) e h = ap is_kind (named n k (sym e)) ∙ named_kind k

module _ (w : ℕ) where
  pub kindless : kind_named (kind_of w) ≡ None → meaning_text w ≡ fault_text [] (Some OutOfSequence)
  unfolding meaning_text layout_fault
  kindless e = rw (unnamed_kind (kind_of w) e) refl

  module _ (h : is_some (kind_named (kind_of w)) ≡ true) where
    pub misfit : fits AsJob w ≡ false → meaning_text w ≡ fault_text [] (Some NotLaidOut)
    unfolding meaning_text layout_fault
    misfit e = rw (is_one (kind_of w) (kind_named (kind_of w)) refl h, e) refl

    pub meant : fits AsJob w ≡ true → meaning_text w ≡ word_text w ++ fault_text (bytes ", ") (output_fault w)
    unfolding meaning_text layout_fault
    meant e = rw (is_one (kind_of w) (kind_named (kind_of w)) refl h, e) refl

pub ruleset meanings = (append_assoc, kindless, misfit, meant)
