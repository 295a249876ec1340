-- The words of a mapping that is accepted: one record of what they hold, by one induction over them.
use mathlib.Core.Path.{◌≡◌, refl, sym, ap, subst}
use mathlib.Core.Bool.{Bool, true, not, ◌||◌, false≢true}
use mathlib.Core.List.{List}
use Prim.Native.Nat.{ℕ, ◌+◌, ◌-◌, ◌*◌, ◌<◌, ◌≤◌, ◌^◌, min}
use native.Mathlib.Omega.{arith}
use lib.Dec.{eqb, ltb}
use lib.ListN.{length, get_or}
use borrow.Author.Tests.{eqb-true, ltb-true, not-false}
use Rattle.words.specs.Field.{kind_of, content_of}
use Rattle.words.proofs.Choices.{either, and_split, or_split}
use Rattle.words.proofs.Fields.{field_lt}
use Rattle.recipe.specs.Fields.{source_of}
use Rattle.words.specs.Kinds.{HEADER, BINDING, GLUE}
use Rattle.words.specs.declared.kind.WordKind.TheVariants.{Binding}
use Rattle.words.specs.declared.Refusal.{Refusal}
use Rattle.sequence.specs.Limits.{most_bindings}
use Rattle.reader.specs.Starts.{bindings_start}
use Rattle.reader.specs.Words.{words_read}
use Rattle.sequence.specs.Sequence.{stage_of, mapping_sequence, in_sequence}
use Rattle.grammar.specs.Reading.{beginning, noted, after, function_in, reading}
use Rattle.reader.specs.Mapping.{mapping_facts, mapping_ended, mapping_of, WellFormedMapping}
use Rattle.sequence.specs.declared.File.TheVariants.{AsMapping}
use Rattle.sequence.specs.declared.State.{State}
use Rattle.std.specs.Prelude.{Result, Ok, Err}
use Rattle.reader.specs.declared.Mapping.{Mapping}
use Rattle.reader.proofs.Limits.{were_read}
use Rattle.alu.proofs.Shown.{width_of}
use Rattle.wellformed.proofs.Parts.{Each, Rising, RecipeWord, each_none, each_more, rising_none, rising_more, rising_as}
use Rattle.grammar.proofs.Faultless.{Faultless, passed}
use Rattle.wellformed.proofs.Words.{Last, HeaderFirst, header_first, last_more, width_whole, binding_word, function_of-binding, risen}

-- ---- the three kinds, in sequence

-- bindings and the glue count come after the header or a binding
abbrev pub Open : State → Type 0
Open s = eqb (stage_of s) HEADER || eqb (stage_of s) BINDING ≡ true

pub by_open : {Q : Type 0} (s : State) → Open s → (stage_of s ≡ HEADER → Q) → (stage_of s ≡ BINDING → Q) → Q
by_open s o p q = or_split (eqb (stage_of s) HEADER) _ o (λ e. p (eqb-true (stage_of s) HEADER e)) (λ e. q (eqb-true (stage_of s) BINDING e))

module _ (s : State) (P : ℕ → Type 0) where
  by_kind : (k : ℕ) → mapping_sequence s k ≡ true
      → (stage_of s ≡ 0 → P HEADER)
      → (Open s → s.bindings < most_bindings → P BINDING)
      → (Open s → P GLUE)
      → P k
  unfolding mapping_sequence
  by_kind k f header binding glue =
      let Q : Bool → Type 0 = λ b. b ≡ true → P k in
      either Q (eqb k HEADER) (λ e h. at HEADER e (header (eqb-true (stage_of s) 0 h)))
      (λ _. either Q (eqb k BINDING)
      (λ e h. let u = and_split (eqb (stage_of s) HEADER || eqb (stage_of s) BINDING) (ltb s.bindings most_bindings) h in
      at BINDING e (binding u.0 (ltb-true s.bindings most_bindings u.1)))
      (λ _. either Q (eqb k GLUE) (λ e h. at GLUE e (glue h)) (λ _ e. absurd (false≢true e)))) f
    where
      at : (n : ℕ) → eqb k n ≡ true → P n → P k
      at n e p = subst P (sym (eqb-true k n e)) p

-- ---- what the words so far hold

-- How many there were. Bindings are counted only once the header has been passed (27 * 0 before).
record Counts (s : State) (i : ℕ) : Type 0 where
  passed : min (stage_of s) HEADER + s.bindings + (stage_of s - BINDING) ≡ i
  bindings_begun : s.bindings ≤ most_bindings * (stage_of s - HEADER)
  few_bindings : s.bindings ≤ most_bindings
  last_kind : stage_of s ≤ GLUE

record Held (ws : List ℕ) (s : State) (i : ℕ) : Type 0 where
  counts : Counts s i
  last : Last ws s i
  header : 1 ≤ stage_of s → HeaderFirst AsMapping ws
  binding_words_lem : Each (RecipeWord BINDING) ws 1 s.bindings
  bindings_rise : Rising function_in ws 1 s.bindings
  glue : GLUE ≤ stage_of s → kind_of (get_or ws (1 + s.bindings) 0) ≡ GLUE

record Opened (s : State) (i : ℕ) : Type 0 where
  next : i ≡ 1 + s.bindings
  begun : 1 ≤ stage_of s
  bound : 1 ≤ s.bindings → stage_of s ≡ BINDING

opened : (s : State) (i : ℕ) → Counts s i → Open s → Opened s i
opened s i q o =
    by_open s o (λ h. record { next = omega arith; begun = omega arith; bound = λ l. omega arith })
    (λ h. record { next = omega arith; begun = omega arith; bound = λ _. h })

module _ (ws : List ℕ) where
  held_none : Held ws beginning 0
  held_none =
      record {
        counts = omega arith;
        last = λ p h. absurd (omega arith);
        header = λ h. absurd (omega arith);
        binding_words_lem = each_none ws 1 0 (RecipeWord BINDING) refl;
        bindings_rise = rising_none ws 1 0 function_in refl;
        glue = λ h. absurd (omega arith);
      }

  module _ (s : State) (i : ℕ) (g : Faultless AsMapping s (get_or ws i 0)) (q : Held ws s i) where
    -- a word of kind k keeps it up
    abbrev Keeps : ℕ → Type 0
    Keeps k = kind_of (get_or ws i 0) ≡ k → Held ws (noted k (function_in (get_or ws i 0)) s) (i + 1)

    header_more : stage_of s ≡ 0 → Keeps HEADER
    header_more h e =
        record {
          counts = omega arith;
          last = last_more ws i;
          header = λ _. header_first AsMapping s ws i (omega arith) e g;
          binding_words_lem = q.binding_words_lem;
          bindings_rise = q.bindings_rise;
          glue = λ l. absurd (omega arith);
        }

    binding_more : Open s → s.bindings < most_bindings → Keeps BINDING
    binding_more o₀ few e =
        let o = opened s i q.counts o₀ in
        record {
          counts = omega arith;
          last = last_more ws i;
          header = λ _. q.header o.begun;
          binding_words_lem =
              each_more ws 1 s.bindings (RecipeWord BINDING) i o.next q.binding_words_lem
              (binding_word AsMapping s _ g e);
          bindings_rise =
              rising_more ws 1 s.bindings function_in i o.next q.bindings_rise
              (risen ws s i Binding 1 s.bindings q.last o.next o.bound (λ x. cc) e g.order);
          glue = λ l. absurd (omega arith);
        }

    glue_more : Open s → Keeps GLUE
    glue_more o₀ e =
        let o = opened s i q.counts o₀ in
        record {
          counts = omega arith;
          last = last_more ws i;
          header = λ _. q.header o.begun;
          binding_words_lem = q.binding_words_lem;
          bindings_rise = q.bindings_rise;
          glue = λ _. subst (λ (x : ℕ). kind_of (get_or ws x 0) ≡ GLUE) o.next e;
        }

    held_more : Held ws (after s (get_or ws i 0)) (i + 1)
    unfolding in_sequence
    held_more = by_kind s Keeps _ g.in_sequence_lem header_more binding_more glue_more refl

-- ---- an accepted mapping

pub record MappingFacts (ws : List ℕ) (mapping : Mapping) : Type 0 where
  pub size : bindings_start + mapping.bindings + 1 ≡ length ws
  pub width_least : 1 ≤ mapping.width
  pub width_most : mapping.width ≤ 64
  pub bindings_most : mapping.bindings ≤ most_bindings
  pub header_kind : kind_of (get_or ws 0 0) ≡ HEADER
  pub header : content_of (get_or ws 0 0) ≡ mapping.width
  pub binding_words_lem : Each (RecipeWord BINDING) ws bindings_start mapping.bindings
  pub bindings_rise : Rising source_of ws bindings_start mapping.bindings
  pub glue_kind : kind_of (get_or ws (bindings_start + mapping.bindings) 0) ≡ GLUE
  pub glue : content_of (get_or ws (bindings_start + mapping.bindings) 0) ≡ mapping.glue

pub glue_fits_lem : (ws : List ℕ) (mapping : Mapping) → MappingFacts ws mapping → mapping.glue < 2 ^ 28
glue_fits_lem ws mapping h = omega (arith, h.glue, field_lt (get_or ws (1 + mapping.bindings) 0) 0 28)

from_held : (ws : List ℕ) (s : State) → stage_of s ≡ GLUE → Held ws s (length ws)
    → MappingFacts ws (mapping_facts (get_or ws 0 0) (get_or ws (length ws - 1) 0) s)
from_held ws s h q =
    let header = q.header (omega arith) in
    let range = width_of (content_of (get_or ws 0 0)) header.1 in
    let width = width_whole (get_or ws 0 0) range in
    let last : 1 + s.bindings ≡ length ws - 1 = omega arith in
    record {
      size = omega arith;
      width_least = omega (arith, width, range);
      width_most = omega (arith, width, range);
      bindings_most = q.counts.few_bindings;
      header_kind = header.0;
      header = width;
      binding_words_lem = q.binding_words_lem;
      bindings_rise =
          rising_as ws 1 s.bindings function_in (RecipeWord BINDING) source_of function_of-binding q.binding_words_lem q.bindings_rise;
      glue_kind = q.glue (omega arith);
      glue = ap (λ (x : ℕ). content_of (get_or ws x 0)) last;
    }

-- what the words hold once all have passed
all_held : (ws : List ℕ) (s : State) → reading AsMapping beginning 0 ws ≡ Ok s → stage_of s ≡ GLUE
    → MappingFacts ws (mapping_facts (get_or ws 0 0) (get_or ws (length ws - 1) 0) s)
all_held ws s e h =
    from_held ws s h
    (passed AsMapping ws (Held ws) (λ t i _. held_more ws t i) (length ws) 0 beginning s (omega arith) (held_none ws) e)

module _ (ws : List ℕ) (mapping : Mapping) where
  once_read : (r : Result State Refusal) → words_read AsMapping ws ≡ r → mapping_ended ws r ≡ Ok mapping → MappingFacts ws mapping
  once_read (Ok s) e =
      either (λ m. m ≡ Ok mapping → MappingFacts ws mapping) (not (eqb (stage_of s) GLUE))
      (λ _ a. absurd cc)
      (λ h a. let u : mapping_facts (get_or ws 0 0) (get_or ws (length ws - 1) 0) s ≡ mapping = cc in
      let glue = eqb-true (stage_of s) GLUE (not-false (eqb (stage_of s) GLUE) h) in
      subst (MappingFacts ws) u (all_held ws s (were_read AsMapping ws s e).read glue))
  once_read (Err r) e = λ a. absurd cc

  pub well_formed : WellFormedMapping ws mapping → MappingFacts ws mapping
  unfolding mapping_of
  well_formed = once_read (words_read AsMapping ws) refl
