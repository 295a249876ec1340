-- The tests of soundness, one law for each way out, and what a sound bench holds.
use mathlib.Core.Path.{◌≡◌, refl, sym, ap, ◌∙◌}
use mathlib.Core.Bool.{Bool, true, false, not, ◌&&◌, false≢true}
use mathlib.Core.List.{List, [], ◌∷◌}
use mathlib.Core.Logic.{◌⊎◌, inl, inr}
use Prim.Native.Nat.{ℕ, ◌+◌, ◌-◌, ◌*◌, ◌%◌, ◌^◌, ◌≤◌, ◌<◌, min}
use native.Mathlib.Decide.{dec_lt}
use native.Mathlib.Omega.{arith}
use lib.Bits.{bit_or}
use lib.Dec.{eqb, ltb}
use lib.ListN.{length, take, drop, drop_of_length-le}
use borrow.Author.Tests.{eq-eqb, ne_eqb, eqb-true, eqb-false, lt-ltb, le-ltb, ltb-false, not-true, not-false}
use Rattle.std.specs.Prelude.{if◌then◌else◌, Option, Some, None, is_some, Result, Ok}
use Rattle.words.specs.declared.Fault.{Fault}
use Rattle.words.specs.declared.Fault.TheVariants.{OutOfSequence}
use Rattle.std.specs.List.{list_all}
use Rattle.words.specs.Field.{kind_of, source_function}
use Rattle.words.specs.Kinds.{RULE, kind_number, kind_named}
use Rattle.words.specs.declared.kind.WordKind.{WordKind}
use Rattle.words.specs.declared.kind.WordKind.TheVariants.{Rule}
use Rattle.words.proofs.Named.{named, no_kind, same_kind}
use Rattle.words.proofs.Choices.{either}
use Rattle.words.proofs.Fields.{laid, onto}
use Rattle.words.proofs.Lists.{part_from}
use Rattle.alu.specs.Range.{is_width}
use Rattle.bits.specs.Asked.{Width}
use Rattle.alu.proofs.Shown.{width_of, is_width_lem}
use Rattle.recipe.specs.Fields.{source_of}
use Rattle.layout.specs.Layout.{recipe_fault}
use Rattle.binding.specs.Right.{is_right}
use Rattle.sequence.specs.Limits.{most_sources, most_targets}
use Rattle.reader.specs.Job.{job_of}
use Rattle.reader.specs.declared.Job.{Job}
use Rattle.words.specs.declared.Refusal.{Refusal}
use Rattle.table.specs.Table.{has_target}
use Rattle.claims.specs.Claim.{claim_in}
use Rattle.soundness.specs.Sound.{sources_on, targets_on, table_words, holds, tables_sound, empty, rule_fault, bindable, entry_sound, bound_sound, glue_on, is_sound}
use Rattle.soundness.specs.declared.Tables.{Tables}
use Rattle.soundness.specs.Shape.{TablesShaped}
use Rattle.soundness.proofs.Shapes.{rest_of}

-- ---- a rule's refusal

pub a_rule : (w : ℕ) (r : Option Fault) → kind_of w ≡ RULE → r ≡ recipe_fault w → r ≡ rule_fault w
unfolding rule_fault
a_rule w r h er = rw (eq-eqb (kind_of w) RULE h) er

other_kind : (w : ℕ) → (kind_of w ≡ RULE → ⊥) → Some OutOfSequence ≡ rule_fault w
unfolding rule_fault
other_kind w h = rw (ne_eqb (kind_of w) RULE h) refl

module _ (w : ℕ) (k : WordKind) (e : kind_named (kind_of w) ≡ Some k) where
  pub rule_named : (r : Option Fault) → k ≡ Rule → r ≡ recipe_fault w → r ≡ rule_fault w
  rule_named r h er = a_rule w r (named (kind_of w) k e ∙ ap kind_number h) er

  pub other_named : (k ≡ Rule → ⊥) → Some OutOfSequence ≡ rule_fault w
  other_named h = other_kind w (λ p. h (same_kind k Rule (sym (named (kind_of w) k e) ∙ p)))

pub unnamed_word : (w : ℕ) → kind_named (kind_of w) ≡ None → Some OutOfSequence ≡ rule_fault w
unnamed_word w e = other_kind w (eqb-false (kind_of w) RULE (no_kind (kind_of w) e Rule))

pub ruleset rule_faults = (rule_named, other_named, unnamed_word)

-- ---- a recipe at a source

module _ (n : ℕ) (ss ts : List ℕ) (s w : ℕ) (x : Option Fault) (ex : x ≡ rule_fault w) (y : Bool) (ey : y ≡ is_some x) where
  known : is_some (rule_fault w) ≡ y
  known = ap is_some (sym ex) ∙ sym ey

  pub bad_rule : y ≡ true → false ≡ bindable n ss ts s w
  unfolding bindable
  bad_rule h = rw (known ∙ h) refl

  module _ (hx : y ≡ false) (g f : ℕ) (eg : g ≡ source_of w) (ef : f ≡ source_function s) where
    pub other_source : (g ≡ f → ⊥) → false ≡ bindable n ss ts s w
    unfolding bindable
    other_source h =
        rw (known ∙ hx) (rw (ne_eqb (source_of w) (source_function s) (λ e. h (eg ∙ e ∙ sym ef))) refl)

    module _ (hs : g ≡ f) (t : Bool) (et : t ≡ has_target ts w) where
      by_target : bindable n ss ts s w ≡ (if not t then false else is_right (claim_in ss ts w) n)
      unfolding bindable
      by_target =
          rw (known ∙ hx)
          (rw (eq-eqb (source_of w) (source_function s) (sym eg ∙ hs ∙ ef))
          (ap (λ (z : Bool). if not z then false else is_right (claim_in ss ts w) n) (sym et)))

      pub no_target : not t ≡ true → false ≡ bindable n ss ts s w
      no_target h = sym (by_target ∙ rw (not-true t h) refl)

      pub by_rightness : (r : Bool) → not t ≡ false → r ≡ is_right (claim_in ss ts w) n → r ≡ bindable n ss ts s w
      by_rightness r h er = sym (by_target ∙ rw (not-false t h) (sym er))

module _ (n : ℕ) (ss ts : List ℕ) (s w : ℕ) where
  pub nothing_bound : w ≡ 0 → true ≡ entry_sound n ss ts s w
  unfolding entry_sound
  nothing_bound h = rw (eq-eqb w 0 h) refl

  pub something_bound : (r : Bool) → (w ≡ 0 → ⊥) → r ≡ bindable n ss ts s w → r ≡ entry_sound n ss ts s w
  unfolding entry_sound
  something_bound r h er = rw (ne_eqb w 0 h) er

-- ---- empty entries

pub all_empty : (ws : List ℕ) → list_all (λ w. eqb w 0) ws ≡ empty ws
unfolding empty
all_empty [] = refl
all_empty (w ∷ ws) = go (eqb w 0) (all_empty ws)
  where
    go : (b : Bool) → list_all (λ v. eqb v 0) ws ≡ empty ws → b && list_all (λ v. eqb v 0) ws ≡ (if not b then false else empty ws)
    go true e = e
    go false e = refl

-- ---- the entries of the sources

-- the entries past so many, or none where there are fewer
entries_past : (n k : ℕ) (bs : List ℕ) → k ≡ min n (length bs) → take (length bs - k) (drop k bs) ≡ drop n bs
entries_past n k bs e =
    part_from k bs
    ∙ elim (dec_lt (length bs) n) [
      | yes h ↦ drop_of_length-le bs (omega arith) ∙ sym (drop_of_length-le bs (omega arith))
      | no h ↦ ap (λ (x : ℕ). drop x bs) (omega arith)
    ]

module _ (n : ℕ) (all ts : List ℕ) where
  one_ended : (ss bs : List ℕ) → (length ss ≡ 0) ⊎ (length bs ≡ 0) → empty (drop (length ss) bs) ≡ bound_sound n all ts ss bs
  unfolding bound_sound empty
  one_ended [] bs h = refl
  one_ended (s ∷ ss) [] h = refl
  one_ended (s ∷ ss) (w ∷ bs) (inl h) = absurd (omega arith)
  one_ended (s ∷ ss) (w ∷ bs) (inr h) = absurd (omega arith)

  pub past_sources : (ss bs sources bound : List ℕ) (k : ℕ) (r : Bool) → (length ss ≡ 0) ⊎ (length bs ≡ 0)
      → drop (length ss) bs ≡ drop (length sources) bound → k ≡ min (length sources) (length bound)
      → r ≡ empty (take (length bound - k) (drop k bound)) → r ≡ bound_sound n all ts ss bs
  past_sources ss bs sources bound k r h e ek er =
      er ∙ ap empty (entries_past (length sources) k bound ek ∙ sym e) ∙ one_ended ss bs h

  module _ (ss bs : List ℕ) (s w : ℕ) (ss' bs' : List ℕ) (es : ss ≡ s ∷ ss') (eb : bs ≡ w ∷ bs') where
    pub rest_past : drop (length ss) bs ≡ drop (length ss') bs'
    rest_past = rw (es, eb) refl

    module _ (x : Bool) (ex : x ≡ entry_sound n all ts s w) where
      pub unsound_entry : x ≡ false → bound_sound n all ts ss bs ≡ false
      unfolding bound_sound
      unsound_entry u = rw (es, eb, sym ex ∙ u) refl

      pub sound_entry : not x ≡ false → bound_sound n all ts ss bs ≡ bound_sound n all ts ss' bs'
      unfolding bound_sound
      sound_entry u = rw (es, eb, sym ex ∙ not-false x u) refl

-- ---- the tables

module _ (i g m : ℕ) (hi : i < 2 ^ 8) (hg : g < 2 ^ 8) (hm : m < 2 ^ 8) where
  pub prices_laid : bit_or (bit_or (i * 2 ^ 16 % 2 ^ 32) (g * 2 ^ 8 % 2 ^ 32)) m ≡ i * 2 ^ 16 + g * 2 ^ 8 + m
  prices_laid =
      let z : i * 2 ^ 16 % 2 ^ 32 ≡ i * 2 ^ 16 = omega arith in
      onto 8 m (laid g 8 8 z (omega arith) hg (omega arith)) (omega arith) hm

pub as_accepted : (s t : ℕ) (r : Result Job Refusal) (job : Job) → r ≡ Ok job → eqb job.sources s && eqb job.targets t ≡ holds s t r
as_accepted s t r job e = rw e refl

module _ (b : Tables) (p : Bool) (ep : p ≡ is_width b.width) where
  pub no_width : not p ≡ true → false ≡ tables_sound b
  unfolding tables_sound
  no_width h = rw (sym ep ∙ not-true p h) refl

  module _ (hp : not p ≡ false) where
    pub width_tested : Width b.width
    width_tested = width_of b.width (sym ep ∙ not-false p hp)

    pub many_sources : most_sources < b.nsources → false ≡ tables_sound b
    unfolding tables_sound
    many_sources h = rw (sym ep ∙ not-false p hp, lt-ltb most_sources b.nsources h) refl

    module _ (hs : b.nsources ≤ most_sources) where
      pub many_targets : most_targets < b.ntargets → false ≡ tables_sound b
      unfolding tables_sound
      many_targets h =
          rw (sym ep ∙ not-false p hp, le-ltb most_sources b.nsources hs, lt-ltb most_targets b.ntargets h) refl

      pub tables_read : (read : Result Job Refusal) (r : Bool) → b.ntargets ≤ most_targets → read ≡ job_of (table_words b)
          → r ≡ holds b.nsources b.ntargets read → r ≡ tables_sound b
      unfolding tables_sound
      tables_read read r ht er e =
          rw (sym ep ∙ not-false p hp, le-ltb most_sources b.nsources hs, le-ltb most_targets b.ntargets ht)
          (e ∙ ap (holds b.nsources b.ntargets) er)

-- ---- tables and what is bound

-- what the tests of the tables show
pub record Counted (b : Tables) : Type 0 where
  pub width : Width b.width
  pub few_sources : b.nsources ≤ most_sources
  pub few_targets : b.ntargets ≤ most_targets
  pub held : holds b.nsources b.ntargets (job_of (table_words b)) ≡ true

pub counted : (b : Tables) → tables_sound b ≡ true → Counted b
unfolding tables_sound
counted b =
    let Q : Bool → Type 0 = λ x. x ≡ true → Counted b in
    either Q (not (is_width b.width)) (λ _ e. absurd (false≢true e))
    (λ p. either Q (ltb most_sources b.nsources) (λ _ e. absurd (false≢true e))
    (λ q. either Q (ltb most_targets b.ntargets) (λ _ e. absurd (false≢true e))
    (λ r e. record {
      width = width_of b.width (not-false (is_width b.width) p);
      few_sources = ltb-false most_sources b.nsources q;
      few_targets = ltb-false most_targets b.ntargets r;
      held = e;
    })))

pub record Sound (b : Tables) (bound : List ℕ) (g : ℕ) : Type 0 where
  pub tables : Counted b
  pub past_sources : empty (drop b.nsources b.sources) ≡ true
  pub past_targets : empty (drop b.ntargets b.targets) ≡ true
  pub entries : bound_sound b.width (sources_on b) (targets_on b) (sources_on b) bound ≡ true
  pub count : g ≡ glue_on b bound

pub sound_holds : (b : Tables) (bound : List ℕ) (g : ℕ) → is_sound b bound g ≡ true → Sound b bound g
unfolding is_sound
sound_holds b bound g =
    let Q : Bool → Type 0 = λ x. x ≡ true → Sound b bound g in
    either Q (not (tables_sound b)) (λ _ e. absurd (false≢true e))
    (λ p. either Q (not (empty (drop b.nsources b.sources))) (λ _ e. absurd (false≢true e))
    (λ q. either Q (not (empty (drop b.ntargets b.targets))) (λ _ e. absurd (false≢true e))
    (λ r. either Q (not (bound_sound b.width (sources_on b) (targets_on b) (sources_on b) bound)) (λ _ e. absurd (false≢true e))
    (λ s e. record {
      tables = counted b (not-false (tables_sound b) p);
      past_sources = not-false (empty (drop b.nsources b.sources)) q;
      past_targets = not-false (empty (drop b.ntargets b.targets)) r;
      entries = not-false (bound_sound b.width (sources_on b) (targets_on b) (sources_on b) bound) s;
      count = eqb-true g (glue_on b bound) e;
    }))))

-- and the other way
pub sound_when : (b : Tables) (bound : List ℕ) (g : ℕ) → Sound b bound g → is_sound b bound g ≡ true
unfolding is_sound tables_sound
sound_when b bound g h =
    let t = h.tables in
    rw
    (is_width_lem b.width t.width.least t.width.most, le-ltb most_sources b.nsources t.few_sources, le-ltb most_targets b.ntargets t.few_targets)
    (rw (t.held, h.past_sources, h.past_targets, h.entries) (eq-eqb g (glue_on b bound) h.count))

module _ (b : Tables) (bound : List ℕ) (g : ℕ) (p : Bool) (ep : p ≡ tables_sound b) where
  pub unsound_tables : not p ≡ true → false ≡ is_sound b bound g
  unfolding is_sound
  unsound_tables h = rw (sym ep ∙ not-true p h) refl

  module _ (hp : not p ≡ false) (h : TablesShaped b) (q : Bool)
      (eq : q ≡ empty (take (most_sources - b.nsources) (drop b.nsources b.sources))) where
    sources_end : q ≡ empty (drop b.nsources b.sources)
    sources_end = eq ∙ ap empty (rest_of b.sources b.nsources most_sources h.sources_entries)

    pub source_past : not q ≡ true → false ≡ is_sound b bound g
    unfolding is_sound
    source_past u = rw (sym ep ∙ not-false p hp, sym sources_end ∙ not-true q u) refl

    module _ (hq : not q ≡ false) (r : Bool) (er : r ≡ empty (take (most_targets - b.ntargets) (drop b.ntargets b.targets))) where
      targets_end : r ≡ empty (drop b.ntargets b.targets)
      targets_end = er ∙ ap empty (rest_of b.targets b.ntargets most_targets h.targets_entries)

      pub target_past : not r ≡ true → false ≡ is_sound b bound g
      unfolding is_sound
      target_past u =
          rw (sym ep ∙ not-false p hp, sym sources_end ∙ not-false q hq, sym targets_end ∙ not-true r u) refl

      module _ (hr : not r ≡ false) (x : Bool) (ex : x ≡ bound_sound b.width (sources_on b) (targets_on b) (sources_on b) bound) where
        pub unsound_entries : not x ≡ true → false ≡ is_sound b bound g
        unfolding is_sound
        unsound_entries u =
            rw (sym ep ∙ not-false p hp, sym sources_end ∙ not-false q hq, sym targets_end ∙ not-false r hr, sym ex ∙ not-true x u) refl

        pub by_count : (c : ℕ) → not x ≡ false → c ≡ glue_on b bound → eqb g c ≡ is_sound b bound g
        unfolding is_sound
        by_count c u ec =
            rw (sym ep ∙ not-false p hp, sym sources_end ∙ not-false q hq, sym targets_end ∙ not-false r hr, sym ex ∙ not-false x u)
            (ap (eqb g) ec)

-- ---- what sound tables are asked for

-- their width, and their words within their entries
module _ (b : Tables) (s : tables_sound b ≡ true) where
  pub width_sound : Width b.width
  width_sound = (counted b s).width

  pub few_sources : b.nsources ≤ most_sources
  few_sources = (counted b s).few_sources

  pub few_targets : b.ntargets ≤ most_targets
  few_targets = (counted b s).few_targets

pub ruleset in_range = (width_sound, few_sources, few_targets)

module _ (b : Tables) (p : Bool) (ep : p ≡ tables_sound b) (hp : not p ≡ false) where
  pub tables_hold : tables_sound b ≡ true
  tables_hold = sym ep ∙ not-false p hp

  pub tables_sources : b.nsources ≤ most_sources
  tables_sources = few_sources b tables_hold

  pub tables_targets : b.ntargets ≤ most_targets
  tables_targets = few_targets b tables_hold

pub sound_tables : (b : Tables) (bound : List ℕ) (g : ℕ) → is_sound b bound g ≡ true → tables_sound b ≡ true
unfolding is_sound
sound_tables b bound g =
    either (λ x. x ≡ true → tables_sound b ≡ true) (not (tables_sound b)) (λ _ e. absurd (false≢true e))
    (λ p _. not-false (tables_sound b) p)

module _ (b : Tables) (bound : List ℕ) (g : ℕ) (s : is_sound b bound g ≡ true) where
  pub sound_width : Width b.width
  sound_width = (sound_holds b bound g s).tables.width

  pub sound_sources : b.nsources ≤ most_sources
  sound_sources = (sound_holds b bound g s).tables.few_sources
