-- The choice: one rule, one source, and the end of each loop.
use mathlib.Core.Path.{◌≡◌, refl, sym, ap, ap₂, ◌∙◌}
use mathlib.Core.List.{List, [], ◌∷◌, ◌++◌}
use Prim.Native.Nat.{ℕ, ◌+◌, ◌≤◌, ◌<◌}
use native.Mathlib.Numerals.{add-one}
use native.Mathlib.Omega.{arith}
use lib.Bits.{bit_or}
use lib.ListN.{length, take, drop, get_or, set, drop_of_length-le, length-append}
use lib.Seq.{take-suc-set}
use Rattle.std.specs.Prelude.{Option, Some, None, Ok, Err}
use Rattle.words.specs.Field.{source_function}
use Rattle.words.proofs.Lists.{drop-next}
use Rattle.table.specs.Parts.{Terms}
use Rattle.usage.specs.Sets.{usage, usage_of}
use Rattle.usage.proofs.Joining.{usage-more}
use Rattle.tally.proofs.Joining.{glue_more}
use Rattle.best.specs.Best.{better, best_of}
use Rattle.choice.specs.Choose.{with_rule, bind_best, choose}
use Rattle.best.specs.Beside.{besides}
use Rattle.best.specs.declared.Best.{Best}
use Rattle.best.proofs.Choosing.{best_same}

-- ---- a rule: the job's own, then the book's

module _ (g : ℕ → ℕ) (t : Terms) (f : ℕ) (best : Option Best) (rules book : List ℕ) (j : ℕ) where
  pub next_rule : j < length rules + length book
      → best_of g t f best (drop j (rules ++ book)) ≡ best_of g t f (better g t f best (get_or (rules ++ book) j 0)) (drop (j + 1) (rules ++ book))
  unfolding best_of
  next_rule h = rw (drop-next (rules ++ book) j (omega (arith, length-append rules book))) refl

  pub no_rule_left : length rules + length book ≤ j → best_of g t f best (drop j (rules ++ book)) ≡ best
  unfolding best_of
  no_rule_left h = rw (drop_of_length-le (rules ++ book) {i = j} (omega (arith, length-append rules book))) refl

-- ---- a source

pub none_used : usage [] ≡ 0
unfolding usage
none_used = refl

one_more : (words : List ℕ) (i w : ℕ) → i < length words → take (i + 1) (set words i w) ≡ take i words ++ w ∷ []
one_more words i w l = rw add-one (take-suc-set words i w l)

module _ (t : Terms) (rules words sources : List ℕ) (i : ℕ) where
  module _ (used f : ℕ) (eu : used ≡ usage (take i words)) (ef : f ≡ source_function (get_or sources i 0)) (h : i < length sources) where
    best_is : best_of (with_rule t (take i words)) t (source_function (get_or sources i 0)) None rules
        ≡ best_of (besides t.width t.prices used) t f None rules
    best_is =
        best_same t (source_function (get_or sources i 0)) (with_rule t (take i words)) (besides t.width t.prices used)
        (λ w. sym (glue_more t.width t.prices (take i words) w) ∙ ap (λ (x : ℕ). besides t.width t.prices x w) (sym eu)) None rules
        ∙ ap (λ (x : ℕ). best_of (besides t.width t.prices used) t x None rules) (sym ef)

    opened : (b : Option Best) → best_of (besides t.width t.prices used) t f None rules ≡ b
        → choose t rules (take i words) (drop i sources)
        ≡ bind_best b f (λ w. choose t rules (take i words ++ w ∷ []) (drop (i + 1) sources))
    unfolding choose
    opened b u =
        rw (drop-next sources i h)
        (ap₂ (λ (x : Option Best) (y : ℕ). bind_best x y (λ w. choose t rules (take i words ++ w ∷ []) (drop (i + 1) sources)))
        (best_is ∙ u) (sym ef))

    pub source_bound : (b : Best) → best_of (besides t.width t.prices used) t f None rules ≡ Some b → i < length words
        → (choose t rules (take (i + 1) (set words i b.word)) (drop (i + 1) sources) ≡ choose t rules (take i words) (drop i sources))
        × (usage (take (i + 1) (set words i b.word)) ≡ bit_or used (usage_of b.word))
    source_bound b u l = rw (one_more words i b.word l) (sym (opened (Some b) u), rw eu (usage-more (take i words) b.word))

    pub source_unmappable : best_of (besides t.width t.prices used) t f None rules ≡ None
        → choose t rules (take i words) (drop i sources) ≡ Err f
    source_unmappable u = opened None u

  pub all_sources : length sources ≤ i → choose t rules words (drop i sources) ≡ Ok words
  unfolding choose
  all_sources h = rw (drop_of_length-le sources {i = i} h) refl
