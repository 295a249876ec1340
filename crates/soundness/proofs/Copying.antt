-- Words copied into lent ones: what then stands in the words of a job.
use mathlib.Core.Path.{◌≡◌, refl, sym, ap, ◌∙◌}
use mathlib.Core.List.{List, ◌∷◌, ◌++◌}
use Prim.Native.Nat.{ℕ, ◌+◌, ◌≤◌}
use native.Mathlib.Omega.{arith}
use lib.ListN.{length, take, drop, set, replicate, length-append, length-take}
use lib.Seq.{sets, length-take-le, take_at, take-length}
use borrow.Rule.Slice.PartMut.{put_mid}
use Rattle.std.specs.Prelude.{Result}
use Rattle.std.proofs.lemmas.Slice.{put_mid-paste}
use Rattle.std.proofs.lemmas.List.Edits.{sets-eq}
use Rattle.words.proofs.Copies.{sets-append}
use Rattle.words.specs.declared.Refusal.{Refusal}
use Rattle.reader.specs.Job.{job_of}
use Rattle.reader.specs.declared.Job.{Job}
use Rattle.sequence.specs.Limits.{most_sources, most_targets}
use Rattle.words.specs.Field.{word_of}
use Rattle.words.specs.Kinds.{HEADER}
use Rattle.table.specs.Parts.{Terms, terms_held}
use Rattle.table.specs.declared.terms.Terms as held
use Rattle.soundness.specs.Sound.{terms_on, prices_word, table_words}
use Rattle.soundness.specs.declared.Tables.{Tables}

-- a part of lent words, with these words put in place of it
pub part_copied : (ws lent part : List ℕ) (at k : ℕ) → part ≡ ws → k ≡ length ws → at + length ws ≤ length lent
    → put_mid at k lent part ≡ sets lent at ws
part_copied ws lent part at k e n h =
    put_mid-paste at k lent part ws (length ws) e (sym n) refl ∙ rw (take-length ws) (sym (sets-eq ws lent at h))

-- ---- a job without rules

sets-taken : (xs l : List ℕ) (i : ℕ) → i + length xs ≤ length l → take (i + length xs) (sets l i xs) ≡ take i l ++ xs
sets-taken xs l i h =
    rw (sets-eq xs l i h)
    (take_at (take i l ++ xs) (drop (i + length xs) l) (i + length xs)
    (omega (arith, length-append (take i l) xs, length-take-le i l (omega arith))))

-- the header and the prices, before the tables are copied behind them
abbrev front : ℕ → ℕ → List ℕ
front header prices = set (set (replicate 56 0) 0 header) 1 prices

module _ (header prices : ℕ) (ss ts m k : List ℕ) (few_sources : length ss ≤ most_sources) (few_targets : length ts ≤ most_targets)
    (em : m ≡ sets (front header prices) 2 ss) (ek : k ≡ sets m (2 + length ss) ts) where
  both_copied : k ≡ sets (front header prices) 2 (ss ++ ts)
  both_copied =
      ek ∙ ap (λ (x : List ℕ). sets x (2 + length ss) ts) em ∙ sets-append ss ts (front header prices) 2

  words_taken : take (2 + length ss + length ts) k ≡ header ∷ prices ∷ (ss ++ ts)
  words_taken =
      let q : 2 + length ss + length ts ≡ 2 + length (ss ++ ts) = omega (arith, length-append ss ts) in
      rw (both_copied, q) (sets-taken (ss ++ ts) (front header prices) 2 (omega (arith, length-append ss ts)))

-- the tables' words, and the job that they make
module _ (t : Tables) (x : held.Terms) (e : terms_held x ≡ terms_on t) where
  pub few_sources : t.nsources ≤ most_sources → length x.sources.now ≤ most_sources
  few_sources h = omega (arith, ap (λ (y : Terms). length y.sources) e, length-take t.nsources t.sources)

  pub few_targets : t.ntargets ≤ most_targets → length x.targets.now ≤ most_targets
  few_targets h = omega (arith, ap (λ (y : Terms). length y.targets) e, length-take t.ntargets t.targets)

  pub job_words : (header prices : ℕ) (m k : List ℕ) (r : Result Job Refusal) → t.nsources ≤ most_sources → t.ntargets ≤ most_targets
      → header ≡ word_of HEADER x.width.n → prices ≡ prices_word x.prices
      → m ≡ sets (front header prices) 2 x.sources.now → k ≡ sets m (2 + length x.sources.now) x.targets.now
      → r ≡ job_of (take (2 + length x.sources.now + length x.targets.now) k) → r ≡ job_of (table_words t)
  job_words header prices m k r hs ht eh ep em ek er =
      er ∙ ap job_of (words_taken header prices x.sources.now x.targets.now m k (few_sources hs) (few_targets ht) em ek)
      ∙ (λ i. job_of (eh i ∷ ep i ∷ (x.sources.now ++ x.targets.now)))
      ∙ ap (λ (y : Terms). job_of (word_of HEADER y.width ∷ prices_word y.prices ∷ (y.sources ++ y.targets))) e
