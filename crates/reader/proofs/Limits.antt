-- "1. No words, over [the most]": what the words are read as, and what is known where they are.
use mathlib.Core.Path.{◌≡◌, refl}
use mathlib.Core.List.{List}
use Prim.Native.Nat.{ℕ, ◌<◌, ◌≤◌}
use native.Mathlib.Omega.{arith}
use lib.Dec.{ltb}
use lib.ListN.{length}
use borrow.Author.Tests.{le-ltb, ltb-false}
use Rattle.std.specs.Prelude.{Result, Ok}
use Rattle.words.specs.declared.Refusal.{Refusal}
use Rattle.words.proofs.Choices.{either}
use Rattle.sequence.specs.declared.File.{File}
use Rattle.sequence.specs.declared.File.TheVariants.{AsJob, AsMapping}
use Rattle.sequence.specs.declared.State.{State}
use Rattle.grammar.specs.Reading.{beginning, reading}
use Rattle.grammar.proofs.Stages.{two_words}
use Rattle.reader.specs.Words.{most_words, words_read}

module _ (file : File) (ws : List ℕ) where
  pub some_words : 1 ≤ length ws → length ws ≤ most_words file → words_read file ws ≡ reading file beginning 0 ws
  unfolding words_read
  some_words l h = rw (le-ltb (length ws) 1 l, le-ltb (most_words file) (length ws) h) refl

  -- words that were read
  pub record Read (s : State) : Type 0 where
    pub some : 1 ≤ length ws
    pub few : length ws ≤ most_words file
    pub read : reading file beginning 0 ws ≡ Ok s

  pub were_read : (s : State) → words_read file ws ≡ Ok s → Read s
  unfolding words_read
  were_read s =
      let Q : Result State Refusal → Type 0 = λ r. r ≡ Ok s → Read s in
      either Q (ltb (length ws) 1) (λ _ e. absurd cc)
      (λ a. either Q (ltb (most_words file) (length ws)) (λ _ e. absurd cc)
      (λ b e. record { some = ltb-false (length ws) 1 a; few = ltb-false (most_words file) (length ws) b; read = e }))

-- a job with a source has a word of prices, and no mapping is empty
pub prices_there : (ws : List ℕ) (s : State) → words_read AsJob ws ≡ Ok s → 1 ≤ s.sources → 1 < length ws
prices_there ws s e h = omega (arith, two_words ws s (were_read AsJob ws s e).read h)

pub some_there : (ws : List ℕ) (s : State) → words_read AsMapping ws ≡ Ok s → 1 ≤ length ws
some_there ws s e = (were_read AsMapping ws s e).some
