-- The stages of a job: what has come before a word of each kind.
use mathlib.Core.Path.{◌≡◌, sym, subst}
use mathlib.Core.Bool.{Bool, true, ◌&&◌, ◌||◌, false≢true}
use mathlib.Core.List.{List}
use Prim.Native.Nat.{ℕ, ◌+◌, ◌<◌, ◌≤◌}
use native.Mathlib.Omega.{arith}
use lib.Dec.{eqb, ltb}
use lib.ListN.{length, get_or}
use borrow.Author.Tests.{eqb-true, ltb-true}
use Rattle.words.specs.Field.{kind_of}
use Rattle.words.specs.Kinds.{HEADER, PRICES, SOURCE, TARGET, RULE}
use Rattle.words.proofs.Choices.{either, and_split, or_split}
use Rattle.sequence.specs.Limits.{most_sources, most_targets, most_rules}
use Rattle.sequence.specs.Sequence.{START, stage_of, job_sequence, in_sequence}
use Rattle.grammar.specs.Reading.{beginning, noted, after, function_in, reading}
use Rattle.sequence.specs.declared.File.TheVariants.{AsJob}
use Rattle.sequence.specs.declared.State.{State}
use Rattle.std.specs.Prelude.{Ok}
use Rattle.grammar.proofs.Faultless.{Faultless, passed}

module _ (s : State) (P : ℕ → Type 0) where
  pub by_kind : (k : ℕ) → job_sequence s k ≡ true
      → ((stage_of s) ≡ START → P HEADER)
      → ((stage_of s) ≡ HEADER → P PRICES)
      → (PRICES ≤ (stage_of s) → (stage_of s) ≤ SOURCE → s.sources < most_sources → P SOURCE)
      → (SOURCE ≤ (stage_of s) → (stage_of s) ≤ TARGET → s.targets < most_targets → P TARGET)
      → (SOURCE ≤ (stage_of s) → (stage_of s) ≤ RULE → s.rules < most_rules → P RULE)
      → P k
  unfolding job_sequence
  by_kind k f header prices source target rule =
      let Q : Bool → Type 0 = λ b. b ≡ true → P k in
      either Q (eqb k HEADER) (λ e h. at HEADER e (header (eqb-true (stage_of s) START h)))
      (λ _. either Q (eqb k PRICES) (λ e h. at PRICES e (prices (eqb-true (stage_of s) HEADER h)))
      (λ _. either Q (eqb k SOURCE) (λ e h. at SOURCE e (among PRICES s.sources most_sources h source))
      (λ _. either Q (eqb k TARGET) (λ e h. at TARGET e (among SOURCE s.targets most_targets h target))
      (λ _. either Q (eqb k RULE) (λ e h. at RULE e (last h)) (λ _ e. absurd (false≢true e)))))) f
    where
      at : (n : ℕ) → eqb k n ≡ true → P n → P k
      at n e p = subst P (sym (eqb-true k n e)) p

      among : {R : Type 0} (a n m : ℕ) → (eqb (stage_of s) a || eqb (stage_of s) (a + 1)) && ltb n m ≡ true
          → (a ≤ (stage_of s) → (stage_of s) ≤ a + 1 → n < m → R) → R
      among a n m h r =
          let u = and_split (eqb (stage_of s) a || eqb (stage_of s) (a + 1)) (ltb n m) h in
          or_split (eqb (stage_of s) a) (eqb (stage_of s) (a + 1)) u.0
          (λ e. let z = eqb-true (stage_of s) a e in r (omega arith) (omega arith) (ltb-true n m u.1))
          (λ e. let z = eqb-true (stage_of s) (a + 1) e in r (omega arith) (omega arith) (ltb-true n m u.1))

      last : (eqb (stage_of s) SOURCE || eqb (stage_of s) TARGET || eqb (stage_of s) RULE) && ltb s.rules most_rules ≡ true → P RULE
      last h =
          let u = and_split (eqb (stage_of s) SOURCE || eqb (stage_of s) TARGET || eqb (stage_of s) RULE) (ltb s.rules most_rules) h in
          let n = ltb-true s.rules most_rules u.1 in
          or_split (eqb (stage_of s) SOURCE || eqb (stage_of s) TARGET) (eqb (stage_of s) RULE) u.0
          (λ f. or_split (eqb (stage_of s) SOURCE) (eqb (stage_of s) TARGET) f
          (λ e. let z = eqb-true (stage_of s) SOURCE e in rule (omega arith) (omega arith) n)
          (λ e. let z = eqb-true (stage_of s) TARGET e in rule (omega arith) (omega arith) n))
          (λ e. let z = eqb-true (stage_of s) RULE e in rule (omega arith) (omega arith) n)

-- ---- sources stand behind a header and prices

record Behind (s : State) (i : ℕ) : Type 0 where
  header : HEADER ≤ (stage_of s) → 1 ≤ i
  prices : PRICES ≤ (stage_of s) → 2 ≤ i
  sources : 1 ≤ s.sources → 2 ≤ i

behind_more : (s : State) (i w : ℕ) → Faultless AsJob s w → Behind s i → Behind (after s w) (i + 1)
unfolding in_sequence
behind_more s i w g q =
    by_kind s (λ k. Behind (noted k (function_in w) s) (i + 1)) (kind_of w) g.in_sequence_lem
    (λ h. record { header = λ _. omega arith; prices = λ l. absurd (omega arith); sources = λ l. omega (arith, q.sources l) })
    (λ h.
    let a = q.header (omega arith) in
    record { header = λ _. omega arith; prices = λ _. omega arith; sources = λ l. omega arith })
    (λ a b c. two (q.prices (omega arith)))
    (λ a b c. two (q.prices (omega arith)))
    (λ a b c. two (q.prices (omega arith)))
  where
    two : {t : State} → 2 ≤ i → Behind t (i + 1)
    two h = record { header = λ _. omega arith; prices = λ _. omega arith; sources = λ _. omega arith }

pub two_words : (ws : List ℕ) (s : State) → reading AsJob beginning 0 ws ≡ Ok s → 1 ≤ s.sources → 2 ≤ length ws
two_words ws s e h =
    (passed AsJob ws Behind (λ t i _. behind_more t i (get_or ws i 0)) (length ws) 0 beginning s (omega arith)
    (record { header = λ l. absurd (omega arith); prices = λ l. absurd (omega arith); sources = λ l. absurd (omega arith) }) e).sources h
