-- The words in which demand 1 is said: "A job, mapping, recipe or bench handed in is accepted, or refused with one number of document 01
-- and its place."
use Rattle.std.specs.Prelude.{ℕ, ◌≡◌, Bool, true, false, ◌||◌, List, [], ◌∷◌, ◌++◌, eqb, if◌then◌else◌, Result, Ok, Err}
use Rattle.words.specs.Paper.{Paper, no_refusal}
use Rattle.verdict.specs.declared.Verdict.{Verdict}
use Rattle.words.specs.declared.Refusal.{Refusal}
use Rattle.verdict.specs.declared.Verdict.TheVariants as verdict

-- a number stands in a list
abbrev pub among : List ℕ → ℕ → Bool
among [] n = false
among (k ∷ ks) n = eqb n k || among ks n

-- All that a call may answer to one input: each answer is accepted, or refused with a number of the call's list; and no two of them have
-- different numbers or places.
pub record OneNumber (A : Type 0) (accepts : A → Bool) (paper : A → Paper) (numbers : List ℕ) (May : A → Type 0) : Type 0 where
  pub listed : (r : A) → May r → among (if accepts r then no_refusal ∷ [] else numbers) (paper r).number ≡ true
  pub never_two : (r s : A) → May r → May s → ((paper r).number ≡ (paper s).number) × ((paper r).place ≡ (paper s).place)

-- ---- the numbers that document 01 gives for each call

-- "It refuses with 3"
abbrev pub evaluate_numbers : List ℕ
evaluate_numbers = 3 ∷ []

-- of a recipe by itself: its kind and its own refusals, the width, and that it is wrong
abbrev pub judge_numbers : List ℕ
judge_numbers = 2 ∷ 3 ∷ 5 ∷ 6 ∷ 10 ∷ []

-- "1 first; then word by word, 2 to 6 in each"
abbrev pub read_numbers : List ℕ
read_numbers = 1 ∷ 2 ∷ 3 ∷ 4 ∷ 5 ∷ 6 ∷ []

abbrev pub price_numbers : List ℕ
price_numbers = read_numbers ++ (7 ∷ 8 ∷ [])

-- of what map and finish write at the end: "23. Lent words fewer than sources + 2"
abbrev pub write_numbers : List ℕ
write_numbers = 23 ∷ []

-- "12. Unmappable"; "23. .. Last, in finish and map."
abbrev pub map_numbers : List ℕ
map_numbers = read_numbers ++ (12 ∷ 23 ∷ [])

-- "then 7 to 11"
abbrev pub check_numbers : List ℕ
check_numbers = read_numbers ++ (7 ∷ 8 ∷ 9 ∷ 10 ∷ 11 ∷ [])

-- "Bind checks 20, 2, 3, 5, 6, 8, 21, 10"
abbrev pub bind_numbers : List ℕ
bind_numbers = 20 ∷ 2 ∷ 3 ∷ 5 ∷ 6 ∷ 8 ∷ 21 ∷ 10 ∷ []

-- "24 .. checked after 20"
abbrev pub release_numbers : List ℕ
release_numbers = 20 ∷ 24 ∷ []

abbrev pub bench_price_numbers : List ℕ
bench_price_numbers = 20 ∷ []

abbrev pub finish_numbers : List ℕ
finish_numbers = 20 ∷ 22 ∷ 23 ∷ []

-- ---- which answers accept: each that is `Ok`, but for a judgement

abbrev pub judge_accepts : Result Verdict Refusal → Bool
judge_accepts (Ok verdict.Right) = true
judge_accepts (Ok (verdict.Wrong v)) = false
judge_accepts (Err r) = false
