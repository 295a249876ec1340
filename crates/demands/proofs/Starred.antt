-- "Prove the starred cases together as one tabled fact": the table is tested row by row, and the test implies what each row means.
use mathlib.Core.Path.{◌≡◌, refl, sym, ◌∙◌}
use mathlib.Core.Bool.{Bool, true, false, not, ◌&&◌, false≢true}
use mathlib.Core.List.{List, [], ◌∷◌}
use Prim.Native.Nat.{ℕ, ◌<◌}
use native.Mathlib.Omega.{arith}
use lib.Dec.{eqb, ltb}
use borrow.Author.Tests.{eqb-true, ltb-false}
use Rattle.words.specs.Paper.{Paper, accepted}
use Rattle.words.proofs.Choices.{either, and_split}
use Rattle.bits.specs.Bits.{value, bit, top, word}
use Rattle.bits.specs.Sum.{overflows, sum}
use Rattle.bits.specs.Order.{below}
use Rattle.alu.specs.Function.{ports}
use Rattle.alu.specs.Range.{is_function, is_width}
use Rattle.alu.specs.Evaluate.{first_out_of_range, evaluation, paper_of}
use Rattle.binding.specs.Binding.{recipe_of, side_shows}
use Rattle.output.specs.Output.{outputs_show}
use Rattle.binding.specs.Right.{Agrees, every, agrees, is_right_for, is_right, claim_of}
use Rattle.binding.proofs.Tests.{same_ports_lem, right_test}
use Rattle.demands.specs.Starred.{Case, ◌width◌left◌right◌carry◌shows◌ocout◌ovf◌o1◌, ◌right_at_every_width, ◌right_at◌, ◌wrong_at◌left◌right◌, Means, AllHold, none, more, starred}
use Rattle.book.proofs.Closed.{right_always, always_right}

-- ---- the test

abbrev same : List ℕ → List ℕ → Bool
same [] [] = true
same [] (y ∷ ys) = false
same (x ∷ xs) [] = false
same (x ∷ xs) (y ∷ ys) = eqb x y && same xs ys

-- an answer that is accepted, with these values
abbrev says : Paper → List ℕ → Bool
says p vs = eqb p.number 0 && (eqb p.place 0 && same p.values vs)

abbrev agrees_at : ℕ → ℕ → ℕ → ℕ → Bool → Bool
agrees_at w n a b c = agrees (claim_of w).source (claim_of w).recipe n a b c

abbrev holds : Case → Bool
holds (f width n left a right b carry c shows o0 ocout co ovf v o1 t) = says (paper_of (evaluation f n a b c)) (o0 ∷ co ∷ v ∷ t ∷ [])
holds (w right_at_every_width) = right_always w
holds (w right_at n) = is_right (claim_of w) n
holds (w wrong_at n left a right b) = not (agrees_at w n a b false && agrees_at w n a b true)

abbrev all : List Case → Bool
all [] = true
all (k ∷ ks) = holds k && all ks

-- ---- what the test implies

same_list : (xs ys : List ℕ) → same xs ys ≡ true → xs ≡ ys
same_list [] [] e = refl
same_list [] (y ∷ ys) e = absurd (false≢true e)
same_list (x ∷ xs) [] e = absurd (false≢true e)
same_list (x ∷ xs) (y ∷ ys) e =
    let p = and_split (eqb x y) (same xs ys) e in
    λ i. eqb-true x y p.0 i ∷ same_list xs ys p.1 i

is_accepted : (p : Paper) (vs : List ℕ) → says p vs ≡ true → p ≡ accepted vs
is_accepted p vs e =
    let a = and_split (eqb p.number 0) (eqb p.place 0 && same p.values vs) e in
    let b = and_split (eqb p.place 0) (same p.values vs) a.1 in
    λ i. record { number = eqb-true p.number 0 a.0 i; place = eqb-true p.place 0 b.0 i; values = same_list p.values vs b.1 i }

positive : (n : ℕ) → is_width n ≡ true → 0 < n
unfolding is_width
positive n =
    either (λ b. b ≡ true → 0 < n) (ltb n 1) (λ _ e. absurd (false≢true e)) (λ h e. let z = ltb-false n 1 h in omega arith)

-- where a test of two carries fails, one of them differs
differs : (w n a b : ℕ) (x y : Bool) → agrees_at w n a b false ≡ x → agrees_at w n a b true ≡ y → not (x && y) ≡ true
    → (c : Bool) × (Agrees (claim_of w).source (claim_of w).recipe n a b c → ⊥)
differs w n a b false y e f h = (false, λ q. false≢true (sym e ∙ same_ports_lem _ _ q))
differs w n a b true false e f h = (true, λ q. false≢true (sym f ∙ same_ports_lem _ _ q))
differs w n a b true true e f h = absurd (false≢true h)

row_means : (k : Case) → holds k ≡ true → Means k
row_means (f width n left a right b carry c shows o0 ocout co ovf v o1 t) e = is_accepted (paper_of (evaluation f n a b c)) (o0 ∷ co ∷ v ∷ t ∷ []) e
row_means (w right_at_every_width) e = λ n h. always_right w e n (positive n h)
row_means (w right_at n) e = (right_test (claim_of w).source (claim_of w).recipe n).0 e
row_means (w wrong_at n left a right b) e = differs w n a b (agrees_at w n a b false) (agrees_at w n a b true) refl refl e

all_hold : (ks : List Case) → all ks ≡ true → AllHold ks
all_hold [] e = none
all_hold (k ∷ ks) e = let p = and_split (holds k) (all ks) e in more (row_means k p.0) (all_hold ks p.1)

-- ---- the tabled fact

table_tested : all starred ≡ true
unfolding starred evaluation first_out_of_range is_function is_width every is_right_for recipe_of side_shows outputs_show ports sum overflows value below top bit word
table_tested = refl

pub starred-hold : AllHold starred
starred-hold = all_hold starred table_tested
