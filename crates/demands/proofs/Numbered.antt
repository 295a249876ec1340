-- How the answers of each call are numbered: what Refusals.antt rests on.
use mathlib.Core.Path.{◌≡◌, refl, sym, ap, subst, ◌∙◌}
use mathlib.Core.Bool.{Bool, true, not}
use mathlib.Core.List.{List, [], ◌∷◌, ◌++◌}
use Prim.Native.Nat.{ℕ, zero, suc, ◌+◌, ◌≤◌}
use native.Mathlib.Omega.{arith}
use lib.Dec.{eqb}
use Rattle.std.specs.Prelude.{is_ok, if◌then◌else◌, Result, Ok, Err, ⊤, Option, Some, None}
use Rattle.words.specs.Field.{kind_of}
use Rattle.words.specs.Kinds.{RULE}
use Rattle.words.specs.Paper.{Paper, number_of, refusal, unless_fault, no_refusal}
use Rattle.words.specs.declared.Fault.{Fault}
use Rattle.words.specs.declared.Refusal.{Refusal}
use Rattle.words.proofs.Choices.{either}
use Rattle.layout.specs.Layout.{laid_out, reads_undriven, shows_other, recipe_fault}
use Rattle.recipe.specs.Fields.{source_of}
use Rattle.binding.specs.declared.Claim.{Claim}
use Rattle.verdict.specs.Verdicts.{Ruling, Gives, Names, Sentence, Refuses, Decides, Passes, judgement_paper}
use Rattle.verdict.specs.declared.Verdict.TheVariants as verdict
use Rattle.checker.specs.declared.CheckError.{CheckError}
use Rattle.reader.specs.declared.Job.{Job}
use Rattle.verdict.specs.declared.Verdict.{Verdict}
use Rattle.verdict.proofs.Verdicting.{not_right}
use Rattle.reader.specs.Starts.{bindings_start}
use Rattle.reader.specs.declared.Mapping.{Mapping}
use Rattle.table.specs.Parts.{Terms, bindings_of, terms_of}
use Rattle.table.specs.Table.{in_job}
use Rattle.fitting.specs.Fitting.{all_in_job, fit_of}
use Rattle.glue.specs.Glue.{glue}
use Rattle.completeness.specs.Complete.{first_unbound}
use Rattle.checker.specs.Check.{CheckRuled, account_of, unless_unbound, fitting_of, unless_misfit, judgement_of, ruled_of, ruling_of}
use Rattle.checker.specs.Check as checker
use Rattle.checker.specs.declared.CheckError.TheVariants as checked
use Rattle.rightness.specs.Rightness.{unless_wrong}
use Rattle.rightness.proofs.Judging.{right_or_named}
use Rattle.soundness.specs.Sound.{rule_fault}
use Rattle.bench.specs.Calls.{sound_bench, in_tables, has_binding, table_check, bind_check, WrongAt, BindRuled}
use Rattle.bench.specs.Calls as bench
use Rattle.bench.specs.declared.Bench.{Bench}
use Rattle.bench.specs.declared.CallError.{CallError}
use Rattle.bench.specs.declared.CallError.TheVariants as call
use Rattle.bench.specs.declared.After.{After}
use Rattle.reader.specs.Job.{job_of}
use Rattle.reader.specs.Mapping.{mapping_of}
use Rattle.wellformed.proofs.Numbers.{job_number, mapping_number}
use Rattle.fitting.specs.Pair.{pair_of, with_job}
use Rattle.fitting.specs.Pairing.{paired}
use Rattle.demands.specs.Answers.{among, OneNumber, judge_numbers, read_numbers, check_numbers, bind_numbers, judge_accepts}
use Rattle.words.specs.declared.Fault.TheVariants.{AlreadyBound, NotInJob, NotLaidOut, NotSound, OtherOutputs, OtherWidth, OutOfSequence, ReadsUndriven}

-- an answer that is accepted, or refused with a number of the list
abbrev pub Listed : {A : Type 0} (accepts : A → Bool) (paper : A → Paper) (numbers : List ℕ) (r : A) → Type 0
Listed accepts paper numbers r = among (if accepts r then no_refusal ∷ [] else numbers) (paper r).number ≡ true

-- a call whose answer is a definition
pub one_answer : {A : Type 0} (accepts : A → Bool) (paper : A → Paper) (numbers : List ℕ) (a : A) → Listed accepts paper numbers a
    → OneNumber A accepts paper numbers (λ r. r ≡ a)
one_answer {A = A} accepts paper numbers a h =
    record {
      listed = λ r e. subst (λ (x : A). Listed accepts paper numbers x) (sym e) h;
      never_two = λ r s e f. (ap (λ (x : A). (paper x).number) (e ∙ sym f), ap (λ (x : A). (paper x).place) (e ∙ sym f));
    }

-- 1 to 6, and what else a call's list has
pub of_reading : (others : List ℕ) (n : ℕ) → (1 ≤ n) × (n ≤ 6) → among (read_numbers ++ others) n ≡ true
of_reading others zero h = absurd (omega (arith, h))
of_reading others (suc zero) h = refl
of_reading others (suc (suc zero)) h = refl
of_reading others (suc (suc (suc zero))) h = refl
of_reading others (suc (suc (suc (suc zero)))) h = refl
of_reading others (suc (suc (suc (suc (suc zero))))) h = refl
of_reading others (suc (suc (suc (suc (suc (suc zero)))))) h = refl
of_reading others (suc (suc (suc (suc (suc (suc (suc n))))))) h = absurd (omega (arith, h))

-- the refusals of a recipe word: 3, 5, 6 or none
pub recipe_number : (P : Option Fault → Type 0) (w : ℕ) → P (Some NotLaidOut) → P (Some ReadsUndriven) → P (Some OtherOutputs) → P None
    → P (recipe_fault w)
unfolding recipe_fault
recipe_number P w p3 p5 p6 none =
    either P (not (laid_out w)) (λ _. p3)
    (λ _. either P (reads_undriven w) (λ _. p5) (λ _. either P (shows_other w) (λ _. p6) (λ _. none)))

-- ---- judge

abbrev pub Judges : Sentence → Type 0
Judges x = OneNumber (Result Verdict Refusal) judge_accepts judgement_paper judge_numbers (Passes x)

pub sentence_refused : (fault : Fault) (place : ℕ) → among judge_numbers (number_of fault) ≡ true → Judges (Refuses (refusal fault place))
sentence_refused fault place h = record { listed = listed; never_two = never_two }
  where
    listed : (j : Result Verdict Refusal) → Passes (Refuses (refusal fault place)) j → Listed judge_accepts judgement_paper judge_numbers j
    listed (Err r) e = subst (λ (x : Refusal). among judge_numbers (number_of x.fault) ≡ true) (sym e) h
    listed (Ok v) e = absurd e

    never_two : (j k : Result Verdict Refusal) → Passes (Refuses (refusal fault place)) j → Passes (Refuses (refusal fault place)) k
        → ((judgement_paper j).number ≡ (judgement_paper k).number) × ((judgement_paper j).place ≡ (judgement_paper k).place)
    never_two (Err r) (Err s) e f = (
      ap (λ (x : Refusal). number_of x.fault) (e ∙ sym f),
      ap (λ (x : Refusal). x.place) (e ∙ sym f),
    )
    never_two (Err r) (Ok v) e f = absurd f
    never_two (Ok v) k e f = absurd e

pub sentence_decided : (c : Claim) (n : ℕ) → Judges (Decides c n)
sentence_decided c n = record { listed = listed; never_two = never_two }
  where
    listed : (j : Result Verdict Refusal) → Passes (Decides c n) j → Listed judge_accepts judgement_paper judge_numbers j
    listed (Err r) e = absurd e
    listed (Ok verdict.Right) e = refl
    listed (Ok (verdict.Wrong v)) e = refl

    never_two : (j k : Result Verdict Refusal) → Passes (Decides c n) j → Passes (Decides c n) k
        → ((judgement_paper j).number ≡ (judgement_paper k).number) × ((judgement_paper j).place ≡ (judgement_paper k).place)
    never_two (Err r) k e f = absurd e
    never_two (Ok v) (Err s) e f = absurd f
    never_two (Ok verdict.Right) (Ok verdict.Right) e f = (refl, refl)
    never_two (Ok verdict.Right) (Ok (verdict.Wrong u)) e f = absurd (not_right c n u f e)
    never_two (Ok (verdict.Wrong v)) (Ok verdict.Right) e f = absurd (not_right c n v e f)
    never_two (Ok (verdict.Wrong v)) (Ok (verdict.Wrong u)) e f = (refl, e.named ∙ sym f.named)

-- ---- price and check

-- 7, 8 or neither
module _ (P : Result ⊤ Refusal → Type 0) (seven : P (Err (refusal OtherWidth 0))) (eight : (place : ℕ) → P (Err (refusal NotInJob place))) (neither : P (Ok tt))
    (t : Terms) where
  by_fit : (place : ℕ) (ws : List ℕ) → P (all_in_job t.sources t.targets place ws)
  unfolding all_in_job
  by_fit place [] = neither
  by_fit place (w ∷ ws) = either P (not (in_job t.sources t.targets w)) (λ _. eight place) (λ _. by_fit (place + 1) ws)

  pub fit_number : (m : Mapping) (ws : List ℕ) → P (fit_of t m ws)
  unfolding fit_of
  fit_number m ws = either P (not (eqb t.width m.width)) (λ _. seven) (λ _. by_fit bindings_start ws)

abbrev pub Checking : Ruling (Result ⊤ CheckError) → Type 0
Checking x = OneNumber (Result ⊤ CheckError) is_ok checker.paper_of check_numbers (CheckRuled x)

pub check_gives : (a : Result ⊤ CheckError) → Listed is_ok checker.paper_of check_numbers a → Checking (Gives a)
check_gives a h = one_answer is_ok checker.paper_of check_numbers a h

pub check_names : (c : Claim) (n : ℕ) → Checking (Names c n)
check_names c n = record { listed = listed; never_two = λ r s e f. (number r e ∙ sym (number s f), place r e ∙ sym (place s f)) }
  where
    listed : (r : Result ⊤ CheckError) → CheckRuled (Names c n) r → Listed is_ok checker.paper_of check_numbers r
    listed (Ok tt) e = absurd e
    listed (Err (checked.JobRefused r)) e = absurd e
    listed (Err (checked.MappingRefused r)) e = absurd e
    listed (Err (checked.Refused r)) e = absurd e
    listed (Err (checked.Wrong v)) e = refl

    number : (r : Result ⊤ CheckError) → CheckRuled (Names c n) r → (checker.paper_of r).number ≡ 10
    number (Ok tt) e = absurd e
    number (Err (checked.JobRefused r)) e = absurd e
    number (Err (checked.MappingRefused r)) e = absurd e
    number (Err (checked.Refused r)) e = absurd e
    number (Err (checked.Wrong v)) e = refl

    place : (r : Result ⊤ CheckError) → CheckRuled (Names c n) r → (checker.paper_of r).place ≡ c.function
    place (Ok tt) e = absurd e
    place (Err (checked.JobRefused r)) e = absurd e
    place (Err (checked.MappingRefused r)) e = absurd e
    place (Err (checked.Refused r)) e = absurd e
    place (Err (checked.Wrong v)) e = e.named

module _ (t : Terms) (m : Mapping) (ws : List ℕ) where
  account_number : Checking (Gives (account_of t m ws))
  unfolding account_of
  account_number =
      either (λ (x : Result ⊤ CheckError). Checking (Gives x)) (not (eqb (glue t.width t.prices ws) m.glue)) (λ _. check_gives _ refl)
      (λ _. check_gives (Ok tt) refl)

  fitting_number : Checking (fitting_of t m ws)
  unfolding fitting_of
  fitting_number = go (first_unbound t.sources ws)
    where
      go : (f : Option ℕ) → Checking (unless_unbound f (unless_wrong t ws (Gives (account_of t m ws))))
      go (Some f) = check_gives _ refl
      go None =
          right_or_named (λ x _. Checking x) t ws (Gives (account_of t m ws)) (Gives (account_of t m ws)) account_number
          (λ c. check_names c t.width)

  pub judgement_number : Checking (judgement_of t m ws)
  unfolding judgement_of
  judgement_number =
      fit_number (λ x. Checking (unless_misfit x (fitting_of t m ws))) (check_gives _ refl) (λ place. check_gives _ refl) fitting_number t m
      ws

pub check_number : (jw mw : List ℕ) → Checking (ruling_of jw mw)
unfolding ruling_of pair_of
check_number jw mw = go (job_of jw) refl (mapping_of mw) refl
  where
    go : (j : Result Job Refusal) → job_of jw ≡ j → (m : Result Mapping Refusal) → mapping_of mw ≡ m → Checking (ruled_of (paired jw mw (with_job j m)))
    go (Err r) e m f =
        check_gives (Err (checked.JobRefused r)) (of_reading (7 ∷ 8 ∷ 9 ∷ 10 ∷ 11 ∷ []) (number_of r.fault) (job_number r jw e))
    go (Ok j) e (Err r) f =
        check_gives (Err (checked.MappingRefused r)) (of_reading (7 ∷ 8 ∷ 9 ∷ 10 ∷ 11 ∷ []) (number_of r.fault) (mapping_number r mw f))
    go (Ok j) e (Ok m) f = judgement_number (terms_of jw j) m (bindings_of mw m)

-- ---- the calls of a bench

abbrev pub accepts : {A : Type 0} → After A → Bool
accepts r = is_ok r.answer

abbrev pub paper : After ⊤ → Paper
paper r = bench.paper_of r.answer

abbrev pub number_paper : After ℕ → Paper
number_paper r = bench.number_paper_of r.answer

module _ (b : Bench) (w : ℕ) where
  abbrev pub Binding : Ruling (After ⊤) → Type 0
  Binding x = OneNumber (After ⊤) accepts paper bind_numbers (BindRuled b x)

  -- a refusal before 10
  pub check_refused : (r : Refusal) → bind_check b w ≡ Err r → among bind_numbers (number_of r.fault) ≡ true
  unfolding bind_check rule_fault table_check
  check_refused r =
      let P : Result ⊤ Refusal → Type 0 = λ x. x ≡ Err r → among bind_numbers (number_of r.fault) ≡ true in
      let Q : Option Fault → Type 0 = λ x. P (unless_fault x 0 (table_check b w)) in
      either P (not (sound_bench b)) (λ _. numbered NotSound 0 refl)
      (λ _. either Q (not (eqb (kind_of w) RULE)) (λ _. numbered OutOfSequence 0 refl)
      (λ _. recipe_number Q w (numbered NotLaidOut 0 refl) (numbered ReadsUndriven 0 refl) (numbered OtherOutputs 0 refl)
      (either P (not (in_tables b w)) (λ _. numbered NotInJob 0 refl)
      (λ _. either P (has_binding b (source_of w)) (λ _. numbered AlreadyBound (source_of w) refl)
      (λ _ e. absurd (let z : ◌≡◌ {A = ℕ} 0 1 = cc in omega arith))))))
    where
      numbered : (fault : Fault) (i : ℕ) → among bind_numbers (number_of fault) ≡ true → ◌≡◌ {A = Result ⊤ Refusal} (Err (refusal fault i)) (Err r)
          → among bind_numbers (number_of r.fault) ≡ true
      numbered fault i h e =
          let q : refusal fault i ≡ r = cc in subst (λ (x : Refusal). among bind_numbers (number_of x.fault) ≡ true) q h

  pub bind_names : (c : Claim) (n : ℕ) → Binding (Names c n)
  bind_names c n =
      record {
        listed = λ r e. listed r.answer e.1;
        never_two =
            λ r s e f. (
              number r.answer e.1 ∙ sym (number s.answer f.1),
              place r.answer e.1 ∙ sym (place s.answer f.1),
            );
      }
    where
      listed : (a : Result ⊤ CallError) → WrongAt c n a → Listed is_ok bench.paper_of bind_numbers a
      listed (Ok tt) e = absurd e
      listed (Err (call.Refused r)) e = absurd e
      listed (Err (call.Wrong v)) e = refl

      number : (a : Result ⊤ CallError) → WrongAt c n a → (bench.paper_of a).number ≡ 10
      number (Ok tt) e = absurd e
      number (Err (call.Refused r)) e = absurd e
      number (Err (call.Wrong v)) e = refl

      place : (a : Result ⊤ CallError) → WrongAt c n a → (bench.paper_of a).place ≡ c.function
      place (Ok tt) e = absurd e
      place (Err (call.Refused r)) e = absurd e
      place (Err (call.Wrong v)) e = e.named
