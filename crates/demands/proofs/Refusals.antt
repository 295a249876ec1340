-- Demand 1, as theorems of the contracts: "A job, mapping, recipe or bench handed in is accepted, or refused with one number of document
-- 01 and its place." Each theorem is stated of any input, and of every answer that meets the call's contract for it.
use mathlib.Core.Path.{◌≡◌, refl, sym, ap, ◌∙◌}
use mathlib.Core.Bool.{false, not, true≢false}
use mathlib.Core.List.{List, [], ◌∷◌}
use Prim.Native.Nat.{ℕ}
use lib.Dec.{eqb, ltb}
use Rattle.words.specs.Field.{kind_of}
use Rattle.words.specs.Kinds.{is_recipe}
use Rattle.words.specs.Paper.{number_of, refusal, accepted}
use Rattle.words.proofs.Choices.{either}
use Rattle.alu.specs.Function.{function_of, ports}
use Rattle.verdict.specs.Verdicts.{Refuses, Decides, unless, is_mark, judgement_paper, judge_of, Judged}
use Rattle.std.specs.Prelude.{is_ok, if◌then◌else◌, Result, Ok, Err, ⊤, Option, Some, None}
use Rattle.bits.specs.declared.Ports.{Ports}
use Rattle.checker.specs.declared.CheckError.{CheckError}
use Rattle.fitting.specs.declared.PairError.{PairError}
use Rattle.reader.specs.declared.Job.{Job}
use Rattle.reader.specs.declared.Mapping.{Mapping}
use Rattle.verdict.specs.declared.Verdict.{Verdict}
use Rattle.words.specs.declared.Fault.TheVariants.{NotLaidOut, OtherOutputs, OutOfSequence, ReadsUndriven}
use Rattle.words.specs.declared.Refusal.{Refusal}
use Rattle.table.specs.Parts.{bindings_of, terms_of}
use Rattle.glue.specs.Glue.{glue}
use Rattle.checker.specs.Check.{Checks}
use Rattle.checker.specs.Check as checker
use Rattle.bench.specs.Calls.{sound_bench, has_binding, bind_check, bind_for, bench_of_zeros, open_for, open_of, claim_on, bind_of, Binds, release_of, price_of, unbound_on, finish_for, finish_written, finish_of}
use Rattle.bench.specs.Calls as bench
use Rattle.bench.specs.declared.Bench.{Bench}
use Rattle.bench.specs.declared.CallError.{CallError}
use Rattle.bench.specs.declared.After.{After}
use lib.ListN.{length}
use Rattle.alu.specs.Evaluate as alu
use Rattle.alu.specs.Range.{is_width}
use Rattle.binding.specs.Right.{is_right, claim_against}
use Rattle.reader.specs.Job.{job_of}
use Rattle.reader.specs.Job as job-reader
use Rattle.reader.specs.Mapping.{mapping_of}
use Rattle.reader.specs.Mapping as mapping-reader
use Rattle.wellformed.proofs.Numbers.{job_number, mapping_number}
use Rattle.fitting.specs.Pair.{pair_of, with_job}
use Rattle.fitting.specs.Pairing.{paired}
use Rattle.pricer.specs.Pricing.{counted, priced_pair, pricing_of}
use Rattle.pricer.specs.Pricing as pricer
use Rattle.writer.specs.Write.{words_needed, written_of}
use Rattle.writer.specs.Write as writer
use Rattle.mapper.specs.Mapping.{choice_of, answer_to, answer_for, answer_of, lent_after_map}
use Rattle.mapper.specs.Mapping as mapper
use Rattle.bench.specs.Shape.{Shaped}
use Rattle.demands.specs.Answers.{OneNumber, judge_numbers, read_numbers, check_numbers, bind_numbers, release_numbers, judge_accepts, write_numbers, evaluate_numbers, price_numbers, map_numbers, bench_price_numbers, finish_numbers}
use Rattle.demands.proofs.OpenedSound.{zeros-not_sound}
use Rattle.demands.proofs.Outcomes.{accepted_apart, Outcome, Unread, Unmapped, Short, Writes, outcome}
use Rattle.demands.proofs.Allowed.{Outcome as Bind, Bound, Unchanged, outcome as bind}
use Rattle.demands.proofs.Releasing.{Release, Released, Kept, release}
use Rattle.demands.proofs.Finishing.{refused-lent}
use Rattle.demands.proofs.Numbered.{Listed, one_answer, of_reading, recipe_number, Judges, sentence_refused, sentence_decided, fit_number, accepts, paper, number_paper, Binding, check_refused, bind_names, check_number}

-- ---- evaluate, judge, read_job, read_mapping

pub evaluate_answers : (f n left right carry : ℕ)
    → OneNumber (Result Ports Refusal) is_ok alu.paper_of evaluate_numbers (λ r. r ≡ alu.evaluation f n left right carry)
unfolding alu.evaluation
evaluate_answers f n left right carry =
    one_answer is_ok alu.paper_of evaluate_numbers (alu.evaluation f n left right carry)
    (listed (alu.first_out_of_range f n left right carry) (ports (function_of f) n left right (eqb carry 1)))
  where
    listed : (place : Option ℕ) (p : Ports) → Listed is_ok alu.paper_of evaluate_numbers (alu.answer place p)
    listed (Some place) p = refl
    listed None p = refl

pub judge_answers : (w n mark : ℕ) → OneNumber (Result Verdict Refusal) judge_accepts judgement_paper judge_numbers (Judged w n mark)
unfolding judge_of
judge_answers w n mark =
    let claim = claim_against (eqb mark 1) w in
    let marked = if not (is_mark mark) then Refuses (refusal NotLaidOut 2) else Decides claim n in
    let width = if not (is_width n) then Refuses (refusal NotLaidOut 1) else marked in
    either Judges (not (is_recipe (kind_of w))) (λ _. sentence_refused OutOfSequence 0 refl)
    (λ _. recipe_number (λ x. Judges (unless x width)) w (sentence_refused NotLaidOut 0 refl) (sentence_refused ReadsUndriven 0 refl)
    (sentence_refused OtherOutputs 0 refl)
    (either Judges (not (is_width n)) (λ _. sentence_refused NotLaidOut 1 refl)
    (λ _. either Judges (not (is_mark mark)) (λ _. sentence_refused NotLaidOut 2 refl) (λ _. sentence_decided claim n))))

pub read_job_answers : (ws : List ℕ) → OneNumber (Result Job Refusal) is_ok job-reader.paper_of read_numbers (λ r. r ≡ job_of ws)
read_job_answers ws = one_answer is_ok job-reader.paper_of read_numbers (job_of ws) (go (job_of ws) refl)
  where
    go : (r : Result Job Refusal) → job_of ws ≡ r → Listed is_ok job-reader.paper_of read_numbers r
    go (Ok j) e = refl
    go (Err r) e = of_reading [] (number_of r.fault) (job_number r ws e)

pub read_mapping_answers : (ws : List ℕ)
    → OneNumber (Result Mapping Refusal) is_ok mapping-reader.paper_of read_numbers (λ r. r ≡ mapping_of ws)
read_mapping_answers ws = one_answer is_ok mapping-reader.paper_of read_numbers (mapping_of ws) (go (mapping_of ws) refl)
  where
    go : (r : Result Mapping Refusal) → mapping_of ws ≡ r → Listed is_ok mapping-reader.paper_of read_numbers r
    go (Ok m) e = refl
    go (Err r) e = of_reading [] (number_of r.fault) (mapping_number r ws e)

-- ---- price and check, of a job and a mapping

pub price_answers : (jw mw : List ℕ) → OneNumber (Result ℕ PairError) is_ok pricer.paper_of price_numbers (λ r. r ≡ pricing_of jw mw)
unfolding pricing_of pair_of
price_answers jw mw = one_answer is_ok pricer.paper_of price_numbers (pricing_of jw mw) (go (job_of jw) refl (mapping_of mw) refl)
  where
    go : (j : Result Job Refusal) → job_of jw ≡ j → (m : Result Mapping Refusal) → mapping_of mw ≡ m
        → Listed is_ok pricer.paper_of price_numbers (priced_pair (paired jw mw (with_job j m)))
    go (Err r) e m f = of_reading (7 ∷ 8 ∷ []) (number_of r.fault) (job_number r jw e)
    go (Ok j) e (Err r) f = of_reading (7 ∷ 8 ∷ []) (number_of r.fault) (mapping_number r mw f)
    go (Ok j) e (Ok m) f =
        let t = terms_of jw j in
        let ws = bindings_of mw m in
        fit_number (λ x. Listed is_ok pricer.paper_of price_numbers (counted x (glue t.width t.prices ws))) refl (λ place. refl)
        refl t m ws

pub check_answers : (jw mw : List ℕ) → OneNumber (Result ⊤ CheckError) is_ok checker.paper_of check_numbers (Checks jw mw)
check_answers jw mw = check_number jw mw

-- ---- map, and what it has in common with finish: the writing of a mapping

pub write_answers : (sources : ℕ) (lent : List ℕ)
    → OneNumber (Result ℕ Refusal) is_ok writer.paper_of write_numbers (λ r. r ≡ written_of sources lent)
unfolding written_of
write_answers sources lent =
    one_answer is_ok writer.paper_of write_numbers (written_of sources lent)
    (either (λ (x : Result ℕ Refusal). Listed is_ok writer.paper_of write_numbers x) (ltb (length lent) (words_needed sources)) (λ _. refl)
    (λ _. refl))

pub map_answers : (ws lent : List ℕ)
    → OneNumber (Result ℕ Refusal) is_ok mapper.paper_of map_numbers (λ r. r ≡ answer_of ws lent)
unfolding answer_of written_of
map_answers ws lent = one_answer is_ok mapper.paper_of map_numbers (answer_of ws lent) (go (job_of ws) refl)
  where
    by_choice : (c : Result (List ℕ) ℕ) → Listed is_ok mapper.paper_of map_numbers (answer_to c lent)
    by_choice (Err place) = refl
    by_choice (Ok bound) =
        either (λ (x : Result ℕ Refusal). Listed is_ok mapper.paper_of map_numbers x)
        (ltb (length lent) (words_needed (length bound))) (λ _. refl) (λ _. refl)

    go : (r : Result Job Refusal) → job_of ws ≡ r → Listed is_ok mapper.paper_of map_numbers (answer_for ws r lent)
    go (Err r) e = of_reading (12 ∷ 23 ∷ []) (number_of r.fault) (job_number r ws e)
    go (Ok j) e = by_choice (choice_of ws j)

-- ---- open, bind, release, price, finish

pub open_answers : (ws : List ℕ) → OneNumber (After ⊤) accepts paper read_numbers (λ r. r ≡ open_of ws)
unfolding open_of
open_answers ws = one_answer accepts paper read_numbers (open_of ws) (go (job_of ws) refl)
  where
    go : (r : Result Job Refusal) → job_of ws ≡ r → Listed accepts paper read_numbers (open_for ws r)
    go (Ok j) e = refl
    go (Err r) e = of_reading [] (number_of r.fault) (job_number r ws e)

pub bind_answers : (b : Bench) (w : ℕ) → OneNumber (After ⊤) accepts paper bind_numbers (Binds b w)
unfolding bind_of
bind_answers b w = go (bind_check b w) refl
  where
    go : (r : Result ⊤ Refusal) → bind_check b w ≡ r → Binding b w (bind_for b w r)
    go (Err r) e = one_answer accepts paper bind_numbers _ (check_refused b w r e)
    go (Ok tt) e =
        either (Binding b w) (not (is_right (claim_on b w) b.tables.width)) (λ _. bind_names b w (claim_on b w) b.tables.width)
        (λ _. one_answer accepts paper bind_numbers _ refl)

pub release_answers : (b : Bench) (f : ℕ) → OneNumber (After ⊤) accepts paper release_numbers (λ r. r ≡ release_of b f)
unfolding release_of
release_answers b f =
    let P : After ⊤ → Type 0 = λ x. Listed accepts paper release_numbers x in
    one_answer accepts paper release_numbers (release_of b f)
    (either P (not (sound_bench b)) (λ _. refl) (λ _. either P (not (has_binding b f)) (λ _. refl) (λ _. refl)))

pub bench_price_answers : (b : Bench) → OneNumber (After ℕ) accepts number_paper bench_price_numbers (λ r. r ≡ price_of b)
unfolding price_of
bench_price_answers b =
    one_answer accepts number_paper bench_price_numbers (price_of b)
    (either (λ (x : Result ℕ CallError). Listed is_ok bench.number_paper_of bench_price_numbers x) (not (sound_bench b)) (λ _. refl) (λ _. refl))

pub finish_answers : (b : Bench) (lent : List ℕ) → OneNumber (After ℕ) accepts number_paper finish_numbers (λ r. r ≡ finish_of b lent)
unfolding finish_of written_of
finish_answers b lent =
    one_answer accepts number_paper finish_numbers (finish_of b lent)
    (either (λ (x : Result ℕ CallError). Listed is_ok bench.number_paper_of finish_numbers x) (not (sound_bench b)) (λ _. refl)
    (λ _. by_unbound (unbound_on b)))
  where
    by_unbound : (u : Option ℕ) → Listed is_ok bench.number_paper_of finish_numbers (finish_for b lent u)
    by_unbound (Some f) = refl
    by_unbound None =
        either (λ (x : Result ℕ Refusal). Listed is_ok bench.number_paper_of finish_numbers (finish_written x))
        (ltb (length lent) (words_needed b.tables.nsources)) (λ _. refl) (λ _. refl)

-- ---- "A refusal hands back the bench it was given and writes to no lent word."

-- a refused open was given none: "it hands back one of zeros only, which is not sound"
pub refused-open_hands_back_zeros : (ws : List ℕ) → is_ok (open_of ws).answer ≡ false
    → ((open_of ws).bench ≡ bench_of_zeros) × (sound_bench bench_of_zeros ≡ false)
unfolding open_of
refused-open_hands_back_zeros ws = go (job_of ws)
  where
    go : (r : Result Job Refusal) → is_ok (open_for ws r).answer ≡ false
        → ((open_for ws r).bench ≡ bench_of_zeros) × (sound_bench bench_of_zeros ≡ false)
    go (Ok j) e = absurd (true≢false e)
    go (Err r) e = (refl, zeros-not_sound)

pub refused-bind_changes_nothing : (b : Bench) (w : ℕ) (r : After ⊤) → Binds b w r → is_ok r.answer ≡ false → r.bench ≡ b
refused-bind_changes_nothing b w r answer e = by_outcome (bind b w r answer)
  where
    by_outcome : Bind b w r → r.bench ≡ b
    by_outcome (Bound _ u) = absurd (true≢false (sym (ap (λ (x : After ⊤). is_ok x.answer) u) ∙ e))
    by_outcome (Unchanged _ u) = u

pub refused-release_changes_nothing : (b : Bench) (f : ℕ) → is_ok (release_of b f).answer ≡ false → (release_of b f).bench ≡ b
refused-release_changes_nothing b f e = by_outcome (release b f)
  where
    by_outcome : Release b f → (release_of b f).bench ≡ b
    by_outcome (Released _ _ u) = absurd (true≢false (sym (ap (λ (x : After ⊤). is_ok x.answer) u) ∙ e))
    by_outcome (Kept _ u) = u

-- price and finish hand it back whatever they answer
pub price_hands_back : (b : Bench) → (price_of b).bench ≡ b
unfolding price_of
price_hands_back b = refl

pub finish_hands_back : (b : Bench) (lent : List ℕ) → (finish_of b lent).bench ≡ b
unfolding finish_of
finish_hands_back b lent = refl

pub refused-map_writes_nothing : (ws lent : List ℕ) → is_ok (answer_of ws lent) ≡ false → lent_after_map ws lent ≡ lent
refused-map_writes_nothing ws lent e = by_outcome (outcome ws lent)
  where
    by_answer : (a : Result ℕ Refusal) → is_ok a ≡ false → (n : ℕ) → mapper.paper_of a ≡ accepted (n ∷ []) → ⊥
    by_answer (Ok k) e n p = true≢false e
    by_answer (Err r) e n p = accepted_apart n (number_of r.fault) r.place (sym p)

    by_outcome : Outcome ws lent → lent_after_map ws lent ≡ lent
    by_outcome (Unread r _ _ kept) = kept
    by_outcome (Unmapped j i _ _ _ kept) = kept
    by_outcome (Short j bound _ _ _ _ kept) = kept
    by_outcome (Writes j bound _ _ _ p _) = absurd (by_answer (answer_of ws lent) e (words_needed j.sources) p)

pub refused-finish_writes_nothing : (b : Bench) → Shaped b → (lent : List ℕ) → is_ok (finish_of b lent).answer ≡ false
    → bench.lent_after_finish b lent ≡ lent
refused-finish_writes_nothing b h lent e = refused-lent b h lent e
