-- Of a job and a mapping that are well formed: 9, 10 and 11 told by the indexes of their words.
use mathlib.Core.Path.{◌≡◌, refl, sym, ap, subst, ◌∙◌}
use mathlib.Core.Bool.{true, false, not, false≢true}
use mathlib.Core.List.{List, [], ◌∷◌}
use Prim.Native.Nat.{ℕ, ◌<◌}
use native.Mathlib.Omega.{arith}
use lib.Dec.{eqb}
use lib.ListN.{length, get_or}
use borrow.Author.Tests.{eq-eqb, eqb-true, not-false}
use Rattle.words.specs.Field.{content_of}
use Rattle.words.specs.Paper.{port_number, refusal, source_place, refused_with}
use Rattle.words.specs.declared.Witness.{Witness}
use Rattle.words.proofs.Choices.{either, false_of}
use Rattle.bits.specs.Bits.{num}
use Rattle.std.specs.Prelude.{Option, Some, None, Result, Ok, Err, ⊤}
use Rattle.recipe.specs.Fields.{source_of}
use Rattle.binding.specs.Right.{Right, is_right}
use Rattle.binding.specs.declared.Claim.{Claim}
use Rattle.binding.proofs.Tests.{right_test}
use Rattle.verdict.specs.Verdicts.{Differs, Ruling, Gives, Names}
use Rattle.reader.specs.Job.{WellFormedJob}
use Rattle.reader.specs.Starts.{sources_start, bindings_start}
use Rattle.reader.specs.Mapping.{WellFormedMapping}
use Rattle.reader.specs.declared.Job.{Job}
use Rattle.reader.specs.declared.Mapping.{Mapping}
use Rattle.wellformed.proofs.JobWords as jobs
use Rattle.wellformed.proofs.MappingWords as mappings
use Rattle.table.specs.Parts.{sources_of, bindings_of, Terms, terms_of}
use Rattle.claims.specs.Claim.{claim_in}
use Rattle.fitting.specs.Fitting.{fit_of}
use Rattle.fitting.specs.Pairing.{paired}
use Rattle.fitting.specs.declared.PairError.{PairError}
use Rattle.checker.specs.declared.CheckError.{CheckError}
use Rattle.words.specs.declared.Refusal.{Refusal}
use Rattle.fitting.proofs.Pairs.{pair_read}
use Rattle.pricer.specs.Pricing.{glue_of}
use Rattle.checker.specs.Check.{paper_of, CheckRuled, account_of, unless_unbound, fitting_of, unless_misfit, judgement_of, ruled_of, ruling_of, Checks}
use Rattle.rightness.specs.Rightness.{unless_wrong}
use Rattle.completeness.specs.Complete.{binds, first_unbound}
use Rattle.checker.specs.declared.CheckError.TheVariants.{JobRefused, MappingRefused, Refused, Wrong}
use Rattle.demands.specs.Mapped.{source_at, binding_at, claim_at, Bound, Complete, RightAt, AllRight, RightlyMapped, NamesUnbound, NamesWrong}
use Rattle.mapper.proofs.Answering.{sources_length}
use Rattle.demands.proofs.Parts.{part_length, part_at, rises_to, source_at_lem}
use Rattle.demands.proofs.Firsts.{First, Passes, first_failing, first_least, bound_at, at_bound, bound_in, all_bound_none, unbound_first, none_all_bound, right_under, all_right_next, wrong_first, accepted_all_right}
use Rattle.words.specs.declared.Fault.TheVariants.{Incomplete}

-- ---- rightness as a test

right_of : (c : Claim) (n : ℕ) → is_right c n ≡ true → Right c n
right_of c n h = (right_test c.source c.recipe n).0 h

of_right : (c : Claim) (n : ℕ) → Right c n → is_right c n ≡ true
of_right c n h = (right_test c.source c.recipe n).1 h

of_wrong : (c : Claim) (n : ℕ) → (Right c n → ⊥) → is_right c n ≡ false
of_wrong c n h = false_of (is_right c n) (λ e. h (right_of c n e))

-- ---- what a ruling that names a claim leaves to the program

abbrev WrongOf : Claim → ℕ → Result ⊤ CheckError → Witness → Type 0
WrongOf c n r v =
    (paper_of r ≡ refused_with 10 c.function (port_number v.port ∷ v.left ∷ v.right ∷ num v.carry ∷ [])) × Differs c n v

wrong_answer : (c : Claim) (n : ℕ) (r : Result ⊤ CheckError) → CheckRuled (Names c n) r → (v : Witness) × WrongOf c n r v
wrong_answer c n (Ok tt) h = absurd h
wrong_answer c n (Err (JobRefused x)) h = absurd h
wrong_answer c n (Err (MappingRefused x)) h = absurd h
wrong_answer c n (Err (Refused x)) h = absurd h
wrong_answer c n (Err (Wrong v)) h =
    (v, (ap (λ (x : ℕ). refused_with 10 x (port_number v.port ∷ v.left ∷ v.right ∷ num v.carry ∷ [])) h.named, h))

-- ---- a job and a mapping that are well formed

module _ (jw mw : List ℕ) (j : Job) (m : Mapping) (ej : WellFormedJob jw j) (em : WellFormedMapping mw m) where
  abbrev t : Terms
  t = terms_of jw j

  abbrev sources : List ℕ
  sources = sources_of jw j

  abbrev bindings : List ℕ
  bindings = bindings_of mw m

  bindings_length : length bindings ≡ m.bindings
  bindings_length = part_length mw bindings_start m.bindings (omega (arith, (mappings.well_formed mw m em).size))

  binding_at_lem : (k : ℕ) → k < m.bindings → get_or bindings k 0 ≡ binding_at mw k
  binding_at_lem k h = part_at mw bindings_start m.bindings k h

  -- ---- 9

  bound_of : (f : ℕ) → binds bindings f ≡ true → Bound mw m f
  bound_of f e =
      let r = bound_at bindings f e in
      let h : r.0 < m.bindings = omega (arith, r.1.0, bindings_length) in
      (r.0, (h, ap source_of (sym (binding_at_lem r.0 h)) ∙ r.1.1))

  of_bound : (f : ℕ) → Bound mw m f → binds bindings f ≡ true
  of_bound f b =
      at_bound bindings f b.0 (omega (arith, b.1.0, bindings_length)) (ap source_of (binding_at_lem b.0 b.1.0) ∙ b.1.1)

  complete_none : Complete jw mw j m → first_unbound sources bindings ≡ None
  complete_none h =
      all_bound_none bindings sources
      (λ i l. let g : i < j.sources = omega (arith, sources_length jw j ej) in ap (binds bindings) (source_at_lem jw j i g) ∙ of_bound (source_at jw i) (h i g))

  none_complete : first_unbound sources bindings ≡ None → Complete jw mw j m
  none_complete e i h =
      bound_of (source_at jw i)
      (ap (binds bindings) (sym (source_at_lem jw j i h)) ∙ none_all_bound bindings sources e i (omega (arith, sources_length jw j ej)))

  unbound_fails : (i : ℕ) → i < j.sources → (Bound mw m (source_at jw i) → ⊥) → bound_in bindings (get_or sources i 0) ≡ false
  unbound_fails i h u =
      false_of (bound_in bindings (get_or sources i 0)) (λ e. u (bound_of (source_at jw i) (ap (binds bindings) (sym (source_at_lem jw j i h)) ∙ e)))

  -- ---- 10

  claim_at_lem : (k : ℕ) → k < m.bindings → claim_in t.sources t.targets (get_or bindings k 0) ≡ claim_at t mw k
  claim_at_lem k h = ap (claim_in t.sources t.targets) (binding_at_lem k h)

  test_at : (k : ℕ) → k < m.bindings → right_under t (get_or bindings k 0) ≡ is_right (claim_at t mw k) t.width
  test_at k h = ap (λ (c : Claim). is_right c t.width) (claim_at_lem k h)

  passes_right : Passes (right_under t) bindings → AllRight t mw m
  passes_right h k l = right_of (claim_at t mw k) t.width (sym (test_at k l) ∙ h k (omega (arith, bindings_length)))

  right_passes : AllRight t mw m → Passes (right_under t) bindings
  right_passes h k l =
      let g : k < m.bindings = omega (arith, bindings_length) in
      test_at k g ∙ of_right (claim_at t mw k) t.width (h k g)

  wrong_fails : (k : ℕ) → k < m.bindings → (RightAt t mw k → ⊥) → right_under t (get_or bindings k 0) ≡ false
  wrong_fails k h u = test_at k h ∙ of_wrong (claim_at t mw k) t.width u

  -- ---- the ruling

  judged : ruling_of jw mw ≡ judgement_of t m bindings
  unfolding ruling_of
  judged = ap (λ (q : Result (Job × Mapping) PairError). ruled_of (paired jw mw q)) (pair_read jw mw j m ej em)

  abbrev fit : Result ⊤ Refusal
  fit = fit_of t m bindings

  pub fitted : fit ≡ Ok tt → ruling_of jw mw ≡ fitting_of t m bindings
  unfolding judgement_of
  fitted e = judged ∙ ap (λ (x : Result ⊤ Refusal). unless_misfit x (fitting_of t m bindings)) e

  completed : Complete jw mw j m → fitting_of t m bindings ≡ unless_wrong t bindings (Gives (account_of t m bindings))
  unfolding fitting_of
  completed c = rw (complete_none c) refl

  -- ---- accepted

  pub accepting : Complete jw mw j m → AllRight t mw m → glue_of j bindings ≡ m.glue → fitting_of t m bindings ≡ Gives (Ok tt)
  unfolding account_of
  accepting c a g =
      completed c ∙ all_right_next t _ bindings (right_passes a)
      ∙ rw (eq-eqb (glue_of j bindings) m.glue g) refl

  accepted_glue : Ok tt ≡ account_of t m bindings → glue_of j bindings ≡ m.glue
  unfolding account_of
  accepted_glue h =
      either (λ (x : Result ⊤ CheckError). Ok tt ≡ x → glue_of j bindings ≡ m.glue) (not (eqb (glue_of j bindings) m.glue))
      (λ _ u. absurd (let z : ◌≡◌ {A = ℕ} 0 1 = cc in omega arith))
      (λ b _. eqb-true (glue_of j bindings) m.glue (not-false (eqb (glue_of j bindings) m.glue) b)) h

  accepted_fitting : fit ≡ Ok tt → CheckRuled (fitting_of t m bindings) (Ok tt) → RightlyMapped jw mw
  unfolding fitting_of
  accepted_fitting e h = go (first_unbound sources bindings) refl h
    where
      go : (f : Option ℕ) → first_unbound sources bindings ≡ f
          → CheckRuled (unless_unbound f (unless_wrong t bindings (Gives (account_of t m bindings)))) (Ok tt) → RightlyMapped jw mw
      go (Some f) b u = absurd (let z : ◌≡◌ {A = ℕ} 0 1 = cc in omega arith)
      go None b u =
          let r = accepted_all_right t (Gives (account_of t m bindings)) bindings u in
          record {
            job = j;
            mapping = m;
            fitting = record { job_well_formed = ej; mapping_well_formed = em; fits = e };
            complete = none_complete b;
            all_right = passes_right r.0;
            rightly_priced = accepted_glue r.1;
          }

  pub accepted_judged : CheckRuled (judgement_of t m bindings) (Ok tt) → RightlyMapped jw mw
  unfolding judgement_of
  accepted_judged h = go fit refl h
    where
      go : (f : Result ⊤ Refusal) → fit ≡ f → CheckRuled (unless_misfit f (fitting_of t m bindings)) (Ok tt) → RightlyMapped jw mw
      go (Ok tt) e u = accepted_fitting e u
      go (Err x) e u = absurd (let z : ◌≡◌ {A = ℕ} 0 1 = cc in omega arith)

  -- ---- the first that fails is named

  ruled : (x : Ruling (Result ⊤ CheckError)) → ruling_of jw mw ≡ x → (r : Result ⊤ CheckError) → Checks jw mw r → CheckRuled x r
  ruled x e r h = subst (λ (y : Ruling (Result ⊤ CheckError)). CheckRuled y r) e h

  unbound_named : fit ≡ Ok tt → (at : ℕ) → First (bound_in bindings) sources at → at < j.sources
      → (r : Result ⊤ CheckError) → Checks jw mw r → r ≡ Err (Refused (refusal Incomplete (source_place (source_at jw at))))
  unfolding fitting_of
  unbound_named e at first within r h =
      let f : first_unbound sources bindings ≡ Some (source_at jw at)
      = unbound_first bindings sources at first ∙ ap Some (source_at_lem jw j at within) in
      ruled (Gives (Err (Refused (refusal Incomplete (source_place (source_at jw at))))))
      (fitted e ∙ ap (λ (x : Option ℕ). unless_unbound x (unless_wrong t bindings (Gives (account_of t m bindings)))) f) r h

  names-unbound : fit ≡ Ok tt → (at : ℕ) → First (bound_in bindings) sources at → (r : Result ⊤ CheckError) → Checks jw mw r → NamesUnbound jw mw j m r
  names-unbound e at first r h =
      let within : at < j.sources = omega (arith, first.within, sources_length jw j ej) in
      record {
        at = at;
        within = within;
        unbound =
            λ b.
            false≢true (sym first.fails ∙ ap (binds bindings) (source_at_lem jw j at within) ∙ of_bound (source_at jw at) b);
        lowest =
            λ i l u.
            rises_to jw sources_start j.sources content_of (jobs.well_formed jw j ej).sources_rise at i
            (first_least (bound_in bindings) sources at first i (unbound_fails i l u)) l;
        answer = ap paper_of (unbound_named e at first within r h);
      }

  pub lowest_unbound : fit ≡ Ok tt → (i : ℕ) → i < j.sources → (Bound mw m (source_at jw i) → ⊥)
      → (r : Result ⊤ CheckError) → Checks jw mw r → NamesUnbound jw mw j m r
  lowest_unbound e i h u r c =
      let found = first_failing (bound_in bindings) sources i (omega (arith, sources_length jw j ej)) (unbound_fails i h u) in
      names-unbound e found.0 found.1 r c

  names-wrong : fit ≡ Ok tt → Complete jw mw j m → (at : ℕ) → First (right_under t) bindings at
      → (r : Result ⊤ CheckError) → Checks jw mw r → NamesWrong t mw m r
  names-wrong e c at first r h =
      let within : at < m.bindings = omega (arith, first.within, bindings_length) in
      let named = fitted e ∙ completed c ∙ wrong_first t (Gives (account_of t m bindings)) bindings at first
      ∙ ap (λ (x : Claim). Names x t.width) (claim_at_lem at within) in
      let told = wrong_answer (claim_at t mw at) t.width r (ruled (Names (claim_at t mw at) t.width) named r h) in
      record {
        at = at;
        within = within;
        wrong =
            λ right.
            false≢true (sym first.fails ∙ test_at at within ∙ of_right (claim_at t mw at) t.width right);
        lowest =
            λ k l u.
            rises_to mw bindings_start m.bindings source_of (mappings.well_formed mw m em).bindings_rise at k
            (first_least (right_under t) bindings at first k (wrong_fails k l u)) l;
        values = told.0;
        answer = told.1.0;
        differs = told.1.1;
      }

  pub lowest_wrong : fit ≡ Ok tt → Complete jw mw j m → (k : ℕ) → k < m.bindings → (RightAt t mw k → ⊥)
      → (r : Result ⊤ CheckError) → Checks jw mw r → NamesWrong t mw m r
  lowest_wrong e c k h u r a =
      let found = first_failing (right_under t) bindings k (omega (arith, bindings_length)) (wrong_fails k h u) in
      names-wrong e c found.0 found.1 r a
