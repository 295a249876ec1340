-- What the checker promises, of every answer that meets its contract. A mapping is accepted exactly if it is what document 01 asks
-- of a mapping; and where it is not, for want of a binding or by a wrong one, the lowest such function is named.
use mathlib.Core.Path.{◌≡◌, refl, ap, subst, ◌∙◌}
use mathlib.Core.Logic.{◌↔◌}
use mathlib.Core.List.{List, []}
use Prim.Native.Nat.{ℕ, ◌<◌}
use native.Mathlib.Omega.{arith}
use Rattle.words.specs.Paper.{accepted}
use Rattle.verdict.specs.Verdicts.{Ruling}
use Rattle.reader.specs.declared.Job.{Job}
use Rattle.reader.specs.declared.Mapping.{Mapping}
use Rattle.table.specs.Parts.{terms_of}
use Rattle.fitting.specs.Pair.{pair_of}
use Rattle.fitting.specs.Pairing.{paired}
use Rattle.std.specs.Prelude.{Result, Ok, Err, ⊤}
use Rattle.checker.specs.declared.CheckError.{CheckError}
use Rattle.fitting.specs.declared.PairError.{PairError}
use Rattle.fitting.proofs.Pairs.{of_pair}
use Rattle.checker.specs.Check.{paper_of, CheckRuled, ruled_of, ruling_of, Checks}
use Rattle.demands.specs.Mapped.{source_at, Fitting, Bound, Complete, RightAt, RightlyMapped, NamesUnbound, NamesWrong}
use Rattle.demands.proofs.ByIndex.{fitted, accepting, accepted_judged, lowest_unbound, lowest_wrong}
use Rattle.demands.proofs.Papers.{accepted_paper}

accepted_pair : (jw mw : List ℕ) (p : Result (Job × Mapping) PairError) → pair_of jw mw ≡ p → CheckRuled (ruled_of (paired jw mw p)) (Ok tt) → RightlyMapped jw mw
accepted_pair jw mw (Ok (j, m)) e h = let r = of_pair jw mw j m e in accepted_judged jw mw j m r.0 r.1 h
accepted_pair jw mw (Err x) e h = absurd (let z : ◌≡◌ {A = ℕ} 0 1 = cc in omega arith)

module _ (jw mw : List ℕ) (r : Result ⊤ CheckError) (answer : Checks jw mw r) where
  rightly_mapped : paper_of r ≡ accepted [] → RightlyMapped jw mw
  unfolding ruling_of
  rightly_mapped e =
      accepted_pair jw mw (pair_of jw mw) refl (subst (λ (x : Result ⊤ CheckError). Checks jw mw x) (accepted_paper jw mw r answer e) answer)

  has_passed : RightlyMapped jw mw → paper_of r ≡ accepted []
  has_passed q =
      let j = q.job in
      let m = q.mapping in
      let ej = q.fitting.job_well_formed in
      let em = q.fitting.mapping_well_formed in
      let ruled = fitted jw mw j m ej em q.fitting.fits ∙ accepting jw mw j m ej em q.complete q.all_right q.rightly_priced in
      ap paper_of (subst (λ (x : Ruling (Result ⊤ CheckError)). CheckRuled x r) ruled answer)

  -- Accepted exactly if job and mapping are well formed, the mapping fits, is complete, all its bindings are right at the job's width
  -- for every left, every right and both carries, and it is rightly priced.
  pub accepted_exactly : (paper_of r ≡ accepted []) ↔ RightlyMapped jw mw
  accepted_exactly = (rightly_mapped, has_passed)

  module _ (j : Job) (m : Mapping) (q : Fitting jw mw j m) where
    -- Where a source has no binding, the lowest such is named, whatever the bindings are.
    pub unbound_whatever_the_bindings : (i : ℕ) → i < j.sources → (Bound mw m (source_at jw i) → ⊥) → NamesUnbound jw mw j m r
    unbound_whatever_the_bindings i h u =
        lowest_unbound jw mw j m q.job_well_formed q.mapping_well_formed q.fits i h u r answer

    -- Where the mapping is complete and a binding is wrong, the lowest such is named, whatever the price.
    pub wrong_whatever_the_price : Complete jw mw j m → (k : ℕ) → k < m.bindings → (RightAt (terms_of jw j) mw k → ⊥)
        → NamesWrong (terms_of jw j) mw m r
    wrong_whatever_the_price c k h u =
        lowest_wrong jw mw j m q.job_well_formed q.mapping_well_formed q.fits c k h u r answer
