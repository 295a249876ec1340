-- A pair that was read: both are well formed, with these facts.
use mathlib.Core.Path.{◌≡◌, sym, ap, ap₂, ◌∙◌}
use mathlib.Core.List.{List}
use Prim.Native.Nat.{ℕ}
use native.Mathlib.Omega.{arith}
use Rattle.words.specs.declared.Refusal.{Refusal}
use Rattle.reader.specs.Job.{job_of, WellFormedJob}
use Rattle.reader.specs.Mapping.{mapping_of, WellFormedMapping}
use Rattle.reader.specs.declared.Job.{Job}
use Rattle.reader.specs.declared.Mapping.{Mapping}
use Rattle.std.specs.Prelude.{Result, Ok, Err}
use Rattle.fitting.specs.declared.PairError.{PairError}
use Rattle.fitting.specs.Pair.{with_mapping, with_job, pair_of}

pub pair_read : (jw mw : List ℕ) (j : Job) (m : Mapping) → WellFormedJob jw j → WellFormedMapping mw m → pair_of jw mw ≡ Ok (j, m)
unfolding pair_of
pair_read jw mw j m e f = ap₂ with_job e f

of_mapping : (q : Result Mapping Refusal) (j k : Job) (m : Mapping) → with_mapping j q ≡ Ok (k, m) → (j ≡ k) × (q ≡ Ok m)
of_mapping (Ok x) j k m e =
    let u : ◌≡◌ {A = Job × Mapping} (j, x) (k, m) = cc in
    (ap (λ (p : Job × Mapping). p.0) u, ap (λ (p : Job × Mapping). Ok p.1) u)
of_mapping (Err r) j k m e = absurd (let z : ◌≡◌ {A = ℕ} 0 1 = cc in omega arith)

of_job : (r : Result Job Refusal) (q : Result Mapping Refusal) (k : Job) (m : Mapping) → with_job r q ≡ Ok (k, m)
    → (r ≡ Ok k) × (q ≡ Ok m)
of_job (Ok j) q k m e = let u = of_mapping q j k m e in (ap Ok u.0, u.1)
of_job (Err r) q k m e = absurd (let z : ◌≡◌ {A = ℕ} 0 1 = cc in omega arith)

-- both are well formed, with these facts
pub of_pair : (jw mw : List ℕ) (j : Job) (m : Mapping) → pair_of jw mw ≡ Ok (j, m)
    → WellFormedJob jw j × WellFormedMapping mw m
unfolding pair_of
of_pair jw mw j m e = of_job (job_of jw) (mapping_of mw) j m e

module _ (jw mw : List ℕ) (p : Result (Job × Mapping) PairError) (e : p ≡ pair_of jw mw) (j : Job) (m : Mapping) (u : p ≡ Ok (j, m)) where
  pub job_read : WellFormedJob jw j
  job_read = (of_pair jw mw j m (sym e ∙ u)).0

  pub mapping_read : WellFormedMapping mw m
  mapping_read = (of_pair jw mw j m (sym e ∙ u)).1
