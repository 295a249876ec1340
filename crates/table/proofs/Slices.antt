-- The parts of a job's and a mapping's words.
use mathlib.Core.Path.{◌≡◌, ap, ◌∙◌}
use mathlib.Core.List.{List}
use Prim.Native.Nat.{ℕ, ◌+◌, ◌-◌, ◌≤◌}
use native.Mathlib.Omega.{arith}
use lib.ListN.{length, take, drop}
use Rattle.bits.specs.Asked.{Width}
use Rattle.reader.specs.Job.{WellFormedJob}
use Rattle.reader.specs.Starts.{sources_start, targets_start, rules_start, bindings_start}
use Rattle.reader.specs.Mapping.{WellFormedMapping}
use Rattle.reader.specs.declared.Job.{Job}
use Rattle.reader.specs.declared.Mapping.{Mapping}
use Rattle.wellformed.proofs.JobWords as jobs
use Rattle.wellformed.proofs.MappingWords as mappings
use Rattle.words.proofs.Lists.{part_from}
use Rattle.table.specs.Parts.{rules_of, bindings_of, terms_with, terms_of}

module _ (ws : List ℕ) (j : Job) (e : WellFormedJob ws j) where
  pub width_there : Width j.width
  width_there = let f = jobs.well_formed ws j e in record { least = f.width_least; most = f.width_most }

  module _ (t : ℕ) (et : t ≡ targets_start j) where
    pub sources_within : t ≤ length ws
    sources_within = omega (arith, (jobs.well_formed ws j e).size)

    pub targets_within : (r : ℕ) → r ≡ rules_start j → r ≤ length ws
    targets_within r er = omega (arith, (jobs.well_formed ws j e).size)

-- the terms of a job, from its parts
pub terms_there : (ws : List ℕ) (j : Job) (t : ℕ) → t ≡ targets_start j → (r : ℕ) → r ≡ rules_start j
    → terms_with j (take (t - sources_start) (drop sources_start ws)) (take (r - t) (drop t ws)) ≡ terms_of ws j
terms_there ws j t et r er =
    let n : t - sources_start ≡ j.sources = omega arith in
    let m : r - t ≡ j.targets = omega arith in
    λ i. terms_with j (take (n i) (drop sources_start ws)) (take (m i) (drop (et i) ws))

module _ (ws : List ℕ) (j : Job) (e : WellFormedJob ws j) (r : ℕ) (er : r ≡ rules_start j) where
  pub rules_within : r ≤ length ws
  rules_within = omega (arith, (jobs.well_formed ws j e).size)

  pub rules_part : take (length ws - r) (drop r ws) ≡ rules_of ws j
  rules_part = part_from r ws ∙ ap (λ (x : ℕ). drop x ws) er

module _ (ws : List ℕ) (m : Mapping) (e : WellFormedMapping ws m) (t : ℕ) (et : t ≡ bindings_start + m.bindings) where
  pub bindings_within : t ≤ length ws
  bindings_within = omega (arith, (mappings.well_formed ws m e).size)

  pub bindings_part : take (t - bindings_start) (drop bindings_start ws) ≡ bindings_of ws m
  bindings_part = let n : t - bindings_start ≡ m.bindings = omega arith in ap (λ (x : ℕ). take x (drop bindings_start ws)) n
