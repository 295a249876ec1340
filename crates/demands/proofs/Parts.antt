-- The words of a part of a job or a mapping, by their indexes.
use mathlib.Core.Path.{◌≡◌, ap, subst, ◌∙◌}
use mathlib.Core.Logic.{⊎_elim}
use mathlib.Core.List.{List}
use Prim.Native.Nat.{ℕ, ◌+◌, ◌-◌, ◌≤◌, ◌<◌}
use native.Mathlib.Nat.{eq-or-lt_of_le}
use native.Mathlib.Omega.{arith}
use lib.ListN.{length, take, drop, get_or, length-drop}
use lib.Seq.{length-take-le, get_or-take, get_or-drop}
use Rattle.words.specs.Field.{source_function}
use Rattle.reader.specs.Starts.{sources_start}
use Rattle.reader.specs.declared.Job.{Job}
use Rattle.wellformed.proofs.Parts.{Rising, rising_far}
use Rattle.table.specs.Parts.{sources_of}
use Rattle.demands.specs.Mapped.{source_at}

module _ (ws : List ℕ) (start n : ℕ) where
  pub part_length : start + n ≤ length ws → length (take n (drop start ws)) ≡ n
  part_length h = length-take-le n (drop start ws) (omega (arith, length-drop start ws))

  pub part_at : (i : ℕ) → i < n → get_or (take n (drop start ws)) i 0 ≡ get_or ws (start + i) 0
  part_at i h = get_or-take n (drop start ws) i 0 h ∙ get_or-drop start ws i 0

  module _ (f : ℕ → ℕ) (r : Rising f ws start n) (i k : ℕ) where
    -- where f rises, the earlier word has the lower f
    pub rises : i < k → k < n → f (get_or ws (start + i) 0) < f (get_or ws (start + k) 0)
    rises h l =
        let e : i + (k - i - 1) + 1 ≡ k = omega arith in
        subst (λ (x : ℕ). f (get_or ws (start + i) 0) < f (get_or ws (start + x) 0)) e
        (rising_far ws start n f r i (k - i - 1) (omega arith))

    pub rises_to : i ≤ k → k < n → f (get_or ws (start + i) 0) ≤ f (get_or ws (start + k) 0)
    rises_to h l =
        ⊎_elim (λ (e : i ≡ k). subst (λ (x : ℕ). f (get_or ws (start + i) 0) ≤ f (get_or ws (start + x) 0)) e (omega arith))
        (λ (g : i < k). omega (arith, rises g l)) (eq-or-lt_of_le h)

-- the function of a job's k-th source
pub source_at_lem : (ws : List ℕ) (job : Job) (k : ℕ) → k < job.sources → source_function (get_or (sources_of ws job) k 0) ≡ source_at ws k
source_at_lem ws job k h = ap source_function (part_at ws sources_start job.sources k h)
