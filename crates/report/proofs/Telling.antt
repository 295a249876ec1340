-- Values put into a caller's words, if they are enough; and what a report holds.
use mathlib.Core.Path.{◌≡◌, refl, ap, subst, ◌∙◌}
use mathlib.Core.List.{List, ◌++◌}
use Prim.Native.Nat.{ℕ, ◌+◌, ◌-◌, ◌≤◌, ◌<◌}
use native.Mathlib.Omega.{arith}
use lib.ListN.{length, drop, replicate, length-append}
use lib.Seq.{sets, take-append_seam}
use Rattle.std.proofs.lemmas.List.Edits.{sets-eq}
use borrow.Author.Tests.{lt-ltb, le-ltb}
use Rattle.words.specs.Paper.{Paper}
use Rattle.report.specs.Told.{most_values, report_of, paper, Told}
use Rattle.report.specs.declared.Report.{Report}
use Rattle.writer.specs.Write.{lent_after}

module _ (values lent : List ℕ) where
  pub too_few : length lent < length values → lent ≡ lent_after values lent
  unfolding lent_after
  too_few h = rw (lt-ltb (length lent) (length values) h) refl

  pub all_put : (part : List ℕ) → part ≡ values → length values ≤ length lent → part ++ drop (length values) lent ≡ lent_after values lent
  unfolding lent_after
  all_put part e l =
      let z : 0 + length values ≡ length values = omega arith in
      let s : sets lent 0 values ≡ values ++ drop (0 + length values) lent = sets-eq values lent 0 (omega arith) in
      rw (le-ltb (length lent) (length values) l, e, s, z) refl

-- ---- a report holds its answer

pub report_fits : (p : Paper) (r : Report) → r ≡ report_of p → r.count ≤ length r.values
report_fits p r e = rw e (omega (arith, length-append p.values (replicate (most_values - length p.values) 0)))

report_paper : (p : Paper) → paper (report_of p) ≡ p
report_paper p = λ i.
    record {
      number = p.number;
      place = p.place;
      values = take-append_seam p.values (replicate (most_values - length p.values) 0) i;
    }

pub told_of : (p q : Paper) (r : Report) (number place : ℕ) (out after : List ℕ) → r ≡ report_of p → p ≡ q
    → Told (paper r) number place out after → Told q number place out after
told_of p q r number place out after er e t =
    subst (λ (x : Paper). Told x number place out after) (ap paper er ∙ report_paper p ∙ e) t
