-- The entries of a bench: where a bind puts its word, and which unbound source a refused finish names.
use mathlib.Core.Path.{◌≡◌, refl, ap, ◌∙◌}
use mathlib.Core.Bool.{Bool, true, false, false≢true}
use mathlib.Core.List.{List, [], ◌∷◌}
use Prim.Native.Nat.{ℕ, zero, suc, ◌≤◌, ◌<◌}
use native.Mathlib.Decide.{dec_lt}
use native.Mathlib.Omega.{arith}
use lib.Dec.{eqb}
use lib.ListN.{length, get_or, length-set}
use lib.Seq.{get_or-set_same, get_or-set_other}
use borrow.Author.Tests.{eqb-true, eqb-false}
use Rattle.std.specs.Prelude.{if◌then◌else◌, is_some, unwrap_or, Option, None, Some}
use Rattle.std.proofs.lemmas.List.Sums.{passes_at_first}
use Rattle.words.specs.Field.{content_of, source_function}
use Rattle.reader.specs.Starts.{sources_start}
use Rattle.reader.specs.Job.{WellFormedJob}
use Rattle.reader.specs.declared.Job.{Job}
use Rattle.recipe.specs.Fields.{source_of}
use Rattle.wellformed.proofs.JobWords.{well_formed}
use Rattle.soundness.specs.Sound.{sources_on}
use Rattle.soundness.proofs.Soundness.{sound_sources}
use Rattle.entries.specs.Entries.{first_empty}
use Rattle.entries.proofs.Searching.{place_of}
use Rattle.bench.specs.Calls.{sound_bench, unbound_on}
use Rattle.bench.specs.Shape.{Shaped}
use Rattle.bench.specs.declared.Bench.{Bench}
use Rattle.bench.proofs.Shapes.{sources_taken}
use Rattle.bench.proofs.Binds.{place_for, tables_entry}
use Rattle.demands.specs.Mapped.{source_at}
use Rattle.demands.specs.Benches.{BenchOf, function_on, Adds, LowestUnbound}
use Rattle.demands.proofs.Parts.{rises, rises_to, source_at_lem}
use Rattle.demands.proofs.Allowed.{Allowed, bound_on, nothing-there}
use Rattle.demands.proofs.Benches.{same_sources}
use Rattle.demands.proofs.OwnJob.{of_own_job}

-- ---- what a bind adds

-- a place in the table is that of the source which has the function
pub place_source : (ss : List ℕ) (f : ℕ) → place_of ss f < length ss → source_function (get_or ss (place_of ss f) 0) ≡ f
place_source ss f l =
    eqb-true (source_function (get_or ss (place_of ss f) 0)) f (passes_at_first (λ s. eqb (source_function s) f) ss 0 l)

pub adds : (b : Bench) → Shaped b → (w : ℕ) → Allowed b w → Adds b w (bound_on b w)
adds b h w a =
    let few = sound_sources b.tables b.bound b.glue a.unrefused.sound in
    let there = tables_entry b w a.unrefused.there in
    let size = sources_taken b h a.unrefused.sound in
    record {
      entry = place_for b (source_of w);
      within = omega arith;
      its_source = place_source (sources_on b.tables) (source_of w) there;
      was_empty = nothing-there b w a.unrefused;
      holds_it = get_or-set_same b.bound (place_for b (source_of w)) w 0 (omega (arith, h.bound_entries));
      others_same = λ k other. get_or-set_other b.bound (place_for b (source_of w)) k w 0 other;
      entries_same = length-set b.bound (place_for b (source_of w)) w;
      tables_same = refl;
      count = refl;
    }

-- ---- the first source with nothing bound

none-some : {f : ℕ} → ◌≡◌ {A = Option ℕ} None (Some f) → ⊥
none-some e = absurd (false≢true (ap is_some e))

record FirstEmpty (ss bs : List ℕ) (f : ℕ) : Type 0 where
  at : ℕ
  within : at < length ss
  empty : get_or bs at 0 ≡ 0
  is_first : source_function (get_or ss at 0) ≡ f
  before : (i : ℕ) → i < at → get_or bs i 0 ≡ 0 → ⊥

first_empty_lem : (ss bs : List ℕ) (f : ℕ) → first_empty ss bs ≡ Some f → FirstEmpty ss bs f
unfolding first_empty
first_empty_lem [] bs f some = absurd (none-some some)
first_empty_lem (s ∷ ss) [] f some = absurd (none-some some)
first_empty_lem (s ∷ ss) (w ∷ bs) f some = go (eqb w 0) refl (first_empty_lem ss bs f) some
  where
    go : (b : Bool) → eqb w 0 ≡ b → (first_empty ss bs ≡ Some f → FirstEmpty ss bs f)
        → (if b then Some (source_function s) else first_empty ss bs) ≡ Some f → FirstEmpty (s ∷ ss) (w ∷ bs) f
    go true e later some =
        record {
          at = 0;
          within = omega arith;
          empty = eqb-true w 0 e;
          is_first = ap (λ (x : Option ℕ). unwrap_or x 0) some;
          before = λ i h. absurd (omega arith);
        }
    go false e later some =
        let t = later some in
        record {
          at = suc t.at;
          within = omega (arith, t.within);
          empty = t.empty;
          is_first = t.is_first;
          before = earlier t;
        }
      where
        earlier : (t : FirstEmpty ss bs f) (i : ℕ) → i < suc t.at → get_or (w ∷ bs) i 0 ≡ 0 → ⊥
        earlier t zero h z = eqb-false w 0 e z
        earlier t (suc i) h z = t.before i (omega arith) z

-- the sources of a sound bench rise
module _ (ws : List ℕ) (job : Job) (e : WellFormedJob ws job) (b : Bench) (o : BenchOf ws job b) where
  source_count : b.tables.nsources ≡ job.sources
  source_count = ap (λ (x : Bench). x.tables.nsources) o.as_opened

  function_at : (k : ℕ) → k < b.tables.nsources → function_on b k ≡ source_at ws k
  function_at k h =
      ap (λ (x : Bench). function_on x k) o.as_opened
      ∙ ap (λ (l : List ℕ). source_function (get_or l k 0)) (same_sources ws job e)
      ∙ source_at_lem ws job k (omega (arith, source_count))

  pub sources_apart : (i k : ℕ) → i < k → k < b.tables.nsources → function_on b i ≡ function_on b k → ⊥
  sources_apart i k h l same =
      let n = source_count in
      let r = rises ws sources_start job.sources content_of (well_formed ws job e).sources_rise i k h (omega arith) in
      omega (arith, same, function_at i (omega arith), function_at k l)

  pub sources_rise : (i k : ℕ) → i ≤ k → k < b.tables.nsources → function_on b i ≤ function_on b k
  sources_rise i k h l =
      let n = source_count in
      let r = rises_to ws sources_start job.sources content_of (well_formed ws job e).sources_rise i k h (omega arith) in
      omega (arith, function_at i (omega arith), function_at k l)

pub lowest_unbound : (b : Bench) → Shaped b → sound_bench b ≡ true → (first : ℕ) → unbound_on b ≡ Some first → LowestUnbound b first
lowest_unbound b h s first some =
    let j = of_own_job b h s in
    let f = first_empty_lem (sources_on b.tables) b.bound first some in
    let size = sources_taken b h s in
    record {
      index = f.at;
      within = omega (arith, f.within);
      unbound = f.empty;
      is_place = f.is_first;
      lowest =
          λ k l none.
          elim (dec_lt k f.at) [
            | yes g ↦ absurd (f.before k g none)
            | no g ↦ sources_rise _ j.0 j.1.0 b j.1.1 f.at k (omega arith) l
          ];
    }
