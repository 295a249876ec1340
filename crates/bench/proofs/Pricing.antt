-- The price of a bench.
use mathlib.Core.Path.{◌≡◌, ap, ◌∙◌}
use mathlib.Core.Bool.{true}
use mathlib.Core.List.{[]}
use Prim.Native.Nat.{ℕ}
use Rattle.glue.proofs.Bounds.{glue_none}
use Rattle.soundness.specs.Sound.{glue_on}
use Rattle.soundness.proofs.Soundness.{sound_holds}
use Rattle.bench.specs.Calls.{sound_bench, bindings_on, gives, price_of}
use Rattle.bench.specs.declared.Bench.{Bench}
use Rattle.std.specs.Prelude.{Ok}

-- "The empty bench prices at 0."
pub empty_price : (b : Bench) → sound_bench b ≡ true → bindings_on b ≡ [] → price_of b ≡ gives b (Ok 0)
unfolding price_of glue_on
empty_price b s e =
    let stored = (sound_holds b.tables b.bound b.glue s).count in
    rw s (ap (λ (x : ℕ). gives b (Ok x)) (stored ∙ rw e (glue_none b.tables.width b.tables.prices)))
