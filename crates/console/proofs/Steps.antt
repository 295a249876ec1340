-- One step more.
use Rattle.std.specs.Prelude.{ℕ, ◌<◌, [], ◌∷◌, ◌++◌, Result, Ok}
use Rattle.std.specs.Fn.{Shared}
use Rattle.std.proofs.lemmas.Fn.{FoldsTo-push}
use Rattle.console.specs.declared.Failed.{Failed}
use Rattle.console.specs.Bytes.{Leads}

pub one_more : {S F : Type 0} (calls : Shared F (S × (ℕ × Unit {0})) (Result S Failed)) (f : F) (start before : S) (byte : ℕ) (after : S)
    → Leads calls f start before → byte < 256 → calls.post f (before, (byte, tt)) (Ok after) → Leads calls f start after
one_more calls f start before byte after led less called = record {
  bytes = led.bytes ++ (byte ∷ []);
  steps = FoldsTo-push _ _ _ _ _ _ led.steps (record { small = less; called = called });
}
