-- What is said of a state that calls over the bytes of standard input made. Which bytes come is the system's choice.
use Rattle.std.specs.Prelude.{ℕ, ◌<◌, List, Result, Ok}
use Rattle.std.specs.List.{FoldsTo}
use Rattle.std.specs.Fn.{Shared}
use Rattle.console.specs.declared.Failed.{Failed}

-- one call, at a byte, takes a state to another
pub record Step {S F : Type 0} (calls : Shared F (S × (ℕ × Unit {0})) (Result S Failed)) (f : F) (before : S) (byte : ℕ) (after : S) : Type 0 where
  pub small : byte < 256
  pub called : calls.post f (before, (byte, tt)) (Ok after)

-- calls at some bytes, each with the state that the call before made, lead from a state to another
pub record Leads {S F : Type 0} (calls : Shared F (S × (ℕ × Unit {0})) (Result S Failed)) (f : F) (start last : S) : Type 0 where
  pub bytes : List ℕ
  pub steps : FoldsTo (Step calls f) start bytes last
