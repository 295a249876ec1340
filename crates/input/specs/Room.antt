-- The room of an input's words. Nobody has to believe this: Read.antt says which words they are.
use Rattle.std.specs.Prelude.{ℕ, ◌-◌, ◌≤◌, ◌≡◌, List, ◌++◌, length, take, replicate}
use Rattle.std.proofs.Common.{sym, ap, ◌∙◌}
use Rattle.input.specs.Read.{kept_words}

-- the room with these words, and zeros behind them
abbrev pub room_with : List ℕ → List ℕ
room_with words = words ++ replicate (kept_words - length words) 0

-- so many words stand first in the room, and zeros behind them
pub record StandFirst (kept : ℕ) (room : List ℕ) : Type 0 where
  pub few : kept ≤ kept_words
  pub there : length (take kept room) ≡ kept
  pub zeros : room ≡ take kept room ++ replicate (kept_words - kept) 0

-- so the words give their room back
pub room_back : (kept : ℕ) (room : List ℕ) → StandFirst kept room → room_with (take kept room) ≡ room
room_back kept room h = ap (λ (n : ℕ). take kept room ++ replicate {A = ℕ} (kept_words - n) 0) h.there ∙ sym h.zeros
