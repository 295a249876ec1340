-- What judge_rule says of a word, by what stands for WIDTH and by whether its target is negated.
use Rattle.std.specs.Prelude.{ℕ, Bool, List}
use Rattle.bits.specs.Bits.{num}
use Rattle.arguments.specs.declared.Widths.{Widths}
use Rattle.arguments.specs.declared.Widths.TheVariants.{At, All}
use Rattle.judge_answers.specs.Lines.{SaysAt, SaysEverywhere}

abbrev pub SaysAsked : Widths → Bool → ℕ → List ℕ → List ℕ → Type 0
SaysAsked (At n) negated w old new = SaysAt w n (num negated) old new
SaysAsked All negated w old new = SaysEverywhere w (num negated) old new
