-- How the code finds the glue that a rule makes. Nobody has to believe this: it is the glue of the bindings so far and the rule.
use Rattle.std.specs.Prelude.{ℕ}
use Rattle.std.specs.Int.Bits.{bit_or}
use Rattle.words.specs.declared.Prices.{Prices}
use Rattle.usage.specs.Sets.{usage_of}
use Rattle.tally.specs.Parts.{set_count}

-- the glue that a rule makes beside bindings that use a set
abbrev pub besides : ℕ → Prices → ℕ → ℕ → ℕ
besides n prices used w = set_count n prices (bit_or used (usage_of w))
