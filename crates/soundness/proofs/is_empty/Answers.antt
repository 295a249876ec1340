-- `soundness::is_empty` meets its contract.
use borrow.Author.Rules.{rules}
use lib.Dec.{eqb}
use mathlib.Core.Path.{◌∙◌}
use Rattle.std.proofs.Common.{tests}
use Rattle.std.proofs.lemmas.Iterator.{YieldsList-from_slice}
use Rattle.std.proofs.lemmas.Iterator.Search.{all_from_yields_List}
use Rattle.soundness.proofs.Soundness.{all_empty}
use Rattle.soundness.proofs.is_empty.Goals as goal

pub returns : goal.returns
returns c =
    all_from_yields_List (λ w. eqb w 0) _ _ _ c.all.ensures.ran (YieldsList-from_slice c.args.entries.now cc) (λ x b q k. search (rules, tests))
    ∙ all_empty c.args.entries.now
