-- `completeness::first_unbound` meets its contract.
use borrow.Author.Rules.{rules}
use mathlib.Core.Bool.{not}
use mathlib.Core.Path.{sym, ◌∙◌}
use Rattle.std.proofs.Common.{tests}
use Rattle.std.proofs.lemmas.Iterator.{YieldsList-from_slice, YieldsList-from_map}
use Rattle.std.proofs.lemmas.Iterator.Adapters.{option_map_id}
use Rattle.std.proofs.lemmas.Iterator.Search.{find_from_yields_List}
use Rattle.words.specs.Field.{source_function}
use Rattle.completeness.specs.Complete.{binds}
use Rattle.completeness.proofs.Searching.{first_found}
use Rattle.completeness.proofs.first_unbound.Goals as goal

pub returns : goal.returns
returns c =
    let a = c.args in
    sym (option_map_id c.find.result)
    ∙ find_from_yields_List (λ f. not (binds a.bindings.now f)) _ _ c.find.result c.find.ensures.ran
    (YieldsList-from_map _ source_function (YieldsList-from_slice a.sources.now cc) c.map.ensures.closure (λ x r q k. search rules))
    (λ x b q k. search (rules, tests))
    ∙ first_found a.sources.now a.bindings.now
