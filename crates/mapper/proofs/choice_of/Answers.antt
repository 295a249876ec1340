-- `mapper::choice_of` meets its contract.
use Prim.Native.Nat.{◌≤◌}
use native.Mathlib.Omega.{arith}
use Rattle.sequence.specs.Limits.{most_rules}
use Rattle.book.specs.Book.{book}
use Rattle.table.specs.Parts.{terms_held}
use Rattle.mapper.proofs.Answering.{sources_few, rules_few, book-asked, no_book, kept_choice}
use Rattle.mapper.proofs.choice_of.Goals as goal

book-few : 256 ≤ most_rules
book-few = omega arith

none-few : 0 ≤ most_rules
none-few = omega arith

pub choose-requires : goal.choose-requires
choose-requires c = (sources_few _ _ c.args.read.now.well_formed (terms_held c.terms-terms.result) _ c.terms-terms.ensures c.rules-rules.ensures, search (rules_few, book-few))

pub returns-then-read : goal.returns-then-read
unfolding book
returns-then-read c = search (kept_choice, book-asked)

pub choose-requires-2 : goal.choose-requires-2
choose-requires-2 c = (sources_few _ _ c.args.read.now.well_formed (terms_held c.terms-terms.result) _ c.terms-terms.ensures c.rules-rules.ensures, search (rules_few, none-few))

pub returns : goal.returns
returns c = search (kept_choice, no_book)
