-- `scan::read_words` meets its contract.
use Rattle.std.proofs.Common.{◌≡◌, drop}
use Rattle.grammar.specs.Asked.{Counted}
use Rattle.grammar.specs.Reading.{reading}
use Rattle.scan.proofs.read_words.Given as goal

abbrev pub invariant-loop-place : goal.invariant-loop-place
invariant-loop-place l = Counted l.s l.place × (reading l.file l.s l.place (drop l.place l.words) ≡ reading l.file l.initial.s 0 l.words)
