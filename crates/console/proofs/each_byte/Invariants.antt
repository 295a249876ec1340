-- `console::each_byte` meets its contract.
use Rattle.console.specs.Bytes.{Leads}
use Rattle.console.proofs.each_byte.Given as goal

abbrev pub invariant-loop : goal.invariant-loop
invariant-loop g l = Leads g.F.Fn l.step l.fn.start l.state
