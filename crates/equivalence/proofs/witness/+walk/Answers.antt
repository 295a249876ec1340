-- `equivalence::witness::walk` meets its contract: the step says what holds in each arm.
use Rattle.std.proofs.Common.{arith}
use Rattle.equivalence.proofs.Walks.{ends_there, on_from, fits_above, goes_on}
use Rattle.equivalence.proofs.witness.+walk.Goals as goal

pub returns-in-None : goal.returns-in-None
returns-in-None t c = search ends_there

pub run_below-requires-in-Some : goal.run_below-requires-in-Some
run_below-requires-in-Some t c =
    let step = c.step_from-step in
    let on = on_from _ _ _ _ _ step.result 0 0 step.ensures c.in-Some.m c.in-Some.is in
    let fits = fits_above _ _ _ _ _ step.result 0 0 step.ensures c.in-Some.m c.in-Some.is c.requires.places in
    (step.ensures.0, on.0, omega (arith, on.1, c.requires.places), fits _ c.walk.ensures.left_fits, fits _ c.walk.ensures.right_fits)

pub returns-in-Some : goal.returns-in-Some
returns-in-Some t c =
    let step = c.step_from-step in
    goes_on _ _ _ _ _ step.result _ _ step.ensures c.in-Some.m c.in-Some.is _ _ c.walk.ensures c.run_below-in-Some.ensures.0 c.run_below-in-Some.ensures.1
