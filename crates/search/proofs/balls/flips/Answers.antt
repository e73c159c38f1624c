-- `flips` meets its contract: a clause with both numbers 0 at a centre is dead, at every centre.
use mathlib.Core.Path.{refl}
use native.Mathlib.Omega.{arith}
use Rattle.search.proofs.BallsLaws.{reaching_all, reaching_none}
use Rattle.search.proofs.balls.flips.Goals as goal

pub returns-in-None : goal.returns-in-None
returns-in-None c cells ready shown =
    reaching_all _ cells _ _ (c.in-None.ensures.by_index cells _ _ ready.occurs shown.met shown.«open») refl

pub returns-in-Some : goal.returns-in-Some
returns-in-Some c cells ready shown =
    let (inside, found) = c.in-Some.ensures.by_index cells _ _ ready.occurs shown.met shown.«open» in
    reaching_none _ cells _ _ found (λ e. omega arith)
