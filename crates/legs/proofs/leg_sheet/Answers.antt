-- `leg_sheet` meets its contract: as a run where the clauses are Horn, and balls otherwise.
use mathlib.Core.Path.{sym, ap, ◌∙◌}
use Rattle.decision.specs.Answers.{Decision}
use Rattle.legs.specs.Legs.{decided_leg}
use Rattle.legs.proofs.MachineLaws.{sheet_horn, sheet_balls}
use Rattle.legs.proofs.leg_sheet.Goals as goal

pub returns-then-is_horn : goal.returns-then-is_horn
returns-then-is_horn c =
    let horn = rw (c.clauses.ensures.0, c.clauses.ensures.1) at c.is_horn.ensures in
    c.end_leg.ensures
    ∙ ap (λ (d : Decision). decided_leg d c.args.checkpoint) c.decide_sheet.ensures
    ∙ sheet_horn _ _ _ _ _ (sym horn ∙ c.if-is_horn.true)

pub leg_by_balls-requires : goal.leg_by_balls-requires
leg_by_balls-requires c = let horn = rw (c.clauses.ensures.0, c.clauses.ensures.1) at c.is_horn.ensures in sym horn ∙ c.if-is_horn.false

pub returns : goal.returns
returns c =
    let horn = rw (c.clauses.ensures.0, c.clauses.ensures.1) at c.is_horn.ensures in
    c.leg_by_balls.ensures ∙ sheet_balls _ _ _ _ _ (sym horn ∙ c.if-is_horn.false)
