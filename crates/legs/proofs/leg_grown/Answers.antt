-- `leg_grown` meets its contract: the plan's refusal first, then the old sheet's, then the longer one's, and otherwise the leg on that one.
use mathlib.Core.Path.{refl, ◌∙◌}
use Rattle.formula.specs.Reading.{formula_of}
use Rattle.formula.proofs.ResultLaws.{passed_on}
use Rattle.search.specs.Run.{plan}
use Rattle.legs.specs.Legs.{grown}
use Rattle.legs.specs.Machine.{sheet_number}
use Rattle.legs.proofs.MachineLaws.{leg_bad, old_declined, sheet_declined, leg_taken}
use Rattle.legs.proofs.leg_grown.Goals as goal

pub returns-in_err-plan : goal.returns-in_err-plan
unfolding sheet_number
returns-in_err-plan c =
    let (same, number, place, bad) = c.in_err-plan.ensures in
    rw (passed_on c.from_residual.result _ c.from_residual.ensures.1, same, number, place) (leg_bad _ _ bad)

pub returns-in_err-read : goal.returns-in_err-read
unfolding sheet_number
returns-in_err-read c =
    let r = c.from_residual-in_err-read in
    let (same, declined) = c.in_err-read.ensures in
    rw (passed_on r.result _ r.ensures.1, same) (old_declined _ _ c.in_ok-plan.ensures.2 _ _ declined)

pub returns-in_err-read-2 : goal.returns-in_err-read-2
unfolding sheet_number
returns-in_err-read-2 c =
    let r = c.from_residual-in_err-read-2 in
    let (same, declined) = c.in_err-read-2.ensures in
    rw (passed_on r.result _ r.ensures.1, same)
    (sheet_declined _ _ c.in_ok-plan.ensures.2 (formula_of c.read.new.sheet) c.in_ok-read.ensures _ _ declined)

pub returns : goal.returns
unfolding sheet_number
returns c =
    let a = c.args in
    let (size, radius, good) = c.in_ok-plan.ensures in
    let lacking = rw (c.clauses.ensures.0, c.clauses.ensures.1, c.clauses-2.ensures.0, c.clauses-2.ensures.1) at c.first_lacking.ensures in
    c.leg_sheet.ensures
    ∙ leg_taken (grown (plan a.size a.radius) a.budget a.bytes.now a.longer.now) a.checkpoint good (formula_of c.read.new.sheet) c.in_ok-read.ensures
    (formula_of c.read-2.new.sheet) c.in_ok-read-2.ensures _ refl _ lacking _ size _ radius
