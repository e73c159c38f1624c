-- `accepted` meets its contract: the plan's refusal first, then the sheet's, and otherwise the decision on what was read.
use mathlib.Core.Path.{ap₂, ◌∙◌}
use Rattle.formula.specs.Reading.{formula_of}
use Rattle.formula.proofs.ResultLaws.{passed_on}
use Rattle.decision.specs.Answers.{refusal}
use Rattle.decision.specs.MachineLaws.{decide_bad, decide_declined, decide_judged}
use Rattle.decision.proofs.accepted.Goals as goal

pub returns-in_err-plan : goal.returns-in_err-plan
returns-in_err-plan c =
    let (number, place, bad) = c.in_err-plan.ensures in
    rw (passed_on c.from_residual.result _ c.from_residual.ensures.1) (ap₂ refusal number place ∙ decide_bad _ _ _ _ bad)

pub returns-in_err-read : goal.returns-in_err-read
returns-in_err-read c =
    let r = c.from_residual-in_err-read in
    rw (passed_on r.result _ r.ensures.1) (decide_declined _ _ _ _ c.in_ok-plan.ensures.2 _ _ c.in_err-read.ensures)

pub returns : goal.returns
returns c =
    let (size, radius, good) = c.in_ok-plan.ensures in
    c.decide_sheet.ensures ∙ decide_judged _ _ _ _ good (formula_of c.read.new.self) c.in_ok-read.ensures _ size _ radius
