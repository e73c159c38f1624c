-- `accepted` meets its contract: the plan's refusal first, then the sheet's and that of a short list, and otherwise what deletion comes to.
use Rattle.formula.specs.Reading.{formula_of}
use Rattle.formula.proofs.ResultLaws.{passed_on}
use Rattle.formula.proofs.TableLaws.{length_held}
use Rattle.words.specs.Refusals.{number_of}
use Rattle.deletion.proofs.MachineLaws.{core_bad, core_declined, core_short, core_judged}
use Rattle.deletion.proofs.accepted.Goals as goal

pub returns-in_err-plan : goal.returns-in_err-plan
returns-in_err-plan c =
    let (number, place, bad) = c.in_err-plan.ensures in
    rw (passed_on c.from_residual.result _ c.from_residual.ensures.1, number, place) (core_bad _ _ _ _ _ bad)

pub returns-in_err-read : goal.returns-in_err-read
returns-in_err-read c =
    let r = c.from_residual-in_err-read in
    rw (passed_on r.result _ r.ensures.1) (core_declined _ _ _ _ _ c.in_ok-plan.ensures.2 _ _ c.in_err-read.ensures)

pub returns-then-list-sheet : goal.returns-then-list-sheet
unfolding number_of
returns-then-list-sheet c =
    let s = c.read.new.self in
    rw c.at.ensures
    (core_short _ _ _ _ _ c.in_ok-plan.ensures.2 (formula_of s) c.in_ok-read.ensures (rw (length_held s.count s.cells) c.if-list-sheet.true))

pub returns : goal.returns
returns c =
    let s = c.read.new.self in
    let (size, radius, good) = c.in_ok-plan.ensures in
    core_judged _ _ _ _ _ good (formula_of s) c.in_ok-read.ensures (rw (length_held s.count s.cells) c.if-list-sheet.false) _ _ _ size _ radius
    c.core_sheet.ensures
