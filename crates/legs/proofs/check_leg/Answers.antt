-- `check_leg` meets its contract, check by check.
use mathlib.Core.Path.{◌∙◌}
use Rattle.formula.proofs.ResultLaws.{passed_on}
use Rattle.words.specs.Refusals.{number_of}
use Rattle.formula.specs.Reading.{formula_of}
use Rattle.legs.specs.Legs.{checks}
use Rattle.legs.specs.Machine.{sheet_number}
use Rattle.legs.proofs.MachineLaws.{stops, goes_on, same_header}
use Rattle.legs.proofs.check_leg.Goals as goal

pub returns-in_err-decline_when : goal.returns-in_err-decline_when
unfolding checks sheet_number number_of
returns-in_err-decline_when c =
    rw (passed_on c.from_residual.result _ c.from_residual.ensures.1)
    (stops _ _ _ _ _ c.in_err-decline_when.ensures)

pub returns-in_err-decline_when-2 : goal.returns-in_err-decline_when-2
unfolding checks sheet_number number_of
returns-in_err-decline_when-2 c =
    rw (passed_on c.from_residual-in_err-decline_when-2.result _ c.from_residual-in_err-decline_when-2.ensures.1, ← c.of_plan.ensures)
    (goes_on _ _ _ c.in_ok-decline_when.ensures (stops _ _ _ _ _ c.in_err-decline_when-2.ensures))

pub returns-in_err-decline_when-3 : goal.returns-in_err-decline_when-3
unfolding checks sheet_number number_of
returns-in_err-decline_when-3 c =
    rw (passed_on c.from_residual-in_err-decline_when-3.result _ c.from_residual-in_err-decline_when-3.ensures.1, ← c.of_plan.ensures, ← c.of_batch-old.ensures)
    (goes_on _ _ _ c.in_ok-decline_when.ensures (goes_on _ _ _ c.in_ok-decline_when-2.ensures (stops _ _ _ _ _ c.in_err-decline_when-3.ensures)))

pub returns-in_err-decline_when-4 : goal.returns-in_err-decline_when-4
unfolding checks sheet_number number_of
returns-in_err-decline_when-4 c =
    rw (passed_on c.from_residual-in_err-decline_when-4.result _ c.from_residual-in_err-decline_when-4.ensures.1, ← c.of_plan.ensures, ← c.of_batch-old.ensures, ← (c.of_batch-own.ensures ∙ same_header (formula_of c.args.sheet.now) _))
    (goes_on _ _ _ c.in_ok-decline_when.ensures (goes_on _ _ _ c.in_ok-decline_when-2.ensures (goes_on _ _ _ c.in_ok-decline_when-3.ensures (stops _ _ _ _ _ c.in_err-decline_when-4.ensures))))

pub returns-in_err-decline_when-5 : goal.returns-in_err-decline_when-5
unfolding checks sheet_number number_of
returns-in_err-decline_when-5 c =
    rw (passed_on c.from_residual-in_err-decline_when-5.result _ c.from_residual-in_err-decline_when-5.ensures.1, ← c.of_plan.ensures, ← c.of_batch-old.ensures, ← (c.of_batch-own.ensures ∙ same_header (formula_of c.args.sheet.now) _))
    (goes_on _ _ _ c.in_ok-decline_when.ensures (goes_on _ _ _ c.in_ok-decline_when-2.ensures (goes_on _ _ _ c.in_ok-decline_when-3.ensures (goes_on _ _ _ c.in_ok-decline_when-4.ensures (stops _ _ _ _ _ c.in_err-decline_when-5.ensures)))))

pub returns : goal.returns
unfolding checks sheet_number number_of
returns c =
    rw (← c.of_plan.ensures, ← c.of_batch-old.ensures, ← (c.of_batch-own.ensures ∙ same_header (formula_of c.args.sheet.now) _))
    (goes_on _ _ _ c.in_ok-decline_when.ensures (goes_on _ _ _ c.in_ok-decline_when-2.ensures (goes_on _ _ _ c.in_ok-decline_when-3.ensures (goes_on _ _ _ c.in_ok-decline_when-4.ensures (goes_on _ _ _ c.in_ok-decline_when-5.ensures (c.all_kept.ensures))))))
