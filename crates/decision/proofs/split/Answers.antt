-- `split` meets its contract: the sheet's refusal, and otherwise the answer on what was read.
use mathlib.Core.Path.{◌∙◌}
use Rattle.formula.specs.Reading.{formula_of}
use Rattle.formula.proofs.ResultLaws.{passed_on}
use Rattle.decision.specs.MachineLaws.{split_declined, split_judged_lem}
use Rattle.decision.proofs.split.Goals as goal

pub returns-in_err-read : goal.returns-in_err-read
returns-in_err-read c =
    rw (passed_on c.from_residual.result _ c.from_residual.ensures.1) (split_declined _ _ _ _ c.in_err-read.ensures)

pub returns : goal.returns
returns c =
    let s = c.read.new.self in
    c.decided.ensures
    ∙ split_judged_lem _ _ (formula_of s) c.in_ok-read.ensures _ c.split-found.ensures
