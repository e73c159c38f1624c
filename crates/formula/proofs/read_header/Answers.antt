-- `read_header` is `take_header`: each way out is a law of WholeLaws.antt.
use Rattle.formula.specs.Machine.{kind_number, held}
use Rattle.words.specs.Lists.{span}
use Rattle.formula.proofs.ResultLaws.{passed_on}
use Rattle.formula.proofs.WholeLaws.{stop_first, stop_second, stop_third, header_read}
use Rattle.formula.proofs.read_header.Goals as goal

pub returns-in_err-high-clause-header : goal.returns-in_err-high-clause-header
unfolding kind_number
returns-in_err-high-clause-header c cells =
    rw (passed_on c.from_residual.result _ c.from_residual.ensures.1) (stop_first _ _ _ c.in_err-high.ensures.number)

pub returns-in_err-low-clause-header : goal.returns-in_err-low-clause-header
unfolding kind_number
returns-in_err-low-clause-header c cells =
    rw (passed_on c.from_residual-in_err-low.result _ c.from_residual-in_err-low.ensures.1)
    (stop_second _ _ c.in_ok-high.ensures.number _ _ c.in_err-low.ensures.number)

pub returns-in_err-n-clause-header : goal.returns-in_err-n-clause-header
unfolding kind_number
returns-in_err-n-clause-header c cells =
    rw (passed_on c.from_residual-in_err-n.result _ c.from_residual-in_err-n.ensures.1)
    (stop_third _ _ c.in_ok-high.ensures.number _ c.in_ok-low.ensures.number _ _ c.in_err-n.ensures.number)

pub returns-clause-header : goal.returns-clause-header
unfolding kind_number held span
returns-clause-header c cells =
    header_read _ _ c.in_ok-high.ensures.number _ c.in_ok-low.ensures.number _ c.in_ok-n.ensures.number
