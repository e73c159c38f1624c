-- `compare` meets its contract: what the reader says of each sheet, and the comparison of the two.
use Rattle.std.proofs.Common.{refl}
use Rattle.formula.proofs.ResultLaws.{passed_on}
use Rattle.alike.specs.Alike.{compared, comparison}
use Rattle.alike.specs.Machine.{number_of_sheet, comparison_in}
use Rattle.alike.proofs.compare.Goals as goal

pub returns-in_err-read : goal.returns-in_err-read
unfolding comparison compared comparison_in number_of_sheet
returns-in_err-read c =
    rw (passed_on c.from_residual.result _ c.from_residual.ensures.1, c.in_err-read.ensures.0, c.in_err-read.ensures.1) refl

pub returns-in_err-read-2 : goal.returns-in_err-read-2
unfolding comparison compared comparison_in number_of_sheet
returns-in_err-read-2 c =
    rw (passed_on c.from_residual-in_err-read-2.result _ c.from_residual-in_err-read-2.ensures.1, c.in_err-read-2.ensures.0, c.in_ok-read.ensures, c.in_err-read-2.ensures.1) refl

pub returns : goal.returns
unfolding comparison compared comparison_in
returns c = rw (c.in_ok-read.ensures, c.in_ok-read-2.ensures, c.alike.ensures) refl
