-- `code::volume` answers by the definition, for every input.
use Rattle.std.proofs.lemmas.Result.{err_from_is_err_and}
use Rattle.code.specs.Operations.{volume_answer}
use Rattle.code.proofs.OperationLaws.{measured_le}
use Rattle.code.proofs.volume.Goals as goal

pub returns-in_err-measured : goal.returns-in_err-measured
unfolding volume_answer
returns-in_err-measured c =
    let p = err_from_is_err_and c.from_residual.result c.from_residual.ensures.1 in
    let e = c.in_err-measured.ensures in
    rw (p.1, p.2, e.0, e.1, e.2)

pub volume_at-requires : goal.volume_at-requires
volume_at-requires c = measured_le _ _ c.in_ok-measured.ensures

pub returns : goal.returns
unfolding volume_answer
returns c = rw (c.volume_at.ensures, c.in_ok-measured.ensures)
