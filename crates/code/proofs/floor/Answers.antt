-- `code::floor` answers by the definition, for every input: the floor as a quotient.
use Rattle.std.proofs.Common.{ap, ◌∙◌}
use Rattle.std.proofs.lemmas.Result.{err_from_is_err_and}
use Rattle.code.specs.Operations.{given, floor_answer}
use Rattle.code.proofs.OperationLaws.{measured_le}
use Rattle.code.proofs.VolumeLaws.{volume_pos}
use Rattle.code.proofs.FloorLaws.{floor_ceil}
use Rattle.code.proofs.floor.Goals as goal

pub returns-in_err-measured : goal.returns-in_err-measured
unfolding floor_answer
returns-in_err-measured c =
    let p = err_from_is_err_and c.from_residual.result c.from_residual.ensures.1 in
    let e = c.in_err-measured.ensures in
    rw (p.1, p.2, e.0, e.1, e.2)

pub power-requires : goal.power-requires
power-requires c = (measured_le _ _ c.in_ok-measured.ensures).0

pub volume_at-requires : goal.volume_at-requires
volume_at-requires c = measured_le _ _ c.in_ok-measured.ensures

pub div_ceil-requires : goal.div_ceil-requires
div_ceil-requires c = rw c.volume_at.ensures (volume_pos _ _)

pub returns : goal.returns
unfolding floor_answer
returns c =
    rw c.in_ok-measured.ensures
    (ap given (c.div_ceil.ensures ∙ rw (c.power.ensures.0, c.volume_at.ensures) (floor_ceil c.args.t c.args.s)))
