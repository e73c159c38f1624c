-- `code::code` answers and writes by the definitions, for every input.
use Rattle.std.proofs.Common.{ap, ◌∙◌}
use Rattle.std.proofs.lemmas.Result.{err_from_is_err_and}
use Rattle.words.specs.Refusals.{number_of}
use Rattle.code.specs.Operations.{given, written}
use Rattle.code.proofs.OperationLaws.{code_bad, code_short, code_fits}
use Rattle.code.proofs.code.Goals as goal

pub returns-in_err-plan : goal.returns-in_err-plan
returns-in_err-plan c =
    let p = err_from_is_err_and c.from_residual.result c.from_residual.ensures.1 in
    let e = c.in_err-plan.ensures in
    let law = code_bad _ _ c.args.table.now e.2 in
    record {
      answer = rw (p.1, p.2, e.0, e.1) law.0;
      cells = law.1;
    }

pub returns-then-table-power : goal.returns-then-table-power
unfolding number_of
returns-then-table-power c =
    let law = code_short _ _ _ c.in_ok-plan.ensures.2 (rw c.power.ensures.0 at c.if-table-power.true) in
    record {
      answer = rw c.at.ensures law.0;
      cells = law.1;
    }

pub returns : goal.returns
unfolding written
returns c =
    let filled = c.fill.ensures in
    let made = c.in_ok-plan.ensures in
    let law = code_fits _ _ _ made.2 (rw c.power.ensures.0 at c.if-table-power.false) in
    record {
      answer = ap given filled.count ∙ rw (made.0, made.1) law.0;
      cells = filled.cells ∙ rw (made.0, made.1) law.1;
    }
