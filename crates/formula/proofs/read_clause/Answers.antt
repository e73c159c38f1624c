-- `read_clause` is `take_clause`, and leaves the clause in its row (ClausesLaws.antt).
use Rattle.std.proofs.Common.{◌*◌, ◌<◌, length, refl, arith}
use Rattle.formula.specs.Machine.{row_cells, kind_number}
use Rattle.formula.proofs.ResultLaws.{passed_on}
use Rattle.formula.proofs.ClausesLaws.{clause_stop, clause_is, row_length_is, row_clause_is, rows_kept}
use Rattle.formula.proofs.read_clause.Goals as goal

pub returns-in_err-c : goal.returns-in_err-c
unfolding kind_number
returns-in_err-c c =
    rw (passed_on c.from_residual.result _ c.from_residual.ensures.1)
    (record { answer = clause_stop _ _ _ _ _ _ c.in_err-c.ensures.number; size = tt; short = tt; kept = refl })

pub returns-in_err-read_literals : goal.returns-in_err-read_literals
unfolding kind_number
returns-in_err-read_literals c =
    let left = c.in_err-read_literals.ensures in
    rw (passed_on c.from_residual-in_err-read_literals.result _ c.from_residual-in_err-read_literals.ensures.1)
    (record {
      answer = clause_is _ _ _ _ _ c.in_ok-c.ensures.number _ left.answer;
      size = tt;
      short = tt;
      kept = rows_kept _ _ _ _ (omega (arith, c.requires)) left.kept;
    })

pub returns : goal.returns
unfolding kind_number
returns c =
    let left = c.in_ok-read_literals.ensures in
    let room : row_cells * c.args.k < length c.args.cells.now = omega (arith, c.requires) in
    record {
      answer =
          rw (row_clause_is _ _ _ _ room left.kept)
          (clause_is _ _ _ _ _ c.in_ok-c.ensures.number _ left.answer);
      size = row_length_is _ _ _ _ room left.kept;
      short = c.in_ok-c.ensures.within;
      kept = rows_kept _ _ _ _ room left.kept;
    }
