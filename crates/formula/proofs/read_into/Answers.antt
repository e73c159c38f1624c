-- `read_into` is `parse`, and leaves the clauses in the table: each way out is a law of WholeLaws.antt.
use Rattle.std.proofs.Common.{[]}
use Rattle.words.specs.Refusals.{number_of}
use Rattle.formula.proofs.ResultLaws.{passed_on}
use Rattle.formula.proofs.WholeLaws.{too_long, uneven, too_short, whole, header_stop, clauses_stop, sheet_read, table_read}
use Rattle.formula.proofs.read_into.Goals as goal

pub returns-then-sheet-gt-BYTE_LIMIT : goal.returns-then-sheet-gt-BYTE_LIMIT
unfolding number_of
returns-then-sheet-gt-BYTE_LIMIT c =
    rw c.at.ensures (record { answer = too_long _ c.if-sheet-gt-BYTE_LIMIT.true; small = tt; table = tt })

pub returns-then-sheet-ne0 : goal.returns-then-sheet-ne0
unfolding number_of
returns-then-sheet-ne0 c =
    rw c.at-then-sheet-ne0.ensures (record { answer = uneven _ c.if-sheet-gt-BYTE_LIMIT.false c.if-sheet-ne0.true; small = tt; table = tt })

pub returns-then-sheet-lt12 : goal.returns-then-sheet-lt12
unfolding number_of
returns-then-sheet-lt12 c =
    rw c.at-then-sheet-lt12.ensures
    (record {
      answer = too_short _ c.if-sheet-gt-BYTE_LIMIT.false c.if-sheet-ne0.false c.if-sheet-lt12.true;
      small = tt;
      table = tt;
    })

pub returns-in_err-header : goal.returns-in_err-header
returns-in_err-header c =
    let opened = whole _ c.if-sheet-gt-BYTE_LIMIT.false c.if-sheet-ne0.false c.if-sheet-lt12.false in
    rw (passed_on c.from_residual.result _ c.from_residual.ensures.1)
    (record { answer = header_stop _ opened _ _ (c.in_err-header.ensures.header []); small = tt; table = tt })

pub returns-in_err-header-2 : goal.returns-in_err-header-2
returns-in_err-header-2 c =
    let opened = whole _ c.if-sheet-gt-BYTE_LIMIT.false c.if-sheet-ne0.false c.if-sheet-lt12.false in
    rw (passed_on c.from_residual-in_err-header-2.result _ c.from_residual-in_err-header-2.ensures.1)
    (record {
      answer = clauses_stop _ opened _ (c.in_ok-header.ensures.header []) _ _ c.in_err-header-2.ensures.answer;
      small = tt;
      table = tt;
    })

pub returns : goal.returns
returns c =
    let opened = whole _ c.if-sheet-gt-BYTE_LIMIT.false c.if-sheet-ne0.false c.if-sheet-lt12.false in
    let header = c.in_ok-header.ensures.header [] in
    let left = c.in_ok-header-2.ensures in
    record {
      answer = sheet_read _ opened _ header _ left.answer;
      small = c.in_ok-header.ensures.small;
      table = table_read _ opened _ header _ _ left.answer left.rows;
    }
