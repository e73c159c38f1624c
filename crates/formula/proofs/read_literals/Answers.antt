use Rattle.std.proofs.Common.{arith}
use Rattle.words.specs.Refusals.{number_of}
use Rattle.formula.proofs.SheetLaws.{length_words}
use Rattle.formula.proofs.ResultLaws.{passed_on}
use Rattle.formula.proofs.LiteralsLaws.{start, finish, torn, stop, go_on}
use Rattle.formula.proofs.read_literals.Goals as goal

pub loop-j-init : goal.loop-j-init
loop-j-init c = rw c.zero-seen.ensures (start _ _ _ _ _ _)

pub returns-then-count-i : goal.returns-then-count-i
unfolding number_of
returns-then-count-i c =
    let inv = c.loop-j.invariant in
    rw c.at.ensures (record { answer = torn _ _ _ _ _ _ _ _ _ inv c.loop-j-test.true (rw length_words (omega arith)); kept = inv.kept })

pub returns-in_err-literal : goal.returns-in_err-literal
returns-in_err-literal c =
    let inv = c.loop-j.invariant in
    rw (passed_on c.from_residual.result _ c.from_residual.ensures.1)
    (record {
      answer = stop _ _ _ _ _ _ _ _ _ inv c.loop-j-test.true (rw length_words (omega arith)) _ _ (c.in_err-literal.ensures _ inv.named);
      kept = inv.kept;
    })

pub loop-j-preserved : goal.loop-j-preserved
loop-j-preserved c =
    let inv = c.loop-j.invariant in
    rw c.toggled-seen.ensures
    (go_on _ _ _ _ _ _ _ _ _ inv c.loop-j-test.true (rw length_words (omega arith)) _ _
    (c.in_ok-literal.ensures _ inv.named) c.bit.ensures.0 (omega arith))

pub returns : goal.returns
returns c = let inv = c.loop-j.invariant in record { answer = finish _ _ _ _ _ _ _ _ _ inv c.loop-j-test.false; kept = inv.kept }
