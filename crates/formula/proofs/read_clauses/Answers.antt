use Rattle.std.proofs.Common.{List, ℕ, ◌/◌, ◌<◌, length, arith}
use Rattle.words.specs.Refusals.{number_of}
use Rattle.formula.specs.Formula.{clause_limit}
use Rattle.formula.specs.Sheet.{words}
use Rattle.formula.specs.Machine.{kind_number}
use Rattle.formula.proofs.SheetLaws.{length_words}
use Rattle.formula.proofs.ResultLaws.{passed_on}
use Rattle.formula.proofs.ClausesLaws.{start, finish, surplus_other, surplus, stop, go_on}
use Rattle.formula.proofs.read_clauses.Goals as goal

-- there is a word yet
inside : (at : ℕ) (part : List ℕ) → at < length part / 4 → at < length (words part)
inside at part h = rw length_words h

pub loop-at-init : goal.loop-at-init
loop-at-init c = start _ _ _ c.requires.size

pub returns-in_default : goal.returns-in_default
unfolding kind_number number_of
returns-in_default c =
    rw c.at.ensures
    (record {
      answer = surplus_other _ _ _ _ _ c.loop-at.invariant (inside _ _ c.loop-at-test.true) c.if-k-eq-CLAUSES.true c.in_default.ensures;
      rows = tt;
    })

pub returns-then-k-eq-CLAUSES : goal.returns-then-k-eq-CLAUSES
unfolding kind_number number_of
returns-then-k-eq-CLAUSES c =
    rw c.at-then-k-eq-CLAUSES.ensures
    (record {
      answer = surplus _ _ _ _ _ c.loop-at.invariant (inside _ _ c.loop-at-test.true) c.if-k-eq-CLAUSES.true _ c.in-Some.ensures;
      rows = tt;
    })

pub returns-in_err-c : goal.returns-in_err-c
returns-in_err-c c =
    let room : c.loop-at.k < clause_limit = omega (arith, c.if-k-eq-CLAUSES.false, c.loop-at.invariant.rows.room) in
    rw (passed_on c.from_residual.result _ c.from_residual.ensures.1)
    (record {
      answer = stop _ _ _ _ _ c.loop-at.invariant (inside _ _ c.loop-at-test.true) room _ _ c.in_err-c.ensures.answer;
      rows = tt;
    })

pub loop-at-preserved : goal.loop-at-preserved
loop-at-preserved c =
    let room : c.loop-at.k < clause_limit = omega (arith, c.if-k-eq-CLAUSES.false, c.loop-at.invariant.rows.room) in
    let left = c.in_ok-c.ensures in
    go_on _ _ _ _ _ c.loop-at.invariant (inside _ _ c.loop-at-test.true) room _ _ left.answer left.size left.short left.kept
    c.read_clause.auto.cells

pub returns : goal.returns
returns c =
    record { answer = finish _ _ _ _ _ c.loop-at.invariant (rw length_words c.loop-at-test.false); rows = c.loop-at.invariant.rows }
