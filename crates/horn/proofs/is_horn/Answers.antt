use mathlib.Core.Path.{sym, ◌∙◌}
use native.Mathlib.Omega.{arith}
use Rattle.words.proofs.ListLaws.{every_fails, every_next, every_holds}
use Rattle.formula.proofs.TableLaws.{held_cons, held_end}
use Rattle.horn.specs.Horn.{is_horn}
use Rattle.horn.proofs.is_horn.Goals as goal

pub returns-then-not-at_most_one : goal.returns-then-not-at_most_one
unfolding is_horn
returns-then-not-at_most_one c =
    let few = rw c.clause.ensures.literals at c.at_most_one.ensures in
    every_fails _ _ c.loop-i.i c.loop-i.invariant (held_cons c.args.clauses.count _ c.loop-i.i (omega arith))
    (sym few ∙ c.if-not-at_most_one.true)

pub loop-i-preserved : goal.loop-i-preserved
unfolding is_horn
loop-i-preserved c =
    let few = rw c.clause.ensures.literals at c.at_most_one.ensures in
    every_next _ _ c.loop-i.i c.loop-i.invariant (held_cons c.args.clauses.count _ c.loop-i.i (omega arith))
    (sym few ∙ c.if-not-at_most_one.false)

pub returns : goal.returns
unfolding is_horn
returns c =
    every_holds _ _ c.loop-i.i c.loop-i.invariant (held_end c.args.clauses.count _ c.loop-i.i (omega arith))
