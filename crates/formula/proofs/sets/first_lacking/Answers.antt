use Rattle.std.proofs.Common.{refl, ap, length, sym, ◌∙◌, arith}
use Rattle.std.proofs.lemmas.List.{length-map}
use Rattle.formula.specs.Formula.{literal_of}
use Rattle.formula.proofs.TableLaws.{held_cons, held_end}
use Rattle.formula.proofs.LackingLaws.{lacking_found, lacking_next, lacking_none}
use Rattle.formula.proofs.sets.first_lacking.Goals as goal

pub loop-i-init : goal.loop-i-init
loop-i-init c = (refl, omega arith)

pub returns-then-not-stands_still : goal.returns-then-not-stands_still
returns-then-not-stands_still c =
    lacking_found _ _ _ c.loop-i.i c.loop-i.invariant.0 (held_cons c.args.a.count _ c.loop-i.i c.loop-i-test.true)
    (rw (← c.clause-clause.ensures.literals) (sym c.stands_still.ensures ∙ c.if-not-stands_still.true))

pub loop-i-preserved : goal.loop-i-preserved
loop-i-preserved c = (
  lacking_next _ _ _ c.loop-i.i c.loop-i.invariant.0 (held_cons c.args.a.count _ c.loop-i.i c.loop-i-test.true)
      (rw (← c.clause-clause.ensures.literals) (sym c.stands_still.ensures ∙ c.if-not-stands_still.false)) _
      (ap length (sym c.clause-clause.ensures.literals) ∙ length-map c.clause-clause.result.now literal_of),
  omega (arith, c.clause-clause.ensures.size.1, c.loop-i.invariant.1),
)

pub returns : goal.returns
returns c = lacking_none _ _ _ c.loop-i.i c.loop-i.invariant.0 (held_end c.args.a.count _ c.loop-i.i c.loop-i-test.false)
