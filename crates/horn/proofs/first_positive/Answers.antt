use mathlib.Core.Path.{refl, sym, ◌∙◌}
use native.Mathlib.Omega.{arith}
use Rattle.horn.proofs.MachineLaws.{positives_found, positives_next, positives_none}
use Rattle.horn.proofs.first_positive.Goals as goal

pub loop-word-init : goal.loop-word-init
loop-word-init c = refl

pub invariant_of-literal : goal.invariant_of-literal
invariant_of-literal c = record { known = c.requires c.loop-word.word-index (omega arith) }

pub returns-then-is_positive : goal.returns-then-is_positive
returns-then-is_positive c =
    positives_found c.args.clause.now c.loop-word.word-index c.loop-word.invariant (omega arith) (sym c.is_positive.ensures ∙ c.if-is_positive.true)

pub loop-word-preserved : goal.loop-word-preserved
loop-word-preserved c =
    positives_next c.args.clause.now c.loop-word.word-index c.loop-word.invariant (omega arith) (sym c.is_positive.ensures ∙ c.if-is_positive.false)

pub returns : goal.returns
returns c = positives_none c.args.clause.now c.loop-word.word-index c.loop-word.invariant (omega arith)
