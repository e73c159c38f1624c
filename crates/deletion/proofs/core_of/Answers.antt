-- `core_of` meets its contract: the numbers kept go to the list, or a run is spent.
use mathlib.Core.Path.{sym}
use native.Mathlib.Omega.{arith}
use Rattle.formula.specs.Reading.{formula_of}
use Rattle.decision.specs.Machine.{verdict_in, decision_in}
use Rattle.deletion.proofs.MachineLaws.{kept_leaves, ended_leaves}
use Rattle.deletion.proofs.core_of.Goals as goal

pub store-count-requires : goal.store-count-requires
store-count-requires c = omega (arith, c.in-Ok.ensures.few, c.requires.method_value.1)

pub returns-in-Ok : goal.returns-in-Ok
unfolding decision_in verdict_in
returns-in-Ok c =
    kept_leaves _ (formula_of c.args.sheet.now) _ (sym c.in-Ok.ensures.sifted) _ _ c.requires.method_value.0 _ c.store-count.ensures.count.0 _
    c.store-count.ensures.cells

pub returns-in-Err : goal.returns-in-Err
returns-in-Err c = ended_leaves _ _ _ (sym c.in-Err.ensures.sifted)
