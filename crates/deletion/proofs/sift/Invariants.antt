-- Before each turn the clauses below i are left (Sifting).
use Rattle.formula.specs.Reading.{formula_of}
use Rattle.search.specs.Machine.{plan_in}
use Rattle.deletion.specs.Machine.{Sifting}
use Rattle.deletion.proofs.sift.Given as goal

abbrev pub invariant-loop-i : goal.invariant-loop-i
invariant-loop-i l = Sifting (plan_in l.codes.plan) l.budget (formula_of l.sheet) l.kept (formula_of l.trial) l.i
