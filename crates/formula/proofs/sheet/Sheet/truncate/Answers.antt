-- The clauses below are as they were.
use Rattle.std.proofs.Common.{List, ℕ, ap, arith, ◌∙◌}
use Rattle.formula.specs.Formula.{Clause}
use Rattle.formula.specs.Machine.{held}
use Rattle.formula.proofs.TableLaws.{table_fewer, held_take}
use Rattle.formula.proofs.sheet.Sheet.truncate.Goals as goal

pub invariant_of-self : goal.invariant_of-self
invariant_of-self c =
    let s = c.args.self.now in
    record { small = s.small; holds = table_fewer s.n s.count _ s.cells (omega (arith, c.min-self.ensures)) s.holds }

pub returns : goal.returns
returns c =
    let s = c.args.self.now in
    ap (λ (cs : List Clause). record { batch = s.batch; n = s.n; clauses = cs })
    (ap (λ (k : ℕ). held k s.cells) c.min-self.ensures ∙ held_take s.count c.args.count s.cells)
