-- The row goes behind the others, and the clauses before it are as they were.
use Rattle.std.proofs.Common.{List, ap}
use Rattle.formula.specs.Formula.{Clause}
use Rattle.formula.proofs.TableLaws.{table_row, table_more, held_more}
use Rattle.formula.proofs.sheet.Sheet.push_clause.Goals as goal

pub copy_row-requires : goal.copy_row-requires
copy_row-requires c =
    let s = c.args.self.now in
    (table_row c.args.from.now.holds c.args.i c.requires.0, c.requires.2, s.holds.size)

pub invariant_of-self : goal.invariant_of-self
invariant_of-self c =
    let s = c.args.self.now in
    let f = c.args.from.now in
    record {
      small = s.small;
      holds = table_more s.n f.n s.count f.count s.cells f.cells _ c.args.i s.holds f.holds c.requires.1 c.requires.0 c.requires.2 c.copy_row.ensures;
    }

pub returns-clause-formula : goal.returns-clause-formula
returns-clause-formula c =
    let s = c.args.self.now in
    ap (λ (cs : List Clause). record { batch = s.batch; n = s.n; clauses = cs })
    (held_more s.count _ s.cells _ c.copy_row.ensures.kept s.holds.short c.copy_row.ensures.same)
