-- The words of a clause's literals are those of its row.
use Rattle.std.specs.Prelude.{◌≡◌, map, ℕ, ◌+◌, ◌-◌, ◌*◌, take, drop}
use Rattle.std.proofs.Common.{ap, arith}
use Rattle.formula.specs.Formula.{literal_of}
use Rattle.formula.specs.Machine.{row_cells, clause_at}
use Rattle.formula.proofs.rows.ClauseRows.clause.Goals as goal

-- the cells from a on, r of them
part_size : (a r n : ℕ) → r ≡ n → a + r - a ≡ n
part_size a r n e = omega (arith, e)

pub returns-clause-literals : goal.returns-clause-literals
unfolding clause_at
returns-clause-literals c =
    ap (λ (n : ℕ). map literal_of (take n (drop (row_cells * c.args.i + 1) c.args.self.cells.now)))
    (part_size (row_cells * c.args.i + 1) _ _ c.length_at.ensures)
