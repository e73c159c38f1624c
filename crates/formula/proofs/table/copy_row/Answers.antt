-- `table::copy_row` meets its contract: the row's cells take the place of the other's.
use Rattle.std.proofs.Common.{◌≡◌, ℕ, ◌+◌, ◌-◌, ◌*◌, take, drop, ap, ◌∙◌, arith}
use Rattle.formula.specs.Machine.{row_cells}
use Rattle.formula.proofs.RowLaws.{row_copied}
use Rattle.formula.proofs.table.copy_row.Goals as goal

pub returns : goal.returns
returns c =
    let h = c.requires in
    let nine : row_cells * c.args.i + row_cells - row_cells * c.args.i ≡ row_cells = omega arith in
    row_copied _ _ _ _ h.0 h.1 h.2 _ _ (omega arith)
    (c.copy_from_slice.ensures.after ∙ ap (λ (n : ℕ). take n (drop (row_cells * c.args.i) c.args.from.now)) nine)
