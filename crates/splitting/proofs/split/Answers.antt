-- `split` meets its contract: the tables are made, and the first call is given all clauses.
use mathlib.Core.Path.{◌∙◌}
use Rattle.formula.specs.Machine.{Table}
use Rattle.planes.specs.Machine.{Occurs}
use Rattle.splitting.specs.Machine.{node_in, Standing}
use Rattle.splitting.proofs.MachineLaws.{standing_start, from_start}
use Rattle.splitting.proofs.split.Goals as goal
use Rattle.splitting.proofs.split.Goals.{After-zero}

-- what the first call is given
first : (c : After-zero) → let sheet = c.args.sheet.now in
    let occ = c.of-occ.result in
    Standing sheet.n occ.count sheet.cells occ.table c.open_rows-rows.result (node_in 0 c.zero.result) c.all-all.result
first c =
    let sheet = c.args.sheet.now in
    let occ = c.of-occ.result in
    let table : Table sheet.n occ.count sheet.cells = rw c.of-occ.ensures.count sheet.holds in
    let o : Occurs occ.count sheet.cells occ.table = rw c.of-occ.ensures.count c.of-occ.ensures.occurs in
    standing_start _ c.zero.ensures table o (c.open_rows-rows.ensures _ _ table o) c.all-all.ensures

pub call-requires : goal.call-requires
call-requires c =
    record {
      n_le_width = c.args.sheet.now.small;
      by_index = (_, first c);
    }

pub returns : goal.returns
returns c = rw c.of-occ.ensures.count at (c.call.ensures _ (first c.before)) ∙ from_start _ _ _ _ _ c.zero.ensures
