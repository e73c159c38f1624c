-- `clause_sets::put_set` meets its contract: its two stores are those of `set_stored`.
use native.Mathlib.Omega.{arith}
use Rattle.planes.proofs.OccurLaws.{set_stored}
use Rattle.planes.proofs.clause_sets.put_set.Goals as goal

pub returns : goal.returns
returns c = set_stored c.args.occ.now c.args.i c.args.variables c.requires (omega arith)
