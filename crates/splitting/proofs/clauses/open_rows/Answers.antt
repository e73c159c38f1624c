use mathlib.Core.Path.{◌≡◌, refl}
use Prim.Native.Nat.{◌+◌, ◌-◌}
use native.Mathlib.Omega.{arith}
use lib.ListN.{length-set}
use Rattle.splitting.specs.Machine.{open_cells}
use Rattle.splitting.proofs.SetLaws.{opens_start, opens_step}
use Rattle.splitting.proofs.clauses.open_rows.Goals as goal

pub loop-at-init : goal.loop-at-init
loop-at-init c = (refl, λ k cells table o. opens_start open_cells table)

pub loop-at-preserved : goal.loop-at-preserved
loop-at-preserved c =
    let turn = c.loop-at in
    let less : turn.at - 1 + 1 ≡ turn.at = omega arith in (
      simp length-set turn.invariant.0,
      λ k cells table o.
          opens_step turn.rows (turn.at - 1) table o (omega arith) (omega arith) c.requires (rw less (turn.invariant.1 k cells table o)),
    )

pub returns : goal.returns
returns c k cells table o = record { each = λ j i l h. c.loop-at.invariant.1 k cells table o j i l h (omega arith) }
