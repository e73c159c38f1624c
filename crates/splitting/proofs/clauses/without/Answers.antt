use Prim.Native.Nat.{◌/◌, ◌%◌}
use native.Mathlib.Omega.{arith}
use lib.ListN.{length-set}
use Rattle.planes.specs.Machine.{lanes, lane}
use Rattle.splitting.specs.Machine.{is_in}
use Rattle.splitting.proofs.SetLaws.{word_stored}
use Rattle.splitting.proofs.clauses.without.Invariants.{Word}
use Rattle.splitting.proofs.clauses.without.Goals as goal

pub loop-w-init : goal.loop-w-init
loop-w-init c = (omega arith, λ v l. absurd (omega arith))

pub loop-w-preserved : goal.loop-w-preserved
loop-w-preserved c =
    let turn = c.loop-w in
    let a = c.args in (
      simp length-set turn.invariant.0,
      word_stored (Word a.occ.now.table a.literal.word a.from.now) turn.to turn.w _ (omega arith) turn.invariant.1 c.outside.ensures,
    )

pub returns : goal.returns
unfolding is_in lane
returns c = record { each = λ i l. c.loop-w.invariant.1 (i / lanes) (omega arith) (i % lanes) (omega arith) }
