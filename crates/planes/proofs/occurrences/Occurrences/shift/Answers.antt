use native.Mathlib.Omega.{arith}
use Rattle.planes.proofs.PlaneLaws.{words_step}
use Rattle.planes.proofs.CountsLaws.{all_shifted}
use Rattle.planes.proofs.occurrences.Occurrences.shift.Goals as goal

pub loop-w-preserved : goal.loop-w-preserved
loop-w-preserved c =
    let first = c.shift_slot.ensures in
    let second = c.shift_slot-in-loop-w.ensures in
    words_step c.loop-w.invariant (omega arith) first.stored first.moved second.stored second.moved

pub returns : goal.returns
returns c =
    let inv = c.loop-w.invariant in
    record {
      to_len = inv.size;
      shifted = all_shifted _ _ _ _ _ _ _ (λ w l. inv.first w (omega arith));
      shifted_2 = all_shifted _ _ _ _ _ _ _ (λ w l. inv.second w (omega arith));
    }
