use native.Mathlib.Omega.{arith}
use Rattle.planes.proofs.StartLaws.{start_counts}
use Rattle.planes.proofs.occurrences.Occurrences.start.Goals as goal

pub returns : goal.returns
returns c =
    let inv = c.loop-w.invariant in
    let room = c.args.self.now.within in
    record {
      result_len = inv.size;
      starts = record { counts = start_counts _ _ _ _ _ _ c.requires room (λ w l. inv.first w (omega arith)) };
      starts_2 = record { counts = start_counts _ _ _ _ _ _ c.requires room (λ w l. inv.second w (omega arith)) };
    }
