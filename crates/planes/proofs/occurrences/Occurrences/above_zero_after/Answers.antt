use mathlib.Core.Path.{sym}
use Prim.Native.Nat.{◌^◌, ◌<◌}
use borrow.Author.Rules.{rules}
use native.Mathlib.Omega.{arith}
use borrow.Author.Count.{below_more}
use Rattle.planes.specs.Machine.{lanes}
use Rattle.planes.proofs.CountsLaws.{above_after, zero_after}
use Rattle.planes.proofs.occurrences.Occurrences.above_zero_after.Goals as goal

pub returns-then-zeros-ne0 : goal.returns-then-zeros-ne0
returns-then-zeros-ne0 c =
    let a = c.args in
    let told = rw (c.slot_at.ensures, c.first_cell-more.ensures.0, c.first_cell-less.ensures.0) at c.zeros_after-zeros.ensures in
    let z = c.zeros_after-zeros.result in
    let fits : z < 2 ^ lanes = search rules in
    record {
      answer = λ cells count next o s steps.
          sym (zero_after a.self.now.within (a.rows.up.within, a.rows.down.within) o s steps c.loop-w.w z (omega arith) told c.if-zeros-ne0.true fits);
    }

pub loop-w-preserved : goal.loop-w-preserved
loop-w-preserved c =
    let told = rw (c.slot_at.ensures, c.first_cell-more.ensures.0, c.first_cell-less.ensures.0) at c.zeros_after-zeros.ensures in
    below_more _ c.loop-w.w c.loop-w.invariant (rw c.if-zeros-ne0.false at told)

pub returns : goal.returns
returns c =
    let a = c.args in
    record {
      answer = λ cells count next o s steps.
          sym (above_after a.self.now.within (a.rows.up.within, a.rows.down.within) o s steps (λ w l. c.loop-w.invariant w (omega arith)));
    }
