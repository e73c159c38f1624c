use mathlib.Core.Path.{◌≡◌}
use Prim.Native.Nat.{◌+◌, ◌*◌, ◌/◌, ◌%◌, ◌^◌, ◌<◌}
use native.Mathlib.Omega.{arith}
use lib.ListN.{length-set}
use borrow.Author.Rules.{rules}
use Rattle.planes.specs.Machine.{lanes}
use Rattle.splitting.specs.Machine.{is_in}
use Rattle.splitting.proofs.SetLaws.{not_from, word_stored}
use Rattle.splitting.proofs.clauses.all.Invariants.{Word}
use Rattle.splitting.proofs.clauses.all.Goals as goal

pub loop-w-preserved : goal.loop-w-preserved
loop-w-preserved c =
    let turn = c.loop-w in
    let y = c.past.result in
    let fits : y < 2 ^ lanes = search rules in (
      simp length-set turn.invariant.0,
      word_stored (Word _) turn.set turn.w _ (omega arith) turn.invariant.1 (λ j l. not_from _ turn.w j y fits l (c.past.ensures j l)),
    )

pub returns : goal.returns
unfolding is_in
returns c =
    record {
      each = λ i l.
          let back : lanes * (i / lanes) + i % lanes ≡ i = omega arith in
          rw back at (c.loop-w.invariant.1 (i / lanes) (omega arith) (i % lanes) (omega arith));
    }
