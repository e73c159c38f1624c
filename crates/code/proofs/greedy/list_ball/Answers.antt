use mathlib.Core.Path.{◌≡◌, refl}
use Prim.Native.Nat.{zero-le}
use native.Mathlib.Omega.{arith}
use Rattle.words.specs.Lists.{keep, span}
use Rattle.code.proofs.MachineLaws.{ball_skip, ball_next}
use Rattle.code.proofs.greedy.list_ball.Goals as goal
use Rattle.code.proofs.greedy.list_ball.Goals.{then-x-s, else-x-s}

pub loop-x-init : goal.loop-x-init
unfolding keep span
loop-x-init c = (zero-le, refl)

pub loop-x-preserved : goal.loop-x-preserved
loop-x-preserved c =
    let l = c.loop-x in
    elim c.if-x-s.branch [
      | then-x-s w ↦ (
        omega (arith, w.m-is),
        rw (w.ball-is, w.m-is) (ball_next _ l.x l.ball l.m (omega arith) w.if-x-s.true l.invariant.1),
      )
      | else-x-s w ↦ (
        omega (arith, w.m-is),
        rw (w.ball-is, w.m-is, ball_skip _ l.x w.if-x-s.false) l.invariant.1,
      )
    ]

pub returns : goal.returns
returns c = let e : c.loop-x.x ≡ c.args.n = omega arith in (omega arith, rw (← e) c.loop-x.invariant.1)
