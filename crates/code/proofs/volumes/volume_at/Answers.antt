use mathlib.Core.Path.{◌≡◌, sym, ◌∙◌}
use Prim.Native.Nat.{◌+◌, ◌-◌, ◌*◌, ◌/◌, min}
use native.Mathlib.Omega.{arith}
use lib.Pow.{pow_mono}
use Rattle.code.specs.Volume.{choose, volume}
use Rattle.code.proofs.VolumeLaws.{volume_zero, volume_most}
use Rattle.code.proofs.ChooseLaws.{choose_quotient, product_most, volume_next, volume_last}
use Rattle.code.specs.Operations.{block_limit}
use Rattle.code.proofs.volumes.volume_at.Goals as goal
use Rattle.code.proofs.volumes.volume_at.Goals.{In-loop-i}

pub loop-i-init : goal.loop-i-init
unfolding volume
loop-i-init c = (sym (volume_zero _), sym (volume_zero _))

-- a turn: the binomial after, and the sum with it
next : (c : In-loop-i) →
    c.loop-i.binomial * (c.args.t - c.loop-i.i) / (c.loop-i.i + 1)
    ≡ choose c.args.t (c.loop-i.i + 1)
next c = rw c.loop-i.invariant.0 (choose_quotient _ _)

pub loop-i-preserved : goal.loop-i-preserved
loop-i-preserved c = (next c, rw (next c, c.loop-i.invariant.1) (volume_next _ _))

pub overflow_mul-binomial : goal.overflow_mul-binomial
overflow_mul-binomial c =
    rw c.loop-i.invariant.0 (omega (arith, product_most c.args.t c.loop-i.i block_limit c.requires.0))

pub overflow_add-sum : goal.overflow_add-sum
overflow_add-sum c =
    rw (next c, c.loop-i.invariant.1, volume_next)
    (omega (arith, volume_most c.args.t (c.loop-i.i + 1), pow_mono c.requires.0))

pub returns : goal.returns
returns c =
    let a = c.args in
    let e : c.loop-i.i ≡ min a.s a.t = omega arith in
    c.loop-i.invariant.1 ∙ rw e (volume_last a.t a.s)
