use Prim.Native.Nat.{◌^◌, ◌<◌}
use native.Mathlib.Omega.{arith}
use borrow.Author.Rules.{rules}
use Rattle.planes.specs.Machine.{lanes}
use Rattle.planes.proofs.CountsLaws.{passing_none, passing_lowest, first_end}
use Rattle.splitting.proofs.SetLaws.{closed_passing, closed_some, closed_none}
use Rattle.splitting.proofs.clauses.any_closed.Goals as goal

pub returns-then-outside-ne0 : goal.returns-then-outside-ne0
returns-then-outside-ne0 c n cells x l o u =
    let found = closed_passing c.args.j x l o u c.loop-w.w c.outside.result (omega arith) c.outside.ensures in
    let fits : c.outside.result < 2 ^ lanes = search rules in
    let (used, f) = passing_lowest found c.if-outside-ne0.true fits in
    closed_some cells c.args.j x _ (c.loop-w.invariant n cells x l o u _ f) used

pub loop-w-preserved : goal.loop-w-preserved
loop-w-preserved c n cells x l o u r f =
    let found = closed_passing c.args.j x l o u c.loop-w.w c.outside.result (omega arith) c.outside.ensures in
    c.loop-w.invariant n cells x l o u r (passing_none found c.if-outside-ne0.false r f)

pub returns : goal.returns
returns c n cells x l o u =
    closed_none cells c.args.j x (c.loop-w.invariant n cells x l o u _ (first_end (omega arith)))
