-- `Planes::zeros` meets its contract: a lane of the complement is set where the lane has no digit.
use mathlib.Core.Path.{◌∙◌}
use Prim.Native.Nat.{◌<◌, ◌^◌}
use borrow.Author.Rules.{rules}
use lib.Bits.{or_lt}
use Rattle.words.specs.Bits.{bit}
use Rattle.planes.specs.Machine.{count_in}
use Rattle.planes.proofs.LaneLaws.{bit_not, bit-bit_or}
use Rattle.planes.proofs.PlaneLaws.{zero_number}
use Rattle.planes.proofs.Planes.zeros.Goals as goal

pub returns : goal.returns
unfolding count_in
returns c j l =
    let p = c.args.self in
    let f0 : p.p0 < 2 ^ 64 = search rules in
    let f1 : p.p1 < 2 ^ 64 = search rules in
    let f2 : p.p2 < 2 ^ 64 = search rules in
    let f3 : p.p3 < 2 ^ 64 = search rules in
    bit_not 64 _ j (or_lt 64 _ _ (or_lt 64 _ _ (or_lt 64 _ _ f0 f1) f2) f3) l
    ∙ simp bit-bit_or (zero_number (bit p.p0 j) (bit p.p1 j) (bit p.p2 j) (bit p.p3 j))
