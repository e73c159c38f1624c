-- `Planes::ones` meets its contract: a lane is set where the lowest digit is, and no other.
use mathlib.Core.Path.{ap, ◌∙◌}
use mathlib.Core.Bool.{Bool, ◌&&◌}
use Prim.Native.Nat.{◌<◌, ◌^◌}
use borrow.Author.Rules.{rules}
use lib.Bits.{or_lt}
use Rattle.words.specs.Bits.{bit}
use Rattle.planes.specs.Machine.{count_in}
use Rattle.planes.proofs.LaneLaws.{bit_not, bit-bit_and, bit-bit_or}
use Rattle.planes.proofs.PlaneLaws.{one_number}
use Rattle.planes.proofs.Planes.ones.Goals as goal

pub returns : goal.returns
unfolding count_in
returns c j l =
    let p = c.args.self in
    let f1 : p.p1 < 2 ^ 64 = search rules in
    let f2 : p.p2 < 2 ^ 64 = search rules in
    let f3 : p.p3 < 2 ^ 64 = search rules in
    bit-bit_and p.p0 _ j
    ∙ ap (λ (b : Bool). bit p.p0 j && b) (bit_not 64 _ j (or_lt 64 _ _ (or_lt 64 _ _ f1 f2) f3) l)
    ∙ simp bit-bit_or (one_number (bit p.p0 j) (bit p.p1 j) (bit p.p2 j) (bit p.p3 j))
