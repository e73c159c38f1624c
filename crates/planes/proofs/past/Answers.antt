-- `past` meets its contract: the lanes from the end of the clauses on, or none.
use mathlib.Core.Path.{sym, ◌∙◌}
use Prim.Native.Nat.{◌+◌, ◌-◌, ◌*◌}
use native.Mathlib.Omega.{arith}
use lib.Pow.{pow_pos}
use borrow.Author.Tests.{lt-leb}
use Rattle.words.proofs.BitLaws.{bit_zero}
use Rattle.planes.specs.Machine.{lanes}
use Rattle.planes.proofs.LaneLaws.{same_order, one_shl, bit_from}
use Rattle.planes.proofs.past.Goals as goal

pub overflow_mul-left : goal.overflow_mul-left
overflow_mul-left c = omega arith

pub overflow_sub-left : goal.overflow_sub-left
overflow_sub-left c = omega arith

pub overflow_shl-result : goal.overflow_shl-result
overflow_shl-result c = omega arith

pub overflow_sub-result : goal.overflow_sub-result
overflow_sub-result c =
    let left = c.args.k - lanes * c.args.w in
    rw (one_shl lanes left (omega arith)) (pow_pos left)

pub returns-then-left-lt-LANES : goal.returns-then-left-lt-LANES
returns-then-left-lt-LANES c j l =
    let k = c.args.k in
    let w = c.args.w in
    let left = k - lanes * w in
    rw (one_shl lanes left (omega arith))
    (bit_from left j (omega arith) l ∙ same_order left j k (lanes * w + j) (λ h. omega arith) (λ h. omega arith))

pub returns-else-left-lt-LANES : goal.returns-else-left-lt-LANES
returns-else-left-lt-LANES c j l = bit_zero j ∙ sym (lt-leb c.args.k (lanes * c.args.w + j) (omega arith))
