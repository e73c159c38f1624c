-- `Planes::zeros_after` meets its contract: the digits that it makes are 0 together with the number after the move.
use mathlib.Core.Path.{◌∙◌}
use native.Mathlib.Omega.{arith}
use Rattle.words.specs.Bits.{bit}
use Rattle.planes.specs.Machine.{count_in}
use Rattle.planes.proofs.LaneLaws.{bit-bit_xor, bit-bit_or}
use Rattle.planes.proofs.PlaneLaws.{zero_moves}
use Rattle.planes.proofs.Planes.zeros_after.Goals as goal

pub zeros-requires : goal.zeros-requires
zeros-requires c = omega arith

pub returns : goal.returns
unfolding count_in
returns c =
    let start = c.args in
    let p = start.self in
    record {
      each = λ j n l a h.
          c.zeros.ensures j l
          ∙ rw (bit-bit_or, bit-bit_xor)
          (zero_moves (bit p.p0 j) (bit p.p1 j) (bit p.p2 j) (bit p.p3 j) (bit start.up j) (bit start.down j) n a h);
    }
