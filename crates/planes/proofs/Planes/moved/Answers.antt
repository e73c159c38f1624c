-- `Planes::moved` meets its contract: each lane is four digits that `number_moves` counts up or down.
use Rattle.planes.specs.Machine.{count_in}
use Rattle.planes.proofs.LaneLaws.{bit-bit_xor, bit-bit_and}
use Rattle.planes.proofs.PlaneLaws.{number_moves}
use Rattle.planes.proofs.Planes.moved.Goals as goal

pub returns : goal.returns
unfolding count_in
returns c = record { each = λ j n l h. simp (bit-bit_xor, bit-bit_and) (number_moves _ _ _ _ _ _ n l h) }
