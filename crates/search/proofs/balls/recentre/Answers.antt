use mathlib.Core.Path.{subst}
use Prim.Native.Nat.{ℕ}
use native.Mathlib.Omega.{arith}
use Rattle.words.proofs.BitLaws.{toggle_lt}
use Rattle.words.specs.Machine.{bits_of}
use Rattle.search.specs.Machine.{Moves}
use Rattle.search.proofs.BallsLaws.{stays, moves_on, difference_later, difference_none}
use Rattle.search.proofs.balls.recentre.Goals as goal

pub loop-v-init : goal.loop-v-init
loop-v-init c = (stays _ _ _ _ c.requires.k_le_lane_count.1, c.requires.from_bound.0, c.first_difference-v.ensures)

pub toggle_bit-at-requires : goal.toggle_bit-at-requires
toggle_bit-at-requires c =
    (omega arith, c.loop-v.invariant.0.size)

pub loop-v-smaller : goal.loop-v-smaller
loop-v-smaller c =
    let inside = c.loop-v-test.true in
    let small = c.requires.k_le_lane_count.0 in
    let next = rw c.toggle_bit-at.ensures.result_value at c.first_difference-v-in-loop-v.ensures in
    omega (arith, difference_later _ _ _ c.loop-v.invariant.2 _ (omega arith) next)

pub loop-v-preserved : goal.loop-v-preserved
loop-v-preserved c = (
  moves_on _ _ _ _ _ _ _ _ c.loop-v.invariant.0 c.toggle_bit-at.ensures.moves,
  rw c.toggle_bit-at.ensures.result_value (toggle_lt _ _ _ c.loop-v.invariant.1 c.loop-v-test.true),
  c.first_difference-v-in-loop-v.ensures,
)

pub returns : goal.returns
returns c =
    let a = c.args in
    let inv = c.loop-v.invariant in
    let moved : ℕ → Type 0 = λ m. Moves a.occ.now.count a.occ.now.table (bits_of a.from) a.planes.now m c.loop-v.planes in
    subst moved (difference_none _ _ _ inv.2 _ c.loop-v-test.false inv.1 c.requires.from_bound.1) inv.0
