-- `recentre` meets its contract: after each turn the planes are those of an assignment whose first difference from the new one lies
-- further on.
use Prim.Native.Nat.{◌-◌, ◌^◌, ◌<◌}
use Rattle.words.specs.Bits.{width}
use Rattle.words.specs.Machine.{bits_of, FirstDifference}
use Rattle.search.specs.Machine.{Moves}
use Rattle.search.proofs.balls.recentre.Given as goal

abbrev pub invariant-loop-v : goal.invariant-loop-v
invariant-loop-v l =
    Moves l.occ.count l.occ.table (bits_of l.initial.at) l.initial.planes (bits_of l.at) l.planes × (bits_of l.at < 2 ^ l.n) × FirstDifference width (bits_of l.at) (bits_of l.to) l.v

abbrev pub decreases-loop-v : goal.decreases-loop-v
decreases-loop-v l = l.n - l.v
