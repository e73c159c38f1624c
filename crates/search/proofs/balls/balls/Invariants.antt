-- `balls` meets its contract: before each turn the balls still to come, from the calls made so far on, give what all balls give.
-- The measure is the number of balls still to come.
use Rattle.std.specs.Prelude.{◌-◌}
use Rattle.words.specs.Machine.{bits_of}
use Rattle.search.specs.Run.{centre_count}
use Rattle.search.specs.Machine.{Before, blocks_of, search_by}
use Rattle.search.proofs.balls.balls.Given as goal

abbrev pub invariant-loop-centre : goal.invariant-loop-centre
invariant-loop-centre l =
    Before (search_by l.ball.sheet.now l.codes) l.ball.sheet.now.count l.ball.sheet.now.cells l.planes l.codes.n (bits_of l.at) l.start l.ball.budget l.calls l.i

abbrev pub decreases-loop-centre : goal.decreases-loop-centre
decreases-loop-centre l = centre_count (blocks_of l.codes) - l.i
