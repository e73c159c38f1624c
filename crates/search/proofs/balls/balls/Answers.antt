use Rattle.std.proofs.Common.{ap, ◌∙◌, arith}
use Rattle.std.specs.Prelude.{◌≡◌}
use Rattle.tree.specs.Budget.{settle}
use Rattle.tree.specs.Machine.{answer_in}
use Rattle.ball.specs.Machine.{call_from}
use Rattle.search.specs.Run.{ball}
use Rattle.search.specs.Machine.{blocks_of, search_by, progress_in}
use Rattle.search.proofs.BallsLaws.{ball_call, path_centred, path_stands, before_start, before_end, before_clear, before_spent, before_next}
use Rattle.search.proofs.balls.balls.Goals as goal
use Rattle.search.proofs.balls.balls.Goals.{After-call}

pub loop-centre-init : goal.loop-centre-init
loop-centre-init c = rw c.zero-at.ensures (before_start _ _ _ _ _ _ _ c.requires.size c.requires.shows)

pub recentre-requires : goal.recentre-requires
recentre-requires c =
    let b = c.loop-centre.invariant in
    record {
      k_le_lane_count = (omega (arith, c.args.codes.now.variables, c.args.codes.now.laid.fits), b.size);
      from_bound = (b.below, c.in-Some.ensures.2);
    }

pub call-requires : goal.call-requires
call-requires c =
    let p = c.requires in
    let ready = rw c.args.ball.now.whole at c.args.ball.now.ready in
    let came = path_centred _ c.zero.ensures in
    let stays = c.force-from.ensures.result_value ∙ came in
    let moved = rw c.args.ball.now.whole at c.recentre.ensures in
    let shown = moved.shows _ ready c.loop-centre.invariant.shows in
    let forced = rw c.args.ball.now.whole at c.force-from.ensures.by_index in
    rw c.args.ball.now.whole
    record {
      shows = rw stays shown;
      standing = λ some.
          rw stays
          (path_stands ready.table p.reach some _ came _ _ c.zero-in-Some.ensures
          (forced _ ready (rw came shown)));
    }

-- The ball is there, and its call gives what it gives:
gave : (c : After-call) → answer_in c.call.result ≡ settle c.args.ball.now.budget c.loop-centre.calls (ball (search_by c.args.ball.now.sheet.now c.args.codes.now) c.loop-centre.i)
gave c =
    let stays = c.force-from.ensures.result_value ∙ path_centred _ c.zero.ensures in
    (rw c.args.ball.now.whole at c.call.ensures)
    ∙ ap (settle c.args.ball.now.budget c.loop-centre.calls)
    (ap (call_from _ _ _) stays ∙ ball_call _ _ (blocks_of c.args.codes.now) _ _ _ c.in-Some.ensures.1 c.requires.reach)

-- so does the run, where that is not none.
pub returns-in-Clear : goal.returns-in-Clear
unfolding progress_in
returns-in-Clear c =
    before_clear _ _ _ _ _ _ _ _ _ _ c.loop-centre.invariant c.call.result c.in-Some.ensures.0 (gave c.before) _ _ c.in-Clear.is

pub returns-in-Spent : goal.returns-in-Spent
unfolding progress_in
returns-in-Spent c =
    before_spent _ _ _ _ _ _ _ _ _ _ c.loop-centre.invariant c.call.result c.in-Some.ensures.0 (gave c.before) _ c.in-Spent.is

pub loop-centre-preserved : goal.loop-centre-preserved
loop-centre-preserved c =
    let ready = rw c.args.ball.now.whole at c.args.ball.now.ready in
    let moved = rw c.args.ball.now.whole at c.recentre.ensures in
    let b = c.loop-centre.invariant in
    before_next _ _ _ _ _ _ _ _ _ _ b c.call.result c.in-Some.ensures.0 (gave c.before) _ c.in-None.is _ _ moved.size (moved.shows _ ready b.shows) c.in-Some.ensures.2

pub returns : goal.returns
unfolding progress_in
returns c = before_end _ _ _ _ _ _ _ _ _ _ c.loop-centre.invariant c.in_default.ensures

pub overflow_add-i : goal.overflow_add-i
overflow_add-i c = omega (arith, c.requires.start, c.loop-centre.invariant.each, c.loop-centre.invariant.enough, c.requires.limit)
