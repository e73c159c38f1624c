use mathlib.Core.Path.{sym, ◌∙◌}
use Prim.Native.Nat.{◌<◌}
use native.Mathlib.Omega.{arith}
use Rattle.formula.specs.Machine.{length_at}
use Rattle.ball.proofs.MachineLaws.{trying_attempt, turn_start, turn_end, turn_passed, turn_stops, turn_next}
use Rattle.ball.proofs.ball.Ball.last_literals.Goals as goal
use Rattle.ball.proofs.ball.Ball.last_literals.Goals.{then-is_free+in-None, else-is_free}

pub length_at-j-end-requires : goal.length_at-j-end-requires
length_at-j-end-requires c = omega (arith, c.requires.inside, c.args.self.now.whole)

pub loop-j-init : goal.loop-j-init
loop-j-init c = turn_start c.requires

pub literal-literal-requires : goal.literal-literal-requires
literal-literal-requires c = (omega (arith, c.requires.inside, c.args.self.now.whole), omega arith)

-- The literal is tried, and its call ends the search,
pub returns-in_default : goal.returns-in_default
returns-in_default c =
    let turn = c.loop-j.invariant in
    let there : c.loop-j.j < length_at c.args.self.now.sheet.now.cells c.args.clause = omega arith in
    let tried = sym (rw c.literal-literal.ensures at c.is_free.ensures) ∙ c.if-is_free.true in
    let last = rw c.literal-literal.ensures at c.last_attempt-tried.ensures in
    turn_stops turn there tried _ (last.answer _ (trying_attempt turn.trying there tried)) c.in_default.not-None

-- or is none, or the literal is passed over.
pub loop-j-preserved : goal.loop-j-preserved
loop-j-preserved c =
    let turn = c.loop-j.invariant in
    let there : c.loop-j.j < length_at c.args.self.now.sheet.now.cells c.args.clause = omega arith in
    let told = sym (rw c.literal-literal.ensures at c.is_free.ensures) in
    elim c.if-is_free.branch [
      | then-is_free+in-None w ↦
          let tried = told ∙ w.if-is_free.true in
          let last = rw c.literal-literal.ensures at w.last_attempt-tried.ensures in
          rw w.made-is (turn_next turn there tried _ (last.answer _ (trying_attempt turn.trying there tried)) w.in-None.more w.in-None.is)
      | else-is_free w ↦ rw w.made-is (turn_passed turn there (told ∙ w.if-is_free.false))
    ]

pub returns : goal.returns
returns c = turn_end c.loop-j.invariant (omega arith)
