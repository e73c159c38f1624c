use mathlib.Core.Path.{◌≡◌, refl, sym, ap, ◌∙◌, subst}
use Prim.Native.Nat.{ℕ, ◌+◌, ◌-◌, ◌<◌}
use native.Mathlib.Nat.{pos_of_ne-zero}
use native.Mathlib.Omega.{arith}
use borrow.Author.Tests.{leb-true, leb-false}
use Rattle.words.specs.Machine.{set_of}
use Rattle.planes.proofs.CountsLaws.{first_same}
use Rattle.formula.specs.Machine.{clause_at, length_at}
use Rattle.ball.specs.Ball.{State}
use Rattle.tree.specs.Budget.{Answer, settle}
use Rattle.tree.specs.Machine.{answer_in}
use Rattle.ball.proofs.ForcedLaws.{forces_same, standing_flip}
use Rattle.ball.proofs.ChoiceLaws.{zero_false}
use Rattle.ball.specs.Machine.{state_in, Standing, FirstFalse, Selected, Trying, call_from, literals_from}
use Rattle.ball.proofs.MachineLaws.{in_spent, in_clear, in_none, in_literals, trying_row, trying_attempt, turn_start, turn_end, turn_passed, turn_stops, turn_next}
use Rattle.ball.proofs.ball.Ball.+attempt_call_literals.Goals as goal
use Rattle.ball.proofs.ball.Ball.+attempt_call_literals.Goals.{call-In-Some, call-After-choose-clause, literals-then-is_free+in-None, literals-else-is_free}

-- ---- a call

pub call-returns-then-exhausted : goal.call-returns-then-exhausted
unfolding answer_in
call-returns-then-exhausted t c =
    sym (in_spent _ _ _ _ _ _ (leb-true _ _ (sym c.exhausted.ensures ∙ c.if-exhausted.true)))

pub call-returns-in_default : goal.call-returns-in_default
unfolding answer_in state_in
call-returns-in_default t c =
    let enough = leb-false _ _ (sym c.exhausted.ensures ∙ c.if-exhausted.false) in
    let none = c.in_default.ensures.by_index _ _ _ c.args.self.now.ready.occurs c.requires.shows.met c.requires.shows.«open» in
    sym (in_clear _ _ _ _ _ _ enough _ (first_same (zero_false c.args.self.now.occ.now.count _ _) none) refl)

module _ (t : ℕ) (c : call-In-Some t) where
  -- a call is left
  enough : c.args.calls < c.args.self.now.budget
  enough = leb-false _ _ (sym c.exhausted.ensures ∙ c.if-exhausted.false)

  -- the first false clause
  first : (c.in-Some.first < c.args.self.now.occ.now.count) × FirstFalse c.args.self.now.occ.now.count c.args.self.now.sheet.now.cells (state_in c.args.at) c.in-Some.first
  first =
      let (inside, f) = c.in-Some.ensures.by_index _ _ _ c.args.self.now.ready.occurs c.requires.shows.met c.requires.shows.«open» in
      (inside, first_same (zero_false c.args.self.now.occ.now.count _ _) f)

pub call-returns-then-left-eq0 : goal.call-returns-then-left-eq0
unfolding answer_in state_in
call-returns-then-left-eq0 t c =
    let (inside, f) = first t c.before in
    sym (in_none _ _ _ _ _ _ (enough t c.before) _ f (λ e. omega arith) c.if-left-eq0.true)

pub call-choose-clause-requires : goal.call-choose-clause-requires
call-choose-clause-requires t c =
    let p = c.requires in
    (record { cells = c.args.self.now.sheet.now.cells; ready = c.args.self.now.ready; shows = p.shows }, (first t c.before).0)

-- the clause that is taken, and what its literals are tried with
module _ (t : ℕ) (c : call-After-choose-clause t) where
  stands : let a = c.args in Standing a.self.now.occ.now.count a.self.now.sheet.now.cells (state_in a.at) (set_of a.at.forced)
  stands = c.requires.standing (pos_of_ne-zero c.if-left-eq0.false)

  taken : let a = c.args in Selected a.self.now.occ.now.count a.self.now.sheet.now.cells (state_in a.at) c.choose-clause.result
  taken = c.choose-clause.ensures _ c.args.self.now.ready c.requires.shows stands (first t c.before.before).1

  tried-with : let a = c.args in
      Trying a.self.now.occ.now.count a.self.now.sheet.now.cells a.self.now.occ.now.table a.planes.now (state_in a.at) (set_of a.at.forced) c.choose-clause.result 0
      a.left (a.calls + 1) a.self.now.budget
  tried-with =
      record {
        ready = c.args.self.now.ready;
        shows = c.requires.shows;
        standing = stands;
        inside = taken.inside;
        failing = taken.failing;
        flips = pos_of_ne-zero c.if-left-eq0.false;
        enough = omega (arith, enough t c.before.before);
        more = omega arith;
      }

  -- what the call gives is what its literals give
  call_gives : let a = c.args in
      settle a.self.now.budget a.calls (call_from a.self.now.occ.now.count a.self.now.sheet.now.cells a.left (state_in a.at)) ≡
      settle a.self.now.budget (a.calls + 1)
      (literals_from a.self.now.occ.now.count a.self.now.sheet.now.cells a.left (state_in a.at) (clause_at a.self.now.sheet.now.cells c.choose-clause.result))
  call_gives =
      let d = c.before.before in
      let (inside, f) = first t d in
      in_literals _ _ _ _ _ _ (enough t d) _ f (λ e. omega arith) c.if-left-eq0.false _ stands _ taken

pub call-last_literals-requires : goal.call-last_literals-requires
call-last_literals-requires t c =
    let a = c.args in
    let with : ℕ → Type 0 = λ x.
    Trying a.self.now.occ.now.count a.self.now.sheet.now.cells a.self.now.occ.now.table a.planes.now (state_in a.at) (set_of a.at.forced) c.choose-clause.result 0 x
    (a.calls + 1) a.self.now.budget in
    subst with c.if-left-eq1.true (tried-with t c.before)

pub call-returns-then-left-eq1 : goal.call-returns-then-left-eq1
call-returns-then-left-eq1 t c =
    let a = c.args in
    let gives : ℕ → Answer = λ x.
    settle a.self.now.budget (a.calls + 1)
    (literals_from a.self.now.occ.now.count a.self.now.sheet.now.cells x (state_in a.at) (clause_at a.self.now.sheet.now.cells c.choose-clause.result)) in
    c.last_literals.ensures ∙ ap gives (sym c.if-left-eq1.true) ∙ sym (call_gives t c.before.before)

pub call-literals-requires : goal.call-literals-requires
call-literals-requires t c =
    let w = tried-with t c.before in
    (omega (arith, c.decreases, (trying_row w).short, w.flips), w)

pub call-returns : goal.call-returns
call-returns t c = c.literals.ensures ∙ sym (call_gives t c.before.before)

-- ---- its literals

pub literals-length_at-j-end-requires : goal.literals-length_at-j-end-requires
literals-length_at-j-end-requires t c = omega (arith, c.requires.inside, c.args.self.now.whole)

pub literals-literal-literal-requires : goal.literals-literal-literal-requires
literals-literal-literal-requires t c = (omega (arith, c.requires.inside, c.args.self.now.whole), omega arith)

pub literals-loop-j-init : goal.literals-loop-j-init
literals-loop-j-init t c = turn_start c.requires

pub literals-attempt-tried-requires : goal.literals-attempt-tried-requires
literals-attempt-tried-requires t c =
    let turn = c.loop-j.invariant in
    let there : c.loop-j.j < length_at c.args.self.now.sheet.now.cells c.args.clause = omega arith in
    let tried = sym (rw c.literal-literal.ensures at c.is_free.ensures) ∙ c.if-is_free.true in
    (omega (arith, c.decreases, there), rw c.literal-literal.ensures (trying_attempt turn.trying there tried))

pub literals-returns-in_default : goal.literals-returns-in_default
literals-returns-in_default t c =
    let turn = c.loop-j.invariant in
    let there : c.loop-j.j < length_at c.args.self.now.sheet.now.cells c.args.clause = omega arith in
    let tried = sym (rw c.literal-literal.ensures at c.is_free.ensures) ∙ c.if-is_free.true in
    let gave = rw c.literal-literal.ensures at c.attempt-tried.ensures in
    turn_stops turn there tried _ gave c.in_default.not-None

pub literals-loop-j-preserved : goal.literals-loop-j-preserved
literals-loop-j-preserved t c =
    let turn = c.loop-j.invariant in
    let there : c.loop-j.j < length_at c.args.self.now.sheet.now.cells c.args.clause = omega arith in
    let told = sym (rw c.literal-literal.ensures at c.is_free.ensures) in
    elim c.if-is_free.branch [
      | literals-then-is_free+in-None w ↦
          let gave = rw c.literal-literal.ensures at w.attempt-tried.ensures in
          rw w.made-is (turn_next turn there (told ∙ w.if-is_free.true) _ gave w.in-None.more w.in-None.is)
      | literals-else-is_free w ↦ rw w.made-is (turn_passed turn there (told ∙ w.if-is_free.false))
    ]

pub literals-returns : goal.literals-returns
literals-returns t c = turn_end c.loop-j.invariant (omega arith)

-- ---- one literal

pub attempt-call-requires : goal.attempt-call-requires
attempt-call-requires t c =
    let a = c.requires in
    let flipped = c.force-after.ensures.result_value ∙ c.flip-2.ensures.result_value in
    let shown = c.flip.ensures.shows _ _ a.ready a.tryable a.shows in
    let forced = rw (c.of.ensures, c.opposite-opposite.ensures) at
    (c.force-after.ensures.by_index _ a.ready (rw c.flip-2.ensures.result_value shown)) in
    let told = forces_same c.flip-2.ensures.result_value (ap set_of c.flip-2.ensures.forced_value) forced in
    let stands = standing_flip _ _ a.ready.table _ a.known _ a.tryable _ _ a.standing a.kept told in
    (omega (arith, c.decreases, a.flips), (rw flipped shown, λ h. rw flipped stands))

pub attempt-returns : goal.attempt-returns
attempt-returns t c =
    let a = c.args in
    let flipped = c.force-after.ensures.result_value ∙ c.flip-2.ensures.result_value in
    let from : State → Answer = λ q. settle a.self.now.budget a.calls (call_from a.self.now.occ.now.count a.self.now.sheet.now.cells (a.left - 1) q) in
    c.call.ensures ∙ ap from flipped
