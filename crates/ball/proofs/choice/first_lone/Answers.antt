use mathlib.Core.Path.{◌≡◌, ◌∙◌, subst}
use mathlib.Core.Bool.{false}
use mathlib.Core.List.{List}
use Prim.Native.Nat.{ℕ, ◌<◌}
use native.Mathlib.Omega.{arith}
use borrow.Author.Tests.{not-true}
use Rattle.words.specs.Machine.{set_of, Meets}
use Rattle.formula.specs.Machine.{clause_at}
use Rattle.ball.specs.Ball.{State, is_true}
use Rattle.ball.proofs.ChoiceLaws.{spared_meets, spared_none, at_none, lone_next}
use Rattle.ball.specs.Machine.{Ready, Standing, is_spared}
use Rattle.ball.proofs.choice.first_lone.Goals as goal
use Rattle.ball.proofs.choice.first_lone.Goals.{After-meets-in-Some}

-- no variable is forced
pub returns-then-not-meets : goal.returns-then-not-meets
returns-then-not-meets c cells ready shows stand first h =
    let none = subst (Meets _ _) c.if-not-meets.true c.meets.ensures in
    record {
      within = omega arith;
      before = λ i l q. spared_none ready stand none i (omega (arith, q, c.requires.1));
      here = λ q. absurd (omega arith);
    }

pub loop-next-init : goal.loop-next-init
loop-next-init c cells s ready shows stand first inside = (inside, not-true _ (first.here inside), λ j l h. absurd (omega arith))

-- whether clause i meets L
module _ (c : After-meets-in-Some) where
  spared : (cells : List ℕ) (s : State) → Ready c.args.occ.now.count cells c.args.occ.now.table →
      Standing c.args.occ.now.count cells s (set_of c.args.at.forced) → c.in-Some.i < c.args.occ.now.count →
      is_true s (clause_at cells c.in-Some.i) ≡ false → is_spared c.args.occ.now.count cells s c.in-Some.i ≡ c.meets-in-Some.result
  spared cells s ready stand inside failing =
      spared_meets ready stand _ inside failing _ (rw c.set_at.ensures at c.meets-in-Some.ensures)

pub returns-then-end-i : goal.returns-then-end-i
returns-then-end-i c cells ready shows stand first h =
    let (inside, failing, before) = rw c.in-Some.is at (c.loop-next.invariant cells _ ready shows stand first h) in
    record { within = omega arith; before = λ j l q. before j l (omega arith); here = λ q. absurd (omega arith) }

pub returns-then-meets : goal.returns-then-meets
returns-then-meets c cells ready shows stand first h =
    let (inside, failing, before) = rw c.in-Some.is at (c.loop-next.invariant cells _ ready shows stand first h) in (
      c.if-end-i.false,
      record { within = omega arith; before = before; here = λ l. spared c.before cells _ ready stand inside failing ∙ c.if-meets.true },
    )

pub loop-next-preserved : goal.loop-next-preserved
loop-next-preserved c cells s ready shows stand first h =
    let (inside, failing, before) = rw c.in-Some.is at (c.loop-next.invariant cells s ready shows stand first h) in
    let unspared = spared c.before.before.before cells s ready stand inside failing ∙ c.if-meets.false in
    lone_next _ cells s _ _ before unspared _ (c.next-next.ensures.by_index cells _ _ ready.occurs shows.met shows.«open»)

pub returns : goal.returns
returns c cells ready shows stand first h =
    let before = at_none _ _ _ c.in_default.not-Some (c.loop-next.invariant cells _ ready shows stand first h) in
    record { within = omega arith; before = λ j l q. before j l (omega (arith, q, c.requires.1)); here = λ q. absurd (omega arith) }
