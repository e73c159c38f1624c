use mathlib.Core.Path.{◌≡◌, sym, ◌∙◌}
use mathlib.Core.Bool.{true, false}
use mathlib.Core.List.{List}
use Prim.Native.Nat.{ℕ, ◌<◌}
use native.Mathlib.Omega.{arith}
use borrow.Author.Tests.{leb-true, leb-false}
use Rattle.words.specs.Bits.{width}
use Rattle.tree.specs.Machine.{answer_in}
use Rattle.tree.proofs.BudgetLaws.{call_spent}
use Rattle.splitting.specs.Machine.{node_in, some_closed, Standing}
use Rattle.splitting.proofs.MachineLaws.{call_lost, call_sure, call_left, standing_zero, standing_one, splits_stops, splits_next}
use Rattle.splitting.proofs.+call.Goals as goal
use Rattle.splitting.proofs.+call.Goals.{After-any_closed-2, Else-not-any_closed}

pub returns-then-exhausted : goal.returns-then-exhausted
unfolding answer_in
returns-then-exhausted t c cells s =
    sym (call_spent _ _ _ _ _ (leb-true _ _ (sym c.exhausted.ensures ∙ c.if-exhausted.true)))

pub returns-then-any_closed : goal.returns-then-any_closed
unfolding answer_in
returns-then-any_closed t c cells s =
    let enough = leb-false _ _ (sym c.exhausted.ensures ∙ c.if-exhausted.false) in
    let first = c.any_closed.ensures _ cells _ (omega (arith, s.within)) s.opens s.unmet in
    call_lost s _ _ enough (sym c.if-any_closed.true ∙ first)

pub returns-then-not-any_closed : goal.returns-then-not-any_closed
unfolding answer_in
returns-then-not-any_closed t c cells s =
    let enough = leb-false _ _ (sym c.exhausted.ensures ∙ c.if-exhausted.false) in
    let second = c.any_closed-2.ensures _ cells _ (omega arith) s.opens s.unmet in
    call_sure s _ _ enough (sym c.if-not-any_closed.true ∙ second)

-- where a variable is left
module _ (t : ℕ) (c : Else-not-any_closed t) where
  abbrev At : List ℕ → Type 0
  At cells =
      let a = c.args in
      Standing a.n a.occ.now.count cells a.occ.now.table a.rows.now (node_in a.set a.at) a.unmet.now

  counted : c.args.calls < c.args.budget
  counted = leb-false _ _ (sym c.exhausted.ensures ∙ c.if-exhausted.false)

  open-here : (cells : List ℕ) → At cells → false ≡ some_closed c.args.occ.now.count cells c.args.set (node_in c.args.set c.args.at)
  open-here cells s =
      sym c.if-any_closed.false ∙ c.any_closed.ensures _ cells _ (omega (arith, s.within)) s.opens s.unmet

  open-there : (cells : List ℕ) → At cells → true ≡ some_closed c.args.occ.now.count cells c.args.n (node_in c.args.set c.args.at)
  open-there cells s = sym c.if-not-any_closed.false ∙ c.any_closed-2.ensures _ cells _ (omega arith) s.opens s.unmet

  left : c.args.set < c.args.n
  left =
      let (cells, s) = c.requires.by_index in
      call_left s _ _ counted (open-here cells s) (open-there cells s)

  inside : c.args.set < width
  inside = omega (arith, left, c.requires.n_le_width)

pub toggled-one-requires : goal.toggled-one-requires
toggled-one-requires t c = inside t c

pub of-requires : goal.of-requires
of-requires t c = inside t c.before

-- The first of two calls has the variable at 0,
pub call-tried-requires : goal.call-tried-requires
call-tried-requires t c =
    let e = c.before.before.before.before.before in
    let (cells, s) = c.requires.by_index in
    let standing = standing_zero s _ (left t e) c.requires.n_le_width c.without.ensures c.of.ensures in
    (omega (arith, c.decreases, left t e), (c.requires.n_le_width, (cells, standing)))

pub returns-in_default : goal.returns-in_default
returns-in_default t c cells s =
    let e = c.before.before.before.before.before.before.before in
    let standing = standing_zero s _ (left t e) c.requires.n_le_width c.without.ensures c.of.ensures in
    splits_stops s _ _ (counted t e) (open-here t e cells s) (open-there t e cells s) _ c.toggled-one.ensures _
    (c.call-tried.ensures cells standing) c.in_default.not-None

pub of-requires-2 : goal.of-requires-2
of-requires-2 t c = inside t (c.before.before.before.before.before.before.before)

-- and the second at 1.
pub call-requires : goal.call-requires
call-requires t c =
    let e = c.before.before.before.before.before.before.before.before.before.before.before in
    let (cells, s) = c.requires.by_index in
    let standing = standing_one s _ (left t e) c.requires.n_le_width c.without-2.ensures _ c.toggled-one.ensures c.of-2.ensures in
    (omega (arith, c.decreases, left t e), (c.requires.n_le_width, (cells, standing)))

pub returns : goal.returns
returns t c cells s =
    let e = c.before.before.before.before.before.before.before.before.before.before.before.before in
    let zero = standing_zero s _ (left t e) c.requires.n_le_width c.without.ensures c.of.ensures in
    let one = standing_one s _ (left t e) c.requires.n_le_width c.without-2.ensures _ c.toggled-one.ensures c.of-2.ensures in
    c.call.ensures cells one
    ∙ splits_next s _ _ (counted t e) (open-here t e cells s) (open-there t e cells s) _ c.toggled-one.ensures _
    (c.call-tried.ensures cells zero) _ c.in-None.is
