-- `put_rest` meets its contract: the first clauses are kept, and the others come behind them one after the other.
use mathlib.Core.Path.{◌≡◌, sym, ap, ◌∙◌}
use Prim.Native.Nat.{ℕ, ◌<◌}
use native.Mathlib.Omega.{arith}
use lib.ListN.{length, get_or}
use mathlib.Core.List.{List}
use Rattle.formula.specs.Formula.{Formula}
use Rattle.formula.specs.Reading.{formula_of}
use Rattle.formula.proofs.TableLaws.{length_held, held_at}
use Rattle.deletion.proofs.MachineLaws.{rest_start, rest_next, rest_few, rest_known, rest_done}
use Rattle.deletion.proofs.put_rest.Goals as goal
use Rattle.deletion.proofs.put_rest.Goals.{In-loop-number}

-- one of the numbers is looked at
module _ (c : In-loop-number) where
  more : c.loop-number.number-index < length c.args.kept.now
  more = rw (← c.numbers-number-items.ensures) c.loop-number-test.true

  known : get_or c.args.kept.now c.loop-number.number-index 0 < c.args.sheet.now.count
  known =
      rw (length_held c.args.sheet.now.count c.args.sheet.now.cells) at
      (rest_known (formula_of c.args.sheet.now) c.args.i c.args.kept.now _ c.requires _ more)

pub loop-number-init : goal.loop-number-init
loop-number-init c = rest_start _ _ _ _ c.requires _ c.truncate.ensures

pub push_clause-requires : goal.push_clause-requires
push_clause-requires c =
    let turn = (goal.at.push_clause-requires c).In-loop-number in
    let s = c.args.sheet.now in
    let t = c.loop-number.trial in
    let here : c.from.result ≡ get_or c.args.kept.now c.loop-number.number-index 0 =
    c.from.ensures ∙ ap (λ (xs : List ℕ). get_or xs c.loop-number.number-index 0) c.numbers-number-items.ensures in
    let same : t.n ≡ s.n = ap (λ (f : Formula). f.n) c.loop-number.invariant in
    let few = rest_few (formula_of s) c.args.i c.args.kept.now _ c.requires _ (more turn) (formula_of t) c.loop-number.invariant in
    let own = length_held t.count t.cells in
    let all = length_held s.count s.cells in
    (omega (arith, here, known turn), omega (arith, same), omega (arith, few, own, all, s.holds.room))

pub loop-number-preserved : goal.loop-number-preserved
loop-number-preserved c =
    let turn = (goal.at.loop-number-preserved c).In-loop-number in
    let s = c.args.sheet.now in
    let f = formula_of s in
    let here : c.from.result ≡ get_or c.args.kept.now c.loop-number.number-index 0 =
    c.from.ensures ∙ ap (λ (xs : List ℕ). get_or xs c.loop-number.number-index 0) c.numbers-number-items.ensures in
    let inside : c.from.result < s.count = omega (arith, here, known turn) in
    let clause = sym (held_at s.count s.cells c.from.result inside) ∙ ap (λ (i : ℕ). get_or f.clauses i _) here in
    rest_next f c.args.i c.args.kept.now _ c.requires _ (more turn) (formula_of c.loop-number.trial) _ c.loop-number.invariant _ clause
    c.push_clause.ensures.formula

pub returns : goal.returns
returns c =
    let all = c.numbers-number-items.ensures in
    rest_done _ _ _ _ c.requires c.loop-number.number-index (omega (arith, ap (λ (xs : List ℕ). length xs) all)) _ c.loop-number.invariant
