-- `leg_by_balls` meets its contract: the codes are made once, M is their product, then the checks, and the balls where all pass.
use mathlib.Core.Path.{◌≡◌, sym, ap, ◌∙◌}
use Prim.Native.Nat.{ℕ, ◌^◌, min}
use native.Mathlib.Omega.{arith}
use Rattle.formula.specs.Formula.{Formula}
use Rattle.formula.specs.Reading.{formula_of}
use Rattle.formula.proofs.ResultLaws.{passed_on}
use Rattle.search.specs.Run.{centre_count, search_of}
use Rattle.search.specs.Machine.{plan_in, blocks_of, search_in, progress_in}
use Rattle.legs.specs.Legs.{centres}
use Rattle.legs.proofs.LegLaws.{checks_fine}
use Rattle.legs.proofs.MachineLaws.{checks_cut, leg_declines, leg_moved_on}
use Rattle.legs.proofs.leg_by_balls.Goals as goal
use Rattle.legs.proofs.leg_by_balls.Goals.{After-centres-centres}

-- M, as it is counted
module _ (c : After-centres-centres) where
  abbrev f : Formula
  f = formula_of c.args.sheet.now

  counted : c.centres-centres.result ≡ min (centres (plan_in c.args.plan) f) (2 ^ 63)
  counted = rw (c.lay_out.ensures.laid, c.empty-codes.ensures.named.1) at c.centres-centres.ensures

  every : centre_count (blocks_of c.lay_out.new.self) ≡ centres (plan_in c.args.plan) f
  every = rw (c.lay_out.ensures.laid, c.empty-codes.ensures.named.1)

pub returns-in_err-check_leg : goal.returns-in_err-check_leg
returns-in_err-check_leg c =
    let t = (goal.at.returns-in_err-check_leg c).After-centres-centres in
    let said = c.in_err-check_leg.ensures ∙ checks_cut _ _ _ _ _ (f t) _ _ (counted t) in
    rw (passed_on c.from_residual.result _ c.from_residual.ensures.1) (leg_declines c.args.before _ _ _ (f t) _ _ _ (sym said))

pub leg-progress-requires : goal.leg-progress-requires
leg-progress-requires c =
    let t = (goal.at.leg-progress-requires c).After-centres-centres in
    let said = c.in_ok-check_leg.ensures ∙ checks_cut _ _ _ _ _ (f t) _ _ (counted t) in
    let fine = checks_fine _ _ _ _ _ _ _ (sym said) in
    record { same_n = sym c.lay_out.ensures.named.0; start = omega (arith, fine.few, fine.left) }

pub returns : goal.returns
unfolding search_in search_of
returns c =
    let t = (goal.at.returns c).After-centres-centres in
    let a = c.args in
    let said = c.in_ok-check_leg.ensures ∙ checks_cut _ _ _ _ _ (f t) _ _ (counted t) in
    let fine = checks_fine _ _ _ _ _ _ _ (sym said) in
    let all : c.centres-centres.result ≡ centre_count (blocks_of c.lay_out.new.self) = omega (arith, counted t, every t, fine.few) in
    let made = c.leg-progress.ensures ∙ rw (c.lay_out.ensures.laid, c.empty-codes.ensures.named.1) in
    c.advance.ensures ∙ leg_moved_on a.before _ _ _ (f t) (sym said) _ (ap (λ (x : ℕ). progress_in x c.leg-progress.result) all ∙ made)
