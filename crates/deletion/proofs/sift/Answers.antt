-- `sift` meets its contract: a law for each way through a turn.
use mathlib.Core.Path.{◌≡◌, sym, ap, subst, ◌∙◌}
use Prim.Native.Nat.{ℕ, suc, ◌-◌}
use native.Mathlib.Omega.{arith}
use lib.ListN.{length}
use mathlib.Core.List.{[], ◌++◌}
use Rattle.words.specs.Lists.{span}
use Rattle.formula.specs.Formula.{Formula}
use Rattle.formula.specs.Reading.{formula_of}
use Rattle.formula.proofs.TableLaws.{length_held}
use Rattle.formula.proofs.ResultLaws.{passed_on}
use Rattle.code.specs.Code.{code}
use Rattle.search.specs.Run.{plan, blocks}
use Rattle.search.specs.Machine.{plan_in}
use Rattle.decision.specs.Answers.{Decision, judged}
use Rattle.decision.specs.Machine.{decision_in, Planned}
use Rattle.deletion.specs.Core.{only, sift}
use Rattle.deletion.specs.Machine.{Sifting}
use Rattle.deletion.proofs.MachineLaws.{sifting_start, sifting_tries, sifting_balls, sifting_room, sifting_onward, sifting_ends, sifting_done, sifting_few}
use Rattle.deletion.proofs.sift.Goals as goal
use Rattle.deletion.proofs.sift.Goals.{In-loop-i}

-- a turn at clause i - 1
module _ (c : In-loop-i) where
  abbrev f : Formula
  f = formula_of c.args.sheet.now

  all : length f.clauses ≡ c.args.sheet.now.count
  all = length_held c.args.sheet.now.count c.args.sheet.now.cells

  turn : Sifting (plan_in c.args.codes.now.plan) c.args.budget f c.loop-i.kept (formula_of c.loop-i.trial) (suc (c.loop-i.i - 1))
  turn =
      let up : c.loop-i.i ≡ suc (c.loop-i.i - 1) = omega (arith, c.loop-i-test.true) in
      subst (λ (x : ℕ). Sifting (plan_in c.args.codes.now.plan) c.args.budget f c.loop-i.kept (formula_of c.loop-i.trial) x) up c.loop-i.invariant

  -- what the trial comes to, by the plan of the codes
  tried : (u : Formula) → u ≡ only f (span 0 (c.loop-i.i - 1) ++ c.loop-i.kept) → (d : Decision) →
      ((size radius : ℕ) → Planned (plan size radius) u c.args.codes.now → d ≡ judged (plan size radius) c.args.budget u) →
      d ≡ judged (plan_in c.args.codes.now.plan) c.args.budget u
  tried u rest d said =
      let p = c.args.codes.now.plan in
      said p.size p.radius (λ balls.
      c.requires.planned (sifting_balls _ _ _ _ _ _ turn u rest balls)
      ∙ ap (λ (g : Formula). blocks code (plan_in p) g.n) (sym rest))

pub loop-i-init : goal.loop-i-init
loop-i-init c =
    let f = formula_of c.args.sheet.now in
    let all : length f.clauses ≡ c.args.sheet.now.count = length_held c.args.sheet.now.count c.args.sheet.now.cells in
    let p = plan_in c.args.codes.now.plan in
    rw c.none-kept.ensures (subst (λ (x : ℕ). Sifting p c.args.budget f [] f x) all (sifting_start p c.args.budget f))

pub put_rest-requires : goal.put_rest-requires
put_rest-requires c =
    let t = (goal.at.put_rest-requires c).In-loop-i in
    sifting_tries _ _ _ _ _ _ (turn t)

pub decide_laid-rest-requires : goal.decide_laid-rest-requires
decide_laid-rest-requires c =
    let t = (goal.at.decide_laid-rest-requires c).In-loop-i in
    let same : c.put_rest.new.trial.n ≡ c.args.sheet.now.n = ap (λ (g : Formula). g.n) c.put_rest.ensures in
    λ balls. same ∙ c.requires.coded (sifting_balls _ _ _ _ _ _ (turn t) (formula_of c.put_rest.new.trial) c.put_rest.ensures balls)

pub turn-requires : goal.turn-requires
turn-requires c =
    let t = (goal.at.turn-requires c).In-loop-i in
    let few = sifting_room _ _ _ _ _ _ (turn t) in
    let room = c.args.sheet.now.holds.room in
    (omega (arith, c.loop-i-test.true, c.loop-i.auto.i, room), omega (arith, few, all t, room))

pub loop-i-preserved : goal.loop-i-preserved
unfolding decision_in
loop-i-preserved c =
    let t = (goal.at.loop-i-preserved c).In-loop-i in
    sifting_onward _ _ _ _ _ _ (turn t) _ c.put_rest.ensures _ (tried t _ c.put_rest.ensures _ c.decide_laid-rest.ensures) _ c.in_ok-turn.ensures

pub returns-in_err-turn-clause-sifted : goal.returns-in_err-turn-clause-sifted
unfolding decision_in
returns-in_err-turn-clause-sifted c =
    let t = (goal.at.returns-in_err-turn-clause-sifted c).In-loop-i in
    let a = c.args in
    let (same, ends) = c.in_err-turn.ensures in
    rw (passed_on c.from_residual.result _ c.from_residual.ensures.1, same)
    (
    sifting_ends _ _ _ _ _ _ (turn t) _ c.put_rest.ensures _ (tried t _ c.put_rest.ensures _ c.decide_laid-rest.ensures) ends
    ∙ ap (λ (x : ℕ). sift (plan_in a.codes.now.plan) a.budget (formula_of a.sheet.now) x []) (all t)
    )

pub returns-clause-sifted : goal.returns-clause-sifted
returns-clause-sifted c =
    let s = c.args.sheet.now in
    let count : length (formula_of s).clauses ≡ s.count = length_held s.count s.cells in
    let a = c.args in
    sifting_done _ _ _ _ _ _ c.loop-i.invariant (omega arith)
    ∙ ap (λ (x : ℕ). sift (plan_in a.codes.now.plan) a.budget (formula_of s) x []) count

pub returns-clause-few : goal.returns-clause-few
returns-clause-few c =
    let s = c.args.sheet.now in
    let count : length (formula_of s).clauses ≡ s.count = length_held s.count s.cells in
    rw (← count) (sifting_few _ _ _ _ _ _ c.loop-i.invariant)
