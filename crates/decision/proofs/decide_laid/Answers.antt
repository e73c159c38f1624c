-- `decide_laid` meets its contract: rounds where the clauses are Horn, and balls otherwise.
use mathlib.Core.Path.{sym, ap, ◌∙◌}
use mathlib.Core.List.{List}
use Rattle.formula.specs.Reading.{formula_of}
use Rattle.tree.specs.Budget.{answer}
use Rattle.search.specs.Run.{Block, plan, search_of, run}
use Rattle.search.specs.Machine.{search_in}
use Rattle.decision.specs.MachineLaws.{judged_horn, judged_balls}
use Rattle.decision.proofs.decide_laid.Goals as goal

pub rounds-found-requires : goal.rounds-found-requires
rounds-found-requires c = let horn = rw (c.clauses.ensures.0, c.clauses.ensures.1) at c.is_horn.ensures in sym horn ∙ c.if-is_horn.true

pub returns-then-is_horn : goal.returns-then-is_horn
returns-then-is_horn c size radius planned =
    let s = c.args.sheet.now in
    let horn = rw (c.clauses.ensures.0, c.clauses.ensures.1) at c.is_horn.ensures in
    c.decided.ensures ∙ judged_horn (plan size radius) _ (formula_of s) (sym horn ∙ c.if-is_horn.true) _ c.rounds-found.ensures

pub run_laid-found-requires : goal.run_laid-found-requires
run_laid-found-requires c = let horn = rw (c.clauses.ensures.0, c.clauses.ensures.1) at c.is_horn.ensures in c.requires (sym horn ∙ c.if-is_horn.false)

pub returns : goal.returns
unfolding search_in search_of
returns c size radius planned =
    let a = c.args in
    let s = a.sheet.now in
    let horn = rw (c.clauses.ensures.0, c.clauses.ensures.1) at c.is_horn.ensures in
    let balls = sym horn ∙ c.if-is_horn.false in
    let same = ap (λ (bs : List Block). answer a.budget (run (search_in s.count s.cells bs))) (planned balls) in
    c.decided-2.ensures ∙ judged_balls (plan size radius) _ (formula_of s) balls _ (c.run_laid-found.ensures ∙ same)
