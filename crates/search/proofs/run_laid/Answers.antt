-- `run_laid` meets its contract: one leg from the first ball on is the run.
use Rattle.std.proofs.Common.{sym, ap, ◌∙◌}
use Rattle.tree.specs.Legs.{Progress, cut}
use Rattle.search.specs.Run.{centre_count}
use Rattle.search.specs.Machine.{blocks_of, search_by}
use Rattle.search.proofs.CallLaws.{answer_balls}
use Rattle.search.proofs.run_laid.Goals as goal

pub returns : goal.returns
returns c =
    let a = c.args in
    c.in_one.ensures (centre_count (blocks_of a.codes.now))
    ∙ ap (λ (p : Progress). cut a.budget p.answer) c.leg.ensures
    ∙ sym (answer_balls a.budget (search_by a.sheet.now a.codes.now))
