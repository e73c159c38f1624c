-- `sets::clauses_stand` meets its contract: all clauses stand where none is lacking.
use Rattle.std.proofs.Common.{◌≡◌, is_none, rules, ap, ◌∙◌}
use Rattle.formula.specs.Sheet.{header_words}
use Rattle.formula.proofs.LackingLaws.{lacking_stands}
use Rattle.formula.proofs.sets.clauses_stand.Goals as goal

pub returns : goal.returns
returns c =
    let none : c.is_none.result ≡ is_none c.first_lacking.result = search rules in
    none ∙ ap is_none c.first_lacking.ensures ∙ lacking_stands header_words _ _
