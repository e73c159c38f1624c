-- All words of a clause stand in another just where the clause is within the other.
use Rattle.std.proofs.Common.{rules, tests, map, ◌∙◌}
use Rattle.std.proofs.lemmas.Iterator.{YieldsList-from_slice}
use Rattle.std.proofs.lemmas.Iterator.Search.{all_from_yields_List}
use Rattle.words.specs.Lists.{some}
use Rattle.formula.specs.Formula.{literal_of}
use Rattle.formula.specs.Sets.{same_literal}
use Rattle.formula.proofs.SetLaws.{words_within}
use Rattle.formula.proofs.sets.clause_within.Goals as goal

pub returns : goal.returns
returns c =
    let ws = c.args.c.now in
    let d = map literal_of c.args.d.now in
    all_from_yields_List (λ w. some (same_literal (literal_of w)) d) _ _ _ c.all.ensures.ran (YieldsList-from_slice ws cc) (λ x b q k. search (rules, tests))
    ∙ words_within ws d
