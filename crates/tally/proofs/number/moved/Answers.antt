-- `number::moved` meets its contract: the first word that names the variable is the literal that does.
use Rattle.std.proofs.Common.{rules, tests, ◌/◌, ◌∙◌}
use Rattle.std.specs.Prelude.{eqb}
use Rattle.std.proofs.lemmas.Iterator.{YieldsList-from_slice}
use Rattle.std.proofs.lemmas.Iterator.Search.{find_from_yields_List}
use Rattle.std.proofs.lemmas.List.{length-map}
use Rattle.formula.specs.Formula.{literal_of}
use Rattle.tally.proofs.NumberLaws.{moved_by, moved_not}
use Rattle.tally.proofs.MachineLaws.{word_known, word_found, word_lacking}
use Rattle.tally.proofs.number.moved.Goals as goal

pub returns-in_default : goal.returns-in_default
returns-in_default c =
    let found = find_from_yields_List (λ w. eqb (w / 2) c.args.variable) _ _ _ c.find.ensures.ran (YieldsList-from_slice c.args.clause.now cc) (λ x b q k. search (rules, tests)) in
    moved_not _ _ _ _ (word_lacking _ _ (rw c.in_default.is at found))

pub invariant_of-literal : goal.invariant_of-literal
invariant_of-literal c =
    let found = find_from_yields_List (λ w. eqb (w / 2) c.args.variable) _ _ _ c.find.ensures.ran (YieldsList-from_slice c.args.clause.now cc) (λ x b q k. search (rules, tests)) in
    record { known = word_known _ c.requires _ (word_found _ _ _ (rw c.in-Some.is at found)).0 }

pub returns : goal.returns
returns c =
    let found = find_from_yields_List (λ w. eqb (w / 2) c.args.variable) _ _ _ c.find.ensures.ran (YieldsList-from_slice c.args.clause.now cc) (λ x b q k. search (rules, tests)) in
    let (stands, named) = word_found _ _ _ (rw c.in-Some.is at found) in
    c.stepped.ensures ∙ rw (c.is_met.ensures, ← length-map c.args.clause.now literal_of) (moved_by _ _ _ _ c.requires.once _ stands named)
