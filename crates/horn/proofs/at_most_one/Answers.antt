-- `at_most_one` meets its contract: the words that are even are those of the positive literals.
use Rattle.std.proofs.Common.{rules, ◌≡◌, ◌∙◌, ap, ℕ, ◌%◌, eqb, leb}
use Rattle.std.specs.List.{count_by}
use Rattle.horn.proofs.MachineLaws.{positives_counted}
use Rattle.horn.proofs.at_most_one.Goals as goal

pub returns : goal.returns
returns c =
    let even : c.count.result ≡ count_by (λ w. eqb (w % 2) 0) c.args.clause.now = search rules in
    ap (λ (x : ℕ). leb x 1) (even ∙ positives_counted c.args.clause.now)
