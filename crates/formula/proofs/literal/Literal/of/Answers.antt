-- `Literal::of` meets its contract: bit 0 of the word is the sign.
use Rattle.std.proofs.Common.{◌∙◌, sym, add-zero}
use Rattle.formula.specs.Formula.{literal_word}
use Rattle.formula.proofs.literal.Literal.of.Goals as goal
use Rattle.formula.proofs.literal.Literal.of.Goals.{then-positive, else-positive}

pub returns : goal.returns
unfolding literal_word
returns c =
    elim c.if-positive.branch [
      | then-positive w ↦ rw w.if-positive.true (w.result-is ∙ sym (add-zero _))
      | else-positive w ↦ rw w.if-positive.false w.result-is
    ]
