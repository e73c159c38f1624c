-- `Reading::with_literal` meets its contract: a literal is met, flipped, or open.
use mathlib.Core.Path.{sym, ◌∙◌}
use Rattle.ball.specs.Ball.{is_flipped}
use Rattle.ball.specs.Machine.{reading_in}
use Rattle.ball.proofs.ClauseLaws.{counted_met, counted_flipped, counted_open}
use Rattle.ball.proofs.reading.Reading.with_literal.Goals as goal

pub returns-then-is_met : goal.returns-then-is_met
unfolding reading_in
returns-then-is_met c = counted_met _ _ _ (sym c.is_met.ensures ∙ c.if-is_met.true)

pub returns-then-test : goal.returns-then-test
unfolding reading_in is_flipped
returns-then-test c =
    let unmet = sym c.is_met.ensures ∙ c.if-is_met.false in
    counted_flipped _ _ _ unmet (sym (rw c.bit.ensures.0 at c.test.ensures) ∙ c.if-test.true)

pub returns : goal.returns
unfolding reading_in is_flipped
returns c =
    let unmet = sym c.is_met.ensures ∙ c.if-is_met.false in
    counted_open _ _ _ unmet (sym (rw c.bit.ensures.0 at c.test.ensures) ∙ c.if-test.false)
