-- `clause_counts` meets its contract: the sheet's refusal, or the reading of the clause of the sheet that was read.
use mathlib.Core.Path.{ap, ap₂, ◌∙◌}
use Prim.Native.Nat.{ℕ}
use Rattle.ball.specs.Ball.{State}
use Rattle.ball.specs.Machine.{reading_in}
use Rattle.engine.specs.Replies.{clause_counts_to}
use Rattle.engine.proofs.MachineLaws.{counts_declined, counts_read}
use Rattle.engine.proofs.exports.clause_counts.Goals as goal

pub returns-in-Ok : goal.returns-in-Ok
unfolding reading_in
returns-in-Ok c =
    let state = ap₂ {C = State} (λ (m f : ℕ). record { assignment = m; flipped = f })
    c.from_words-assignment.ensures c.from_words-set.ensures in
    counts_read _ _ _ _ (rw c.in-Ok.is at c.read.ensures) (reading_in c.clause_reading-reading.result)
    c.clause_reading-reading.ensures
    ∙ ap (clause_counts_to _ _) state

pub returns-in-Err : goal.returns-in-Err
returns-in-Err c =
    rw c.number.ensures (counts_declined _ _ _ _ (rw c.in-Err.is at c.read.ensures))
