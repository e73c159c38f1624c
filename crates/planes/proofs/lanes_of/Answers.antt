-- `lanes_of` meets its contract, by the kind: the lanes of two tests are those that both have.
use mathlib.Core.Path.{ap₂, ◌∙◌}
use mathlib.Core.Bool.{◌&&◌}
use Rattle.planes.specs.Machine.{test_of}
use Rattle.planes.proofs.LaneLaws.{bit-bit_and}
use Rattle.planes.proofs.lanes_of.Goals as goal

pub returns-in-Zero : goal.returns-in-Zero
unfolding test_of
returns-in-Zero c = rw c.in-Zero.is (record { each = rw c.slot_at-first.ensures at c.zeros.ensures })

pub returns-in-Few : goal.returns-in-Few
unfolding test_of
returns-in-Few c =
    let zero = rw c.slot_at-first.ensures at c.zeros-in-Few.ensures in
    let few = rw c.slot_at.ensures at c.at_most_two.ensures in
    rw c.in-Few.is (record { each = λ j l. bit-bit_and _ _ j ∙ ap₂ ◌&&◌ (zero j l) (few j l) })

pub returns-in-Lone : goal.returns-in-Lone
unfolding test_of
returns-in-Lone c =
    let one = rw c.slot_at-first.ensures at c.ones.ensures in
    let none = rw c.slot_at-in-Lone.ensures at c.zeros-in-Lone.ensures in
    rw c.in-Lone.is (record { each = λ j l. bit-bit_and _ _ j ∙ ap₂ ◌&&◌ (one j l) (none j l) })

pub returns-in-Both : goal.returns-in-Both
unfolding test_of
returns-in-Both c =
    let zero = rw c.slot_at-first.ensures at c.zeros-in-Both.ensures in
    let none = rw c.slot_at-in-Both.ensures at c.zeros-in-Both-2.ensures in
    rw c.in-Both.is (record { each = λ j l. bit-bit_and _ _ j ∙ ap₂ ◌&&◌ (zero j l) (none j l) })
