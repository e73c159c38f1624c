-- `Assignment::test` meets its contract: the bit stands in one of the two halves, and a shift is a quotient.
use Rattle.std.specs.Prelude.{ℕ, ◌%◌, ◌^◌}
use Rattle.std.proofs.Common.{ap, ◌∙◌, arith, mod-eq_of_lt}
use Rattle.words.specs.Bits.{bit}
use Rattle.words.proofs.SetLaws.{Fits, fits_width, low_has, high_has}
use Rattle.words.proofs.Assignment.test.Goals as goal
use Rattle.words.proofs.Assignment.test.Goals.{then-v-lt-HALF, else-v-lt-HALF}

pub returns : goal.returns
unfolding bit
returns c =
    let a = c.args in
    let fits : Fits a.self = fits_width a.self (omega arith) in
    let place : ℕ = a.v % 64 in
    let at = λ (x : ℕ). bit (x % 2 ^ 64) place in
    elim c.if-v-lt-HALF.branch [
      | then-v-lt-HALF w ↦ ap at w.above-is ∙ low_has a.self fits a.v w.if-v-lt-HALF.true
      | else-v-lt-HALF w ↦
          ap at w.above-is ∙ ap (λ (x : ℕ). bit x place) (mod-eq_of_lt fits.1) ∙ high_has a.self fits a.v w.if-v-lt-HALF.false c.requires
    ]
