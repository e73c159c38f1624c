-- `Path::is_free` meets its contract: the literal's bit is in neither set.
use mathlib.Core.Path.{◌≡◌, refl, ap, ◌∙◌}
use mathlib.Core.Bool.{Bool, true, false, not, ◌&&◌, ◌||◌}
use Rattle.words.specs.Bits.{bit}
use Rattle.words.specs.Machine.{set_of}
use Rattle.formula.specs.Formula.{bit_of, literal_of}
use Rattle.ball.specs.Ball.{is_flipped}
use Rattle.ball.specs.Machine.{state_in}
use Rattle.ball.proofs.path.Path.is_free.Goals as goal

neither : (a b : Bool) → not (a || b) ≡ (not b && not a)
neither true true = refl
neither true false = refl
neither false true = refl
neither false false = refl

pub returns : goal.returns
unfolding is_flipped state_in
returns c =
    let a = c.args in
    let l = literal_of a.literal.word in
    let free = rw c.bit.ensures.0 at (c.test.ensures ∙ c.united-barred.ensures _ c.bit.ensures.1) in
    ap not free
    ∙ neither (is_flipped (state_in a.self) l) (bit (set_of a.self.forced) (bit_of l))
