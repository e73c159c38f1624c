-- `Path::flip` meets its contract: both numbers are toggled at the literal's bit.
use mathlib.Core.Path.{ap, ap₂, refl, ◌∙◌}
use Prim.Native.Nat.{ℕ}
use Rattle.words.specs.Bits.{toggle}
use Rattle.ball.specs.Ball.{State, flip}
use Rattle.ball.specs.Machine.{state_in}
use Rattle.ball.proofs.path.Path.flip.Goals as goal

pub returns : goal.returns
unfolding state_in flip
returns c =
    record {
      result_value = ap₂ {C = State} (λ (a f : ℕ). record { assignment = a; flipped = f })
          (c.toggled.ensures ∙ ap (toggle _) c.bit.ensures.0) (c.toggled-2.ensures ∙ ap (toggle _) c.bit-2.ensures.0);
      forced_value = refl;
    }
