-- `toggle_bit` meets its contract: the toggle of the literal that is met after it moves the planes.
use mathlib.Core.Path.{sym, ap}
use mathlib.Core.Bool.{not}
use Rattle.search.proofs.BallsLaws.{toggles}
use Rattle.search.proofs.balls.toggle_bit.Goals as goal

pub returns : goal.returns
returns c =
    let have = c.test.ensures in
    let v = c.args.v in
    let flipped = rw c.of-literal.ensures at c.toggle.ensures in
    record {
      moves = rw c.toggled.ensures (toggles _ _ _ _ _ v (ap not (sym have)) _ flipped);
      result_value = c.toggled.ensures;
    }
