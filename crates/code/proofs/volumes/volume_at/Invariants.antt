-- `code::volume_at` meets its contract. The invariant: `binomial` is C(t, i), and `sum` is V(t, i).
use mathlib.Core.Path.{◌≡◌}
use Rattle.code.specs.Volume.{choose, volume}
use Rattle.code.proofs.volumes.volume_at.Given as goal

abbrev pub invariant-loop-i : goal.invariant-loop-i
invariant-loop-i l = (l.binomial ≡ choose l.t l.i) × (l.sum ≡ volume l.t l.i)
