-- `code::power` meets its contract: the shift loses nothing.
use mathlib.Core.Path.{◌≡◌, ◌∙◌}
use Prim.Native.Nat.{◌*◌, ◌%◌, ◌^◌}
use native.Mathlib.Nat.{one-mul}
use native.Mathlib.Omega.{arith}
use lib.Dec.{lit<}
use lib.Pow.{shl_exact, pow_mono}
use Rattle.code.proofs.greedy.power.Goals as goal

pub returns : goal.returns
returns c =
    let e : 1 * 2 ^ c.args.t % 2 ^ 64 ≡ 1 * 2 ^ c.args.t = shl_exact 1 c.args.t 64 (lit< tt) (omega arith) in
    (e ∙ one-mul _, rw (e, one-mul) (pow_mono c.requires))
