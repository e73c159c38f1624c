-- `clause_sets::set_at` meets its contract: what it reads is `set_at`.
use Prim.Native.Nat.{◌+◌, ◌*◌}
use Rattle.planes.specs.Machine.{sets_from, set_at}
use Rattle.planes.proofs.OccurLaws.{set_joined}
use Rattle.planes.proofs.clause_sets.set_at.Goals as goal

pub returns : goal.returns
unfolding set_at
returns c =
    let at = sets_from + 2 * c.args.i in
    rw (c.from.ensures, c.from-2.ensures) (set_joined _ _ (c.fits-occ (at + 1)) (c.fits-occ at))
