-- `leg` meets its contract: tables and planes are made once, and then the balls are searched in order.
use Rattle.std.proofs.Common.{arith}
use Rattle.formula.proofs.TableLaws.{table_wider}
use Rattle.ball.specs.Machine.{Ready}
use Rattle.search.proofs.leg.Goals as goal

pub invariant_of-ball : goal.invariant_of-ball
invariant_of-ball c =
    let s = c.args.sheet.now in
    let size = c.of-occ.ensures.count in
    record { ready = rw size (record { table = table_wider _ _ _ _ s.small s.holds; occurs = c.of-occ.ensures.occurs }); whole = size }

pub balls-requires : goal.balls-requires
balls-requires c =
    let s = c.args.sheet.now in
    let begins = c.start-planes.ensures in
    let size = c.of-occ.ensures.count in
    let occurs = c.of-occ.ensures.occurs in
    let ready : Ready s.count s.cells _ = record { table = table_wider _ _ _ _ s.small s.holds; occurs = occurs } in
    let shown = (rw size at begins.shows) s.cells s.holds occurs in
    record {
      size = begins.size;
      shows = shown;
      same = c.requires.same_n;
      reach = rw c.radius.ensures at ((rw size at c.flips-reach.ensures) _ ready shown);
      start = omega (arith, c.requires.start);
      limit = omega (arith, c.ranges.budget.fits);
    }
