-- `alike` meets its contract: n is compared first, then the clauses.
use borrow.Author.Tests.{eq-eqb, ne_eqb}
use Rattle.alike.specs.Alike.{alike}
use Rattle.alike.proofs.alike.Goals as goal

pub returns-then-f-g : goal.returns-then-f-g
unfolding alike
returns-then-f-g c =
    let same = rw (c.clauses.ensures.0, c.clauses.ensures.1, c.clauses-then-f-g.ensures.0, c.clauses-then-f-g.ensures.1) at c.same_clauses.ensures in
    rw (eq-eqb c.args.f.now.n c.args.g.now.n c.if-f-g.true) same

pub returns-else-f-g : goal.returns-else-f-g
unfolding alike
returns-else-f-g c = rw (ne_eqb c.args.f.now.n c.args.g.now.n c.if-f-g.false)
