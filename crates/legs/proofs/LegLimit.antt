-- At most M legs work balls, by a budget for the longest clause of a formula in which each leg's clauses stand (02, paper 12).
use Rattle.std.specs.Prelude.{◌≡◌, true, List, ℕ, ◌≤◌, ◌<◌, eqb}
use Rattle.std.proofs.Common.{le_trans}
use Rattle.words.specs.Lists.{In}
use Rattle.formula.specs.Formula.{Formula}
use Rattle.formula.specs.Sheet.{accepted, parse}
use Rattle.formula.specs.Sets.{stands}
use Rattle.formula.proofs.ParseAccepted.{parse_well_formed}
use Rattle.tree.proofs.TreeLaws.{powers_more}
use Rattle.search.specs.Run.{Plan, longest}
use Rattle.search.proofs.LegLaws.{stands_longest}
use Rattle.decision.specs.Answers.{BALLS, SPENT}
use Rattle.legs.specs.Legs.{Leg, Turn, turns, start, ball_legs, centres, Enough, EnoughFor}
use Rattle.legs.proofs.LegAnswers.{legs_end}

-- The same where the clauses of each leg all stand in g, with the longest clause of g.
pub legs_limit : (p : Plan) (g : Formula) (ls : List Leg) → ((t : Turn) → In t (turns (start p g) ls) → EnoughFor g t) →
    (ball_legs (turns (start p g) ls) ≤ centres p g)
    × (((t : Turn) → In t (turns (start p g) ls) → eqb t.reply.road BALLS ≡ true → t.reply.verdict ≡ SPENT) → ball_legs (turns (start p g) ls) < centres p g)
legs_limit p g ls each = legs_end p g ls (λ t i. enough t (each t i))
  where
    longer : (s : List ℕ) (f : Formula) → parse s ≡ accepted f → stands f.clauses g.clauses ≡ true → longest f.clauses ≤ longest g.clauses
    longer s f read st = stands_longest f.clauses g.clauses (λ c i. ((parse_well_formed s f read).each c i).once) st

    enough : (t : Turn) → EnoughFor g t → Enough t
    enough t (kept, f, read, each) =
        (kept, f, read, λ other. let (st, affords) = each other in le_trans (powers_more _ (longer t.leg.sheet f read st)) affords)
