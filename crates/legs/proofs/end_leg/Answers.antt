-- `end_leg` meets its contract: the reply of the decision, and the record given.
use mathlib.Core.Path.{ap, ◌∙◌}
use Rattle.legs.specs.declared.LegReply.{LegReply}
use Rattle.legs.specs.Legs.{about, decided_leg}
use Rattle.legs.proofs.end_leg.Goals as goal

pub returns : goal.returns
unfolding decided_leg
returns c =
    let reply = c.about.ensures ∙ ap (about 0) c.from.ensures in
    ap (λ (x : LegReply). record { reply = x; checkpoint = c.args.checkpoint }) reply
