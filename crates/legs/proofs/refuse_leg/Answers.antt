-- `refuse_leg` meets its contract: the reply of the refusal, and the record that came.
use mathlib.Core.Path.{ap, ap₂, ◌∙◌}
use Prim.Native.Nat.{ℕ}
use Rattle.decision.specs.Answers.{declines}
use Rattle.legs.specs.declared.LegReply.{LegReply}
use Rattle.legs.specs.Legs.{about, refused_leg}
use Rattle.legs.proofs.refuse_leg.Goals as goal

pub returns : goal.returns
unfolding refused_leg
returns c =
    let numbers = c.declined-reply.ensures ∙ ap (λ (n : ℕ). declines n c.args.declined.why.place) c.number.ensures in
    let reply = c.about.ensures ∙ ap₂ about c.number-2.ensures numbers in
    ap (λ (x : LegReply). record { reply = x; checkpoint = c.args.checkpoint }) reply
