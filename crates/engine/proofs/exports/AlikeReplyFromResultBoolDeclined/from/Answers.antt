-- `AlikeReply::from` meets its contract: the numbers of each case are those of the definition.
use Rattle.std.proofs.Common.{refl}
use Rattle.alike.specs.Machine.{comparison_in}
use Rattle.engine.specs.Replies.{comparison_of}
use Rattle.engine.proofs.exports.AlikeReplyFromResultBoolDeclined.from.Goals as goal

pub returns-then-same : goal.returns-then-same
unfolding comparison_of comparison_in
returns-then-same c = rw (c.in-Ok.is, c.if-same.true) refl

pub returns-else-same : goal.returns-else-same
unfolding comparison_of comparison_in
returns-else-same c = rw (c.in-Ok.is, c.if-same.false) refl

pub returns-in-Err : goal.returns-in-Err
unfolding comparison_of comparison_in
returns-in-Err c = rw (c.in-Err.is, c.number.ensures, c.number-in-Err.ensures) refl
