-- A word is among a clause's just where its literal is.
use Rattle.std.proofs.Common.{◌∙◌}
use Rattle.formula.proofs.SetLaws.{any_stands}
use Rattle.formula.proofs.sets.literal_stands.Goals as goal

pub returns : goal.returns
returns c = c.contains.ensures.value ∙ any_stands c.args.word c.args.d.now
