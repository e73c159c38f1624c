-- `Assignment::meets` meets its contract: the numbers have a bit in common where the sets have a variable.
use Rattle.std.proofs.Common.{arith}
use Rattle.words.proofs.SetLaws.{sets_meet}
use Rattle.words.proofs.Assignment.meets.Goals as goal

pub returns : goal.returns
returns c = sets_meet c.args.self c.args.other (omega arith) (omega arith)
