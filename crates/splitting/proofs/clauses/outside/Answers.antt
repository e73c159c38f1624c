-- `outside` meets its contract: one operation on all lanes.
use borrow.Author.Rules.{rules}
use Prim.Native.Nat.{◌^◌, ◌<◌}
use Rattle.words.proofs.BitLaws.{bit_without}
use Rattle.planes.specs.Machine.{lanes}
use Rattle.splitting.proofs.clauses.outside.Goals as goal

pub returns : goal.returns
returns c j l =
    let fits : c.args.other < 2 ^ lanes = search rules in
    bit_without lanes c.args.word c.args.other j fits l
