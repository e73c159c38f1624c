-- `code::top` finds the largest gain.
use Rattle.std.proofs.Common.{rules, ◌≡◌, ◌∙◌, max}
use Rattle.std.specs.List.{fold}
use Rattle.code.proofs.MachineLaws.{peak_all}
use Rattle.code.proofs.greedy.top.Goals as goal

pub returns : goal.returns
returns c =
    let folded : c.fold.result ≡ fold max 0 c.args.gains.now = search rules in
    folded ∙ peak_all c.args.gains.now
