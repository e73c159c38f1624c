-- `code::best` finds the best word: the first place of the largest gain.
use mathlib.Core.Path.{◌≡◌, sym, ◌∙◌}
use Prim.Native.Nat.{ℕ}
use native.Mathlib.Nat.{ne_of_lt}
use lib.ListN.{length, get_or}
use Rattle.code.specs.Code.{best}
use Rattle.code.proofs.ChosenLaws.{best_lt, best_first}
use Rattle.code.proofs.MachineLaws.{peak_best}
use Rattle.code.proofs.greedy.best.Goals as goal

pub returns : goal.returns
returns c =
    let cells = c.args.gains.now in
    let f : ℕ → ℕ = λ v. get_or cells v 0 in
    let e : c.top.result ≡ f (best f (length cells)) = c.top.ensures ∙ peak_best f _ c.requires in
    c.place.ensures (best f (length cells)) (best_lt f _ c.requires) (sym e) (λ v l q. ne_of_lt (best_first f _ v l) (q ∙ e))
