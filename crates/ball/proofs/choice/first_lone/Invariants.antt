-- `first_lone` meets its contract: no clause before the next one meets L, and that one is false.
use mathlib.Core.Path.{◌≡◌}
use mathlib.Core.Bool.{false}
use mathlib.Core.List.{List}
use Prim.Native.Nat.{ℕ, ◌-◌, ◌<◌}
use Rattle.std.specs.Prelude.{MatchOption, unwrap_or}
use Rattle.words.specs.Machine.{set_of}
use Rattle.formula.specs.Machine.{clause_at}
use Rattle.ball.specs.Ball.{State, is_true}
use Rattle.ball.specs.Machine.{Ready, Shows, Standing, FirstFalse}
use Rattle.ball.proofs.ChoiceLaws.{UnsparedTo}
use Rattle.ball.proofs.choice.first_lone.Given as goal

abbrev pub invariant-loop-next : goal.invariant-loop-next
invariant-loop-next l =
    (cells : List ℕ) (s : State) → Ready l.occ.count cells l.occ.table → Shows l.occ.count cells s l.planes →
    Standing l.occ.count cells s (set_of l.forced) → FirstFalse l.occ.count cells s l.from → l.from < l.occ.count →
    let before = UnsparedTo l.occ.count cells s l.from in
    MatchOption l.next (before l.occ.count) (λ i. (i < l.occ.count) × (is_true s (clause_at cells i) ≡ false) × before i)

abbrev pub decreases-loop-next : goal.decreases-loop-next
decreases-loop-next l = l.occ.count - unwrap_or l.next l.occ.count
