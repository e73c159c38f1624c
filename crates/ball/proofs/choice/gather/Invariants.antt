-- `gather` meets its contract: the variables of the clauses found so far are in the set.
use mathlib.Core.Path.{◌≡◌}
use mathlib.Core.Bool.{true}
use mathlib.Core.List.{List}
use Prim.Native.Nat.{ℕ, ◌-◌, ◌<◌}
use Rattle.std.specs.Prelude.{MatchOption, IfSome, unwrap_or}
use Rattle.words.specs.Machine.{set_of}
use Rattle.planes.specs.Machine.{lane_count}
use Rattle.ball.specs.Ball.{State}
use Rattle.ball.specs.Machine.{Ready, Shows, is_new, Gathered}
use Rattle.ball.proofs.choice.gather.Given as goal

abbrev pub invariant-loop-next : goal.invariant-loop-next
invariant-loop-next l =
    IfSome l.next (λ i. i < lane_count)
    × ((cells : List ℕ) (s : State) → Ready l.occ.count cells l.occ.table → Shows l.occ.count cells s l.planes →
    let new = is_new cells s l.row.word in
    let gathered = λ (k : ℕ). Gathered k cells new (set_of l.initial.named) (set_of l.named) in
    MatchOption l.next (gathered l.occ.count) (λ i. (i < l.occ.count) × (new i ≡ true) × gathered i))

abbrev pub decreases-loop-next : goal.decreases-loop-next
decreases-loop-next l = lane_count - unwrap_or l.next lane_count
