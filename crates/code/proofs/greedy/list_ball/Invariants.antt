-- `code::list_ball` lists the words below n of at most s bits. The invariant: those below x are listed.
use mathlib.Core.Path.{◌≡◌}
use Prim.Native.Nat.{◌≤◌}
use lib.ListN.{take}
use Rattle.words.specs.Lists.{keep, span}
use Rattle.code.specs.Code.{near}
use Rattle.code.proofs.greedy.list_ball.Given as goal

abbrev pub invariant-loop-x : goal.invariant-loop-x
invariant-loop-x l = (l.m ≤ l.x) × (take l.m l.ball ≡ keep (near l.s 0) (span 0 l.x))
