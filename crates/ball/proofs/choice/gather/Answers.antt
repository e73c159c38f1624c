use mathlib.Core.Path.{◌≡◌, ap, ◌∙◌}
use Prim.Native.Nat.{ℕ, ◌+◌, ◌<◌}
use Rattle.words.specs.Bits.{bit, width}
use Rattle.words.specs.Machine.{set_of}
use Rattle.formula.specs.Formula.{names}
use Rattle.formula.specs.Machine.{clause_at}
use Rattle.ball.proofs.ForcedLaws.{gathered_start, gathered_on, below_lanes}
use Rattle.ball.proofs.choice.gather.Goals as goal

pub loop-next-init : goal.loop-next-init
loop-next-init c = (
  below_lanes _ _ c.next-next.ensures.within,
  λ cells s ready shows. gathered_start _ _ _ _ _ (c.next-next.ensures.by_index cells _ _ ready.occurs shows.met shows.«open»),
)

pub loop-next-preserved : goal.loop-next-preserved
loop-next-preserved c = (
  below_lanes _ _ c.next-next-in-Some.ensures.within,
  λ cells s ready shows.
      let i = c.in-Some.i in
      let (inside, here, g) = rw c.in-Some.is at (c.loop-next.invariant.1 cells s ready shows) in
      let own : (v : ℕ) → v < width → bit (set_of c.set_at-own.result) v ≡ names (v + 1) (clause_at cells i) =
      λ v h. ap (λ (x : ℕ). bit x v) c.set_at-own.ensures ∙ ready.occurs.sets i v inside h in
      gathered_on _ _ _ _ i inside g here _ _ own c.united-named.ensures _
      (c.next-next-in-Some.ensures.by_index cells _ _ ready.occurs shows.met shows.«open») c.next-next-in-Some.ensures.within,
)
