use mathlib.Core.Path.{ap₂, ◌∙◌}
use Prim.Native.Nat.{◌<◌}
use native.Mathlib.Omega.{arith}
use lib.ListN.{length}
use Rattle.words.specs.Bits.{toggle}
use Rattle.planes.proofs.OccurLaws.{named_none, named_step, first_all}
use Rattle.planes.proofs.clause_sets.clause_set.Goals as goal

pub loop-word-init : goal.loop-word-init
loop-word-init c = named_none _ c.zero-variables.ensures

pub invariant_of-literal : goal.invariant_of-literal
invariant_of-literal c = record { known = c.requires c.loop-word.word-index (omega arith) }

pub loop-word-preserved : goal.loop-word-preserved
loop-word-preserved c =
    let loop = c.loop-word in
    let more : loop.word-index < length c.args.clause.now = omega arith in
    let own = c.toggled-own.ensures ∙ ap₂ toggle c.zero.ensures c.bit.ensures.0 in
    named_step c.args.clause.now loop.word-index _ _ _ more (c.requires loop.word-index more).0 loop.invariant own c.united-variables.ensures

pub returns : goal.returns
returns c = rw (first_all c.args.clause.now c.loop-word.word-index (omega arith)) at c.loop-word.invariant
