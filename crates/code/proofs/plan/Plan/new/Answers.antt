-- `code::Plan::new` takes the lengths and radii of which there is a code, and no other.
use borrow.Author.Tests.{le-leb}
use Rattle.std.proofs.Common.{refl, arith}
use Rattle.words.specs.Refusals.{number_of}
use Rattle.code.specs.Operations.{coded?}
use Rattle.code.proofs.OperationLaws.{coded_not}
use Rattle.code.proofs.plan.Plan.new.Goals as goal

pub returns-then-radius-size : goal.returns-then-radius-size
unfolding coded?
returns-then-radius-size c =
    (refl, refl, rw (le-leb _ _ c.if-size-ge1.true, le-leb _ _ c.if-size-le-BLOCK_LIMIT.true, le-leb _ _ c.if-radius-size.true))

pub returns-else-size-ge1 : goal.returns-else-size-ge1
unfolding number_of
returns-else-size-ge1 c = rw c.at.ensures (refl, refl, coded_not _ _ (λ a b d. omega arith))
