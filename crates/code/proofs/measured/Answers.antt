-- `code::measured` meets its contract.
use borrow.Author.Tests.{le-leb}
use Rattle.std.proofs.Common.{refl, arith}
use Rattle.words.specs.Refusals.{number_of}
use Rattle.code.specs.Operations.{measured?}
use Rattle.code.proofs.OperationLaws.{measured_not}
use Rattle.code.proofs.measured.Goals as goal

pub returns-then-s-le-BLOCK_LIMIT : goal.returns-then-s-le-BLOCK_LIMIT
unfolding measured?
returns-then-s-le-BLOCK_LIMIT c = rw (le-leb _ _ c.if-t-le-BLOCK_LIMIT.true, le-leb _ _ c.if-s-le-BLOCK_LIMIT.true)

pub returns-else-t-le-BLOCK_LIMIT : goal.returns-else-t-le-BLOCK_LIMIT
unfolding number_of
returns-else-t-le-BLOCK_LIMIT c = rw c.at.ensures (refl, refl, measured_not _ _ (λ a b. omega arith))
