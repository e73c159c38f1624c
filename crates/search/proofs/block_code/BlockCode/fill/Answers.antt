-- `BlockCode::fill` meets its contract: the cells are written with the code of the plan.
use Rattle.std.proofs.Common.{refl}
use lib.Pow.{pow_mono}
use Rattle.search.proofs.CodesLaws.{filled_listed, filled_coded}
use Rattle.search.proofs.block_code.BlockCode.fill.Goals as goal

pub fill-count-requires : goal.fill-count-requires
fill-count-requires c = rw c.told-words (pow_mono c.args.plan.at_most)

pub returns : goal.returns
returns c = record {
  plan = (refl, refl);
  coded = filled_coded _ _ _ c.fill-count.ensures c.args.plan.at_least;
  listed = filled_listed _ _ _ c.fill-count.ensures;
}
