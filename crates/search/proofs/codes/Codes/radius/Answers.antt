-- `radius` meets its contract: R is the sum of the numbers, and is at most the width.
use Rattle.std.specs.Prelude.{◌≡◌, None, Some, ◌+◌, ◌*◌}
use Rattle.std.proofs.Common.{refl, sym, mul-zero, arith}
use Rattle.search.specs.declared.block_code.BlockCode.{BlockCode}
use Rattle.search.specs.declared.layout.Layout.{Layout}
use Rattle.search.specs.Blocks.{block_radius, reach_in}
use Rattle.search.proofs.LayoutLaws.{reach_is}
use Rattle.search.proofs.codes.Codes.radius.Goals as goal
use Rattle.search.proofs.codes.Codes.radius.Goals.{in-None, in-Some, Joined-self}

reach_none : (l : Layout) → l.last ≡ None → reach_in l ≡ l.blocks * block_radius l.whole + 0
unfolding reach_in block_radius
reach_none l e = rw e refl

reach_one : (l : Layout) (b : BlockCode) → l.last ≡ Some b → reach_in l ≡ l.blocks * block_radius l.whole + b.radius
unfolding reach_in block_radius
reach_one l b e = rw e refl

pub overflow_mul-wholes : goal.overflow_mul-wholes
unfolding reach_in block_radius
overflow_mul-wholes c = let r = rw c.in-Some.is at c.args.self.now.reach in omega (arith, r)

-- what the whole blocks add
wholes : (c : Joined-self) → let l = c.args.self.now.layout in c.match-self.wholes ≡ l.blocks * block_radius l.whole
unfolding block_radius
wholes c = elim c.match-self.branch [
  | in-None w ↦ rw (w.wholes-is, w.in-None.is) (sym (mul-zero _))
  | in-Some w ↦ rw (w.wholes-is, w.in-Some.is) refl
]

pub overflow_add-result : goal.overflow_add-result
overflow_add-result c =
    let codes = c.args.self.now in
    let all = reach_one codes.layout _ c.in-Some-last.is in
    omega (arith, wholes (goal.at.overflow_add-result c).Joined-self, all, codes.reach)

pub returns-in-None-last : goal.returns-in-None-last
returns-in-None-last c =
    let codes = c.args.self.now in
    let all = reach_none codes.layout c.in-None-last.is in
    omega (arith, wholes (goal.at.returns-in-None-last c).Joined-self, all, reach_is codes.layout codes.whole_words codes.last_words)

pub returns-in-Some-last : goal.returns-in-Some-last
returns-in-Some-last c =
    let codes = c.args.self.now in
    let all = reach_one codes.layout _ c.in-Some-last.is in
    omega (arith, wholes (goal.at.returns-in-Some-last c).Joined-self, all, reach_is codes.layout codes.whole_words codes.last_words)
