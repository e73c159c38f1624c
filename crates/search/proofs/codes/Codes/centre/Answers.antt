use Rattle.std.proofs.Common.{refl}
use Rattle.std.specs.Prelude.{[]}
use Rattle.search.specs.Machine.{Midway, Towards, blocks_of}
use Rattle.search.proofs.CodesLaws.{midway_start, midway_room, midway_step, midway_all, midway_without, midway_rest, midway_none, midway_one, centre_found, centre_past}
use Rattle.search.proofs.codes.Codes.centre.Goals as goal
use Rattle.search.proofs.codes.Codes.centre.Goals.{in-Some+else-loop-j-test, in_default, in-Some-last, in_default-last, Joined-self, Joined-self-2}

pub loop-j-init : goal.loop-j-init
loop-j-init c = midway_start c.args.self.now c.args.i _ c.zero.ensures refl refl

pub with_block-made-requires : goal.with_block-made-requires
with_block-made-requires c =
    let m = c.loop-j.invariant in
    record {
      coded = c.args.self.now.laid.wholes c.in-Some.whole c.in-Some.is;
      room = midway_room c.args.self.now c.args.i c.loop-j._j c.in-Some.whole c.loop-j-test.true c.in-Some.is _ m;
      below = m.towards.below;
    }

pub loop-j-preserved : goal.loop-j-preserved
loop-j-preserved c =
    midway_step c.args.self.now c.args.i c.loop-j._j c.in-Some.whole c.loop-j-test.true c.in-Some.is _ _ c.with_block-made.ensures
    c.loop-j.invariant

-- after all whole blocks
wholes : (c : Joined-self) → Midway c.args.self.now c.args.i c.args.self.now.layout.blocks c.match-self.made
wholes c = elim c.match-self.branch [
  | in-Some+else-loop-j-test w ↦ rw w.made-is (midway_all _ _ _ _ w.loop-j.auto._j-end w.loop-j-test.false w.loop-j.invariant)
  | in_default w ↦ rw w.made-is (midway_without _ _ w.in_default.is _ (midway_start c.args.self.now c.args.i _ c.zero.ensures refl refl))
]

pub with_block-made-requires-in-Some-last : goal.with_block-made-requires-in-Some-last
with_block-made-requires-in-Some-last c =
    let m = wholes c.before in
    record {
      coded = c.args.self.now.laid.lasts c.in-Some-last.last c.in-Some-last.is;
      room = midway_rest c.args.self.now c.args.i _ m c.in-Some-last.last c.in-Some-last.is;
      below = m.towards.below;
    }

-- after all blocks
joint : (c : Joined-self-2) → Towards (blocks_of c.args.self.now) c.args.i [] c.match-self-2.made
joint c = elim c.match-self-2.branch [
  | in-Some-last w ↦
      rw w.made-is
      (midway_one c.args.self.now c.args.i _ (wholes c.before) w.in-Some-last.last w.in-Some-last.is _ w.with_block-made-in-Some-last.ensures).0
  | in_default-last w ↦ rw w.made-is (midway_none c.args.self.now c.args.i _ (wholes c.before) w.in_default-last.is).0
]

pub returns-then-made-eq0 : goal.returns-then-made-eq0
returns-then-made-eq0 c = centre_found c.args.self.now c.args.i _ (joint c.before.before.before) c.if-made-eq0.true

pub returns-else-made-eq0 : goal.returns-else-made-eq0
returns-else-made-eq0 c = centre_past c.args.self.now c.args.i _ (joint c.before.before) c.if-made-eq0.false
