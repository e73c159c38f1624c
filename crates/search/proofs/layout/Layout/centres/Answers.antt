use Rattle.std.specs.Prelude.{◌≡◌, ◌^◌, min}
use Rattle.std.proofs.Common.{refl}
use Rattle.std.proofs.Math.Nat.{pow-zero}
use Rattle.search.specs.Blocks.{block_words}
use Rattle.search.specs.Machine.{most_centres}
use Rattle.search.proofs.LayoutLaws.{centres_more, centres_all, centres_without, centres_none, centres_one}
use Rattle.search.proofs.layout.Layout.centres.Goals as goal
use Rattle.search.proofs.layout.Layout.centres.Goals.{in-Some+else-loop-j-test, in_default, Joined-self}

pub loop-j-init : goal.loop-j-init
loop-j-init c = rw pow-zero refl

pub loop-j-preserved : goal.loop-j-preserved
loop-j-preserved c =
    centres_more c.args.self c.in-Some.whole c.in-Some.is _ _ _ _ c.loop-j.invariant c.saturating_mul.ensures c.min-made.ensures

-- after all whole blocks
wholes : (c : Joined-self) → let l = c.args.self in c.match-self.made ≡ min (block_words l.whole ^ l.blocks) most_centres
wholes c = elim c.match-self.branch [
  | in-Some+else-loop-j-test w ↦ rw w.made-is (centres_all c.args.self _ _ w.loop-j.auto._j-end w.loop-j-test.false w.loop-j.invariant)
  | in_default w ↦ rw w.made-is (centres_without c.args.self w.in_default.is)
]

pub returns-in-Some-last : goal.returns-in-Some-last
returns-in-Some-last c =
    centres_one c.args.self c.in-Some-last.last c.in-Some-last.is _ _ _ (wholes (goal.at.returns-in-Some-last c).Joined-self) c.saturating_mul-in-Some-last.ensures
    c.min-made-in-Some-last.ensures

pub returns-in_default-last : goal.returns-in_default-last
returns-in_default-last c = centres_none c.args.self c.in_default-last.is _ (wholes (goal.at.returns-in_default-last c).Joined-self)
