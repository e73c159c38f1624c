-- Searches in legs (02, papers 11 and 12): what a leg answers and what it leaves, for every plan, budget, sheet or sheets, and record; and
-- legs in order.
use Rattle.std.specs.Prelude.{None, Option, Some, ◌≡◌, ◌⊎◌, Bool, true, false, cond, not, ◌&&◌, List, [], ◌∷◌, ℕ, ◌+◌, ◌^◌, ◌≤◌, ◌<◌, eqb, leb}
use Rattle.words.specs.Lists.{count}
use Rattle.words.specs.Bits.{from_words}
use Rattle.formula.specs.Formula.{Formula}
use Rattle.formula.specs.Sheet.{Result, accepted, refused, parse, header_words}
use Rattle.formula.specs.Sets.{stands, first_lacking}
use Rattle.code.specs.Code.{code}
use Rattle.code.specs.Operations.{coded?}
use Rattle.tree.specs.Explore.{powers}
use Rattle.tree.specs.Legs.{Progress}
use Rattle.search.specs.Run.{Plan, blocks, centre_count, summed_radius, longest, search_of, leg_of}
use Rattle.horn.specs.Horn.{is_horn}
use Rattle.decision.specs.declared.Method.TheVariants.{Balls}
use Rattle.decision.specs.declared.Reply.{Reply}
use Rattle.legs.specs.declared.Checkpoint.{Checkpoint}
use Rattle.legs.specs.declared.LegReply.{LegReply}
use Rattle.legs.specs.declared.LegEnd.{LegEnd}
use Rattle.decision.specs.Answers.{Decision, answered, judged, reply_of, declines, BAD_PLAN, REFUSED, BALLS}

infixr 10 ◌then◌
-- another batch, finished, and term dropped
abbrev pub OTHER_SEARCH : ℕ
OTHER_SEARCH = 11

abbrev pub FINISHED : ℕ
FINISHED = 12

abbrev pub CLAUSE_DROPPED : ℕ
CLAUSE_DROPPED = 13

-- which sheet a refusal is about: the only one or the old one, and the longer one
abbrev pub FIRST : ℕ
FIRST = 1

abbrev pub LONGER : ℕ
LONGER = 2

-- ---- what a leg gives and leaves

-- the numbers of a reply, and the sheet that a refusal is about
unfoldable pub about : ℕ → Reply → LegReply
about sheet r =
    record {
      verdict = r.verdict;
      batch = r.batch;
      road = r.road;
      marks0 = r.marks0;
      marks1 = r.marks1;
      marks2 = r.marks2;
      marks3 = r.marks3;
      calls = r.calls;
      number = r.number;
      place = r.place;
      sheet = sheet;
    }

-- a refusal about a sheet leaves the record, a checkpoint (the paper's parked search), as it came
unfoldable pub refused_leg : (sheet number place : ℕ) → Checkpoint → LegEnd
refused_leg sheet number place r = record { reply = about sheet (declines number place); checkpoint = r }

-- a decision, and the record that it leaves
unfoldable pub decided_leg : Decision → Checkpoint → LegEnd
decided_leg d r = record { reply = about 0 (reply_of d); checkpoint = r }

-- the assignment of its reply, as a number
unfoldable pub leg_marks : LegReply → ℕ
leg_marks r = from_words (r.marks0 ∷ r.marks1 ∷ r.marks2 ∷ r.marks3 ∷ [])

-- ---- one leg

-- A leg that is asked for, with a plan, a budget and sheets of its own. The sheet is searched; `name` is its number in refusals. The old one, which
-- may be the same, is looked at for its batch, n and clauses.
pub record Leg : Type 0 where
  pub plan : Plan
  pub budget : ℕ
  pub old : List ℕ
  pub sheet : List ℕ
  pub name : ℕ

-- a leg on one sheet; and one that brings the old sheet and a longer one
abbrev pub alone : Plan → ℕ → List ℕ → Leg
alone p A s = record { plan = p; budget = A; old = s; sheet = s; name = FIRST }

abbrev pub grown : Plan → ℕ → List ℕ → List ℕ → Leg
grown p A o s = record { plan = p; budget = A; old = o; sheet = s; name = LONGER }

-- M of a formula by a plan
abbrev pub centres : Plan → Formula → ℕ
centres p f = centre_count (blocks code p f.n)

-- The record is of this plan; of this batch and n; of all these.
unfoldable pub of_plan : Plan → Checkpoint → Bool
of_plan p r = eqb r.size p.size && eqb r.radius p.radius

unfoldable pub of_batch : Formula → Checkpoint → Bool
of_batch f r = eqb r.batch f.batch && eqb r.n f.n

unfoldable pub belongs : Formula → Plan → Checkpoint → Bool
belongs f p r = of_batch f r && of_plan p r

-- the record with another next ball
abbrev pub moved_to : Checkpoint → ℕ → Checkpoint
moved_to r i = record { batch = r.batch; n = r.n; size = r.size; radius = r.radius; next = i }

-- What a check says: passed, or a refusal and the sheet that it is about.
pub data Check : Type 0 where
  Passed : Check
  Declined : (sheet number place : ℕ) → Check

-- a check that declines where the test says so
unfoldable pub decline_when : Bool → (sheet number : ℕ) → Check
decline_when true sheet number = Declined sheet number 0
decline_when false sheet number = Passed

-- every clause of the old formula stands in the one that is searched: the first that does not, by its place
unfoldable pub all_kept : Option ℕ → Check
all_kept None = Passed
all_kept (Some place) = Declined FIRST CLAUSE_DROPPED place

-- The first check that declines ends them.
unfoldable pub ◌then◌ : Check → Check → Check
Passed then next = next
Declined sheet number place then next = Declined sheet number place

-- The checks before M balls are searched, in order: g is the old formula, f the one that is searched, and `name` the number of its sheet.
unfoldable pub checks : (name M : ℕ) → Plan → Checkpoint → (g f : Formula) → Option ℕ → Check
checks name M p r g f lacking =
    decline_when (leb (2 ^ 63) M) name BAD_PLAN
    then decline_when (not (of_plan p r)) name OTHER_SEARCH
    then decline_when (not (of_batch g r)) FIRST OTHER_SEARCH
    then decline_when (not (of_batch f r)) name OTHER_SEARCH
    then decline_when (leb M r.next) name FINISHED
    then all_kept lacking

-- The leg over whole balls, from the next one on.
unfoldable pub balls_leg : Plan → ℕ → Checkpoint → Formula → LegEnd
balls_leg p A r f =
    let l : Progress = leg_of (search_of code p f) A r.next in
    decided_leg (record { batch = f.batch; method = Balls; verdict = answered l.answer }) (moved_to r l.next)

-- a check that declines refuses the leg, which otherwise leaves e
unfoldable pub unless_declined : Check → Checkpoint → LegEnd → LegEnd
unless_declined Passed r e = e
unless_declined (Declined sheet number place) r e = refused_leg sheet number place r

-- The leg on an old formula and one that is searched. A Horn formula is decided as by a run and leaves the record; the others are checked.
unfoldable pub leg_on : (name : ℕ) → Plan → ℕ → Checkpoint → (g f : Formula) → LegEnd
leg_on name p A r g f =
    cond (is_horn f.clauses) (decided_leg (judged p A f) r)
    (unless_declined (checks name (centres p f) p r g f (first_lacking header_words g.clauses f.clauses)) r (balls_leg p A r f))

-- The old sheet is read first.
unfoldable pub leg_read : Leg → Checkpoint → Result Formula → Result Formula → LegEnd
leg_read l r (refused number place) second = refused_leg FIRST number place r
leg_read l r (accepted g) (refused number place) = refused_leg l.name number place r
leg_read l r (accepted g) (accepted f) = leg_on l.name l.plan l.budget r g f

-- What `leg` and `leg_longer` give and leave: the plan's refusal goes first, then the sheets'.
unfoldable pub takes : Checkpoint → Leg → LegEnd
takes r l =
    cond (coded? l.plan.size l.plan.radius) (leg_read l r (parse l.old) (parse l.sheet)) (refused_leg l.name BAD_PLAN 0 r)

-- Plan and sheets of a leg are accepted: g is the old formula, and f the one that is searched.
pub record Brings (l : Leg) (g f : Formula) : Type 0 where
  pub plan : coded? l.plan.size l.plan.radius ≡ true
  pub old : parse l.old ≡ accepted g
  pub sheet : parse l.sheet ≡ accepted f

-- What a leg of balls goes on from: the formula is not Horn, the balls are few enough, the record is of this search, and a ball is left.
pub record Searched (p : Plan) (f : Formula) (r : Checkpoint) : Type 0 where
  pub balls : is_horn f.clauses ≡ false
  pub few : centres p f < 2 ^ 63
  pub same : belongs f p r ≡ true
  pub left : r.next < centres p f

-- ---- legs in order

-- the record after the legs, each from where the one before left it
unfoldable pub checkpoint_after : Checkpoint → List Leg → Checkpoint
checkpoint_after r [] = r
checkpoint_after r (l ∷ ls) = checkpoint_after (takes r l).checkpoint ls

-- a leg with its reply, and all of them in order
pub record Turn : Type 0 where
  pub leg : Leg
  pub reply : LegReply

abbrev pub turn_of : Checkpoint → Leg → Turn
turn_of r l = record { leg = l; reply = (takes r l).reply }

unfoldable pub turns : Checkpoint → List Leg → List Turn
turns r [] = []
turns r (l ∷ ls) = turn_of r l ∷ turns (takes r l).checkpoint ls

-- the counted calls, added up
unfoldable pub summed : List Turn → ℕ
summed [] = 0
summed (t ∷ ts) = t.reply.calls + summed ts

-- The start of a search: a record of its batch, n and plan, with next ball 0.
unfoldable pub start : Plan → Formula → Checkpoint
start p f = record { batch = f.batch; n = f.n; size = p.size; radius = p.radius; next = 0 }

-- A leg is on the formula f, or refused.
abbrev pub OnOne : Formula → Turn → Type 0
OnOne f t = (t.reply.verdict ≡ REFUSED) ⊎ (parse t.leg.sheet ≡ accepted f)

-- Its clauses all stand in g, or it is refused.
abbrev pub StandsIn : Formula → Turn → Type 0
StandsIn g t =
    (t.reply.verdict ≡ REFUSED)
    ⊎ ((f : Formula) × (parse t.leg.sheet ≡ accepted f) × (stands f.clauses g.clauses ≡ true))

-- Legs that follow on each other: f was searched last before them, and g is after them. A leg that works balls brings as its old formula the one
-- that was searched last; the others, refused or Horn, search none.
pub data Follow : Formula → List Turn → Formula → Type 0 where
  no_more : {f : Formula} → Follow f [] f
  idle : {f g : Formula} {t : Turn} {ts : List Turn} → eqb t.reply.road BALLS ≡ false → Follow f ts g → Follow f (t ∷ ts) g
  searched : {f h g : Formula} {t : Turn} {ts : List Turn} → eqb t.reply.road BALLS ≡ true → parse t.leg.old ≡ accepted f →
      parse t.leg.sheet ≡ accepted h → Follow h ts g → Follow f (t ∷ ts) g

-- Its budget is at least 1 + k + … + k^R, on the formula f.
abbrev pub Affords : ℕ → Formula → Turn → Type 0
Affords k f t = powers k (summed_radius (blocks code t.leg.plan f.n)) ≤ t.leg.budget

-- It has enough: it is not refused, and its sheet is Horn or its budget enough for the longest clause there.
abbrev pub Enough : Turn → Type 0
Enough t =
    (t.reply.verdict ≡ REFUSED → ⊥)
    × (f : Formula)
    × (parse t.leg.sheet ≡ accepted f)
    × (is_horn f.clauses ≡ false → Affords (longest f.clauses) f t)

-- The same for the longest clause of g, in which its clauses all stand.
abbrev pub EnoughFor : Formula → Turn → Type 0
EnoughFor g t =
    (t.reply.verdict ≡ REFUSED → ⊥)
    × (f : Formula)
    × (parse t.leg.sheet ≡ accepted f)
    × (is_horn f.clauses ≡ false → (stands f.clauses g.clauses ≡ true) × Affords (longest g.clauses) f t)

-- how many legs worked balls: Horn legs do not count
unfoldable pub ball_legs : List Turn → ℕ
ball_legs ts = count (λ t. eqb t.reply.road BALLS) ts
