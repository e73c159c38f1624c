-- What a leg is, case by case, and what legs in order keep: the laws that LegAnswers rests on.
use Rattle.std.specs.Prelude.{is_none, None, Option, Some, ◌≡◌, Bool, cond, not, List, [], ◌∷◌, ℕ, ◌+◌, ◌^◌, ◌≤◌, ◌<◌, eqb}
use Rattle.std.proofs.Math.Path.{refl, ap, subst}
use Rattle.std.proofs.Common.{sym, ap₂, ◌∙◌, inl, inr, true≢false, le_trans, zero-add, add_assoc, arith, leb-true, leb-false, eq-eqb, eqb-true}
use Rattle.std.proofs.Math.Bool.{true, false}
use mathlib.Core.List.Memᴰ
use Rattle.std.proofs.Math.Nat.{add-zero}
use Rattle.std.proofs.Math.Dec.{leb}
use Rattle.words.specs.Lists.{In, keep, count}
use Rattle.words.proofs.ListLaws.{and_left, and_right, and_both}
use Rattle.words.proofs.CountLaws.{count_cons}
use Rattle.formula.specs.Formula.{Formula, WellFormed}
use Rattle.formula.specs.Sheet.{Result, accepted, refused, parse, header_words}
use Rattle.formula.proofs.ParseAccepted.{parse_well_formed}
use Rattle.formula.proofs.ParseRefused.{parse_refused}
use Rattle.formula.specs.Sets.{stands, first_lacking}
use Rattle.formula.proofs.SetLaws.{stands_refl}
use Rattle.formula.proofs.LackingLaws.{lacking_stands}
use Rattle.code.specs.Code.{code}
use Rattle.code.specs.Operations.{coded?}
use Rattle.tree.specs.Explore.{Outcome, found, calls, plus, powers}
use Rattle.tree.specs.Budget.{Answer, clear, spent, whole}
use Rattle.tree.proofs.TreeLaws.{plus_zero}
use Rattle.tree.proofs.BudgetLaws.{count_of, rest, plus_plus}
use Rattle.tree.specs.Legs.{Progress, progress}
use Rattle.tree.proofs.LegLaws.{Told, told_clear, told_none, told_spent, leg_from_lem, leg_told, leg_stays, leg_moves}
use Rattle.search.specs.Run.{Plan, plan, blocks, centre_count, summed_radius, longest, search_of, ball, run, leg_of, Emptied}
use Rattle.search.proofs.LegLaws.{nothing_empties, emptied_further, emptied_join, ball_most}
use Rattle.search.proofs.CallLaws.{run_rest}
use Rattle.horn.specs.Horn.{is_horn}
use Rattle.decision.specs.declared.Reply.{Reply}
use Rattle.legs.specs.declared.Checkpoint.{Checkpoint}
use Rattle.legs.specs.declared.LegEnd.{LegEnd}
use Rattle.decision.specs.Answers.{method_of, answered, judged, decided, decision, reply_to, method_number, numbers_of, reply_of, BAD_PLAN, REFUSED, SPENT, HORN, BALLS}
use Rattle.decision.specs.Right.{Accepted}
use Rattle.decision.specs.DemandLaws.{covering, reply_stays, calls_number, spent_number}
use Rattle.legs.specs.Legs.{Check, Passed, Declined, about, refused_leg, decided_leg, Leg, centres, of_plan, of_batch, belongs, moved_to, decline_when, all_kept, ◌then◌, checks, balls_leg, unless_declined, leg_on, leg_read, takes, Brings, Searched, checkpoint_after, Turn, turn_of, turns, summed, start, OnOne, StandsIn, Follow, no_more, Enough, ball_legs, FIRST, OTHER_SEARCH, FINISHED}
use Rattle.legs.specs.LegRefusals.{Checked, too_many, other_plan, other_old, other_sheet, finished, dropped, passes, LegReason, bad_plan_lem, bad_old, bad_sheet, unchecked}

-- ---- the checks

module _ (name M : ℕ) (p : Plan) (r : Checkpoint) (g f : Formula) (x : Option ℕ) where
  abbrev Says : Check → Type 0
  Says = Checked name M p r g f x

  -- the checks from one on
  abbrev from_next : Check
  from_next = decline_when (leb M r.next) name FINISHED then all_kept x

  abbrev from_sheet : Check
  from_sheet = decline_when (not (of_batch f r)) name OTHER_SEARCH then from_next

  abbrev from_old : Check
  from_old = decline_when (not (of_batch g r)) FIRST OTHER_SEARCH then from_sheet

  module _ (few : M < 2 ^ 63) where
    by_lacking : of_plan p r ≡ true → of_batch g r ≡ true → of_batch f r ≡ true → r.next < M → (y : Option ℕ) → x ≡ y → Says (all_kept y)
    unfolding all_kept
    by_lacking a b c d None e = passes few a b c d e
    by_lacking a b c d (Some place) e = dropped few a b c d e

    by_next : of_plan p r ≡ true → of_batch g r ≡ true → of_batch f r ≡ true → (t : Bool) → leb M r.next ≡ t →
        Says (decline_when t name FINISHED then all_kept x)
    unfolding decline_when ◌then◌
    by_next a b c true e = finished few a b c (leb-true _ _ e)
    by_next a b c false e = by_lacking a b c (leb-false _ _ e) x refl

    by_sheet : of_plan p r ≡ true → of_batch g r ≡ true → (t : Bool) → of_batch f r ≡ t → Says (decline_when (not t) name OTHER_SEARCH then from_next)
    unfolding decline_when ◌then◌
    by_sheet a b true e = by_next a b e (leb M r.next) refl
    by_sheet a b false e = other_sheet few a b e

    by_old : of_plan p r ≡ true → (t : Bool) → of_batch g r ≡ t → Says (decline_when (not t) FIRST OTHER_SEARCH then from_sheet)
    unfolding decline_when ◌then◌
    by_old a true e = by_sheet a e (of_batch f r) refl
    by_old a false e = other_old few a e

    by_plan : (t : Bool) → of_plan p r ≡ t → Says (decline_when (not t) name OTHER_SEARCH then from_old)
    unfolding decline_when ◌then◌
    by_plan true e = by_old e (of_batch g r) refl
    by_plan false e = other_plan few e

  pub checks_say : Says (checks name M p r g f x)
  unfolding checks decline_when ◌then◌
  checks_say = by_count (leb (2 ^ 63) M) refl
    where
      by_count : (t : Bool) → leb (2 ^ 63) M ≡ t →
          Says (decline_when t name BAD_PLAN then decline_when (not (of_plan p r)) name OTHER_SEARCH then from_old)
      by_count true e = too_many (leb-true _ _ e)
      by_count false e = by_plan (leb-false _ _ e) (of_plan p r) refl

-- a check that passed is none that declined
unfoldable passed? : Check → Bool
passed? Passed = true
passed? (Declined sheet number place) = false

-- where all pass, the balls can be searched, and no clause of the old formula is lacking
pub record Fine (M : ℕ) (p : Plan) (r : Checkpoint) (g f : Formula) (x : Option ℕ) : Type 0 where
  pub few : M < 2 ^ 63
  pub same : belongs f p r ≡ true
  pub old : of_batch g r ≡ true
  pub left : r.next < M
  pub kept : x ≡ None

pub checks_fine : (name M : ℕ) (p : Plan) (r : Checkpoint) (g f : Formula) (x : Option ℕ) → checks name M p r g f x ≡ Passed → Fine M p r g f x
unfolding passed? belongs
checks_fine name M p r g f x = go (checks_say name M p r g f x)
  where
    go : {c : Check} → Checked name M p r g f x c → c ≡ Passed → Fine M p r g f x
    go (passes few a b c d k) e = record { few = few; same = and_both (of_batch f r) (of_plan p r) c a; old = b; left = d; kept = k }
    go (too_many h) e = absurd (true≢false (ap passed? (sym e)))
    go (other_plan few a) e = absurd (true≢false (ap passed? (sym e)))
    go (other_old few a b) e = absurd (true≢false (ap passed? (sym e)))
    go (other_sheet few a b c) e = absurd (true≢false (ap passed? (sym e)))
    go (finished few a b c d) e = absurd (true≢false (ap passed? (sym e)))
    go (dropped few a b c d k) e = absurd (true≢false (ap passed? (sym e)))

-- ---- one leg, case by case

-- A leg is refused, or by rounds, or by balls.
pub data LegWas (l : Leg) (r : Checkpoint) : LegEnd → Type 0 where
  declined : {sheet number place : ℕ} → LegReason l r sheet number place → LegWas l r (refused_leg sheet number place r)
  rounds_leg : {g f : Formula} → Brings l g f → is_horn f.clauses ≡ true → LegWas l r (decided_leg (judged l.plan l.budget f) r)
  balls_leg_lem : {g f : Formula} → Brings l g f → Searched l.plan f r → stands g.clauses f.clauses ≡ true →
      LegWas l r (balls_leg l.plan l.budget r f)

pub leg_was : (l : Leg) (r : Checkpoint) → LegWas l r (takes r l)
unfolding takes leg_read leg_on unless_declined
leg_was l r = by_coded (coded? l.plan.size l.plan.radius) refl
  where
    fine : {g f : Formula} → Brings l g f → is_horn f.clauses ≡ false →
        Fine (centres l.plan f) l.plan r g f (first_lacking header_words g.clauses f.clauses) → LegWas l r (balls_leg l.plan l.budget r f)
    fine {g} {f} h o a =
        balls_leg_lem h (record { balls = o; few = a.few; same = a.same; left = a.left })
        (sym (lacking_stands header_words g.clauses f.clauses) ∙ ap is_none a.kept)

    by_checks : {g f : Formula} → Brings l g f → is_horn f.clauses ≡ false → (c : Check) →
        checks l.name (centres l.plan f) l.plan r g f (first_lacking header_words g.clauses f.clauses) ≡ c →
        LegWas l r (unless_declined c r (balls_leg l.plan l.budget r f))
    by_checks h o Passed e = fine h o (checks_fine _ _ _ _ _ _ _ e)
    by_checks {g} {f} h o (Declined sheet number place) e =
        declined (unchecked h o (subst (Checked l.name (centres l.plan f) l.plan r g f _) e (checks_say _ _ _ _ _ _ _)))

    by_horn : {g f : Formula} → Brings l g f → (b : Bool) → is_horn f.clauses ≡ b → LegWas l r (leg_on l.name l.plan l.budget r g f)
    by_horn h true e = rw e (rounds_leg h e)
    by_horn h false e = rw e (by_checks h e _ refl)

    by_sheets : coded? l.plan.size l.plan.radius ≡ true → (x y : Result Formula) → parse l.old ≡ x → parse l.sheet ≡ y →
        LegWas l r (leg_read l r x y)
    by_sheets h (refused number place) y e e' = declined (bad_old h (parse_refused l.old _ _ e))
    by_sheets h (accepted g) (refused number place) e e' = declined (bad_sheet h e (parse_refused l.sheet _ _ e'))
    by_sheets h (accepted g) (accepted f) e e' = by_horn (record { plan = h; old = e; sheet = e' }) (is_horn f.clauses) refl

    by_coded : (b : Bool) → coded? l.plan.size l.plan.radius ≡ b →
        LegWas l r (cond b (leg_read l r (parse l.old) (parse l.sheet)) (refused_leg l.name BAD_PLAN 0 r))
    by_coded true h = by_sheets h (parse l.old) (parse l.sheet) refl refl
    by_coded false h = declined (bad_plan_lem h)

-- what was read is what was read
pub same_read : (s : List ℕ) {f g : Formula} → parse s ≡ accepted f → parse s ≡ accepted g → f ≡ g
same_read s d e = let both = sym d ∙ e in cc

-- the sheet that is searched, and its plan, are accepted
pub brings_accepted : {l : Leg} {g f : Formula} → Brings l g f → Accepted l.plan l.sheet f
brings_accepted h = record { plan = h.plan; sheet = h.sheet }

-- ---- what a record and a formula have in common

-- a record of a search has its four numbers
pub belongs_is : (f : Formula) (p : Plan) (r : Checkpoint) → belongs f p r ≡ true →
    (r.batch ≡ f.batch) × (r.n ≡ f.n) × (r.size ≡ p.size) × (r.radius ≡ p.radius)
unfolding belongs of_batch of_plan
belongs_is f p r e =
    let low = and_left (of_batch f r) (of_plan p r) e in
    let high = and_right (of_batch f r) (of_plan p r) e in (
      eqb-true _ _ (and_left (eqb r.batch f.batch) _ low),
      eqb-true _ _ (and_right (eqb r.batch f.batch) _ low),
      eqb-true _ _ (and_left (eqb r.size p.size) _ high),
      eqb-true _ _ (and_right (eqb r.size p.size) _ high),
    )

-- two formulas and plans of one record have the same
pub belongs_both : (f g : Formula) (p q : Plan) (r : Checkpoint) → belongs f p r ≡ true →
    belongs g q r ≡ true → (f.n ≡ g.n) × (p ≡ q)
belongs_both f g p q r h k =
    let (_, n, s, t) = belongs_is f p r h in
    let (_, n', s', t') = belongs_is g q r k in
    (sym n ∙ n', ap₂ plan (sym s ∙ s') (sym t ∙ t'))

pub start_belongs : (p : Plan) (f : Formula) → belongs f p (start p f) ≡ true
unfolding belongs of_batch of_plan start
start_belongs p f = rw (eq-eqb f.batch f.batch refl, eq-eqb f.n f.n refl, eq-eqb p.size p.size refl, eq-eqb p.radius p.radius refl)

-- ---- what the balls of a leg tell

pub balls_told : (p : Plan) (A : ℕ) (f : Formula) (r : Checkpoint) → Searched p f r →
    Told (ball (search_of code p f)) A (centres p f) 0 r.next (leg_of (search_of code p f) A r.next)
unfolding leg_of search_of
balls_told p A f r h =
    rw (leg_from_lem _ A (centres p f) r.next) (leg_told _ A (centres p f) 0 r.next (omega arith) (omega (arith, h.left)))

-- an answer is no refusal
pub answered_verdict : (b road : ℕ) (a : Answer) → (numbers_of b road (answered a)).verdict ≡ REFUSED → ⊥
unfolding numbers_of
answered_verdict b road (clear m c) e = omega arith
answered_verdict b road (Answer.none c) e = omega arith
answered_verdict b road (spent c) e = omega arith

-- so that a leg by rounds or by balls is not refused
pub rounds_answered : (p : Plan) (A : ℕ) (f : Formula) (r : Checkpoint) → (decided_leg (judged p A f) r).reply.verdict ≡ REFUSED → ⊥
unfolding decided_leg about judged reply_of
rounds_answered p A f r e = answered_verdict f.batch _ _ e

pub balls_answered : (p : Plan) (A : ℕ) (f : Formula) (r : Checkpoint) → (balls_leg p A r f).reply.verdict ≡ REFUSED → ⊥
unfolding decided_leg about balls_leg reply_of
balls_answered p A f r e = answered_verdict f.batch _ _ e

-- the leg by rounds, in numbers: those of a run
pub rounds_end : (p : Plan) (A : ℕ) (s : List ℕ) (f : Formula) → Accepted p s f → (r : Checkpoint) →
    decided_leg (judged p A f) r ≡ record { reply = about 0 (reply_to p A s); checkpoint = r }
unfolding decided_leg reply_to decision decided
rounds_end p A s f h r = rw (h.plan, h.sheet)

-- the leg of balls, in numbers
abbrev pub balls_end : Formula → Checkpoint → Progress → LegEnd
balls_end f r l = record { reply = about 0 (numbers_of f.batch BALLS (answered l.answer)); checkpoint = moved_to r l.next }

pub balls_end_lem : (p : Plan) (A : ℕ) (f : Formula) (r : Checkpoint) → balls_leg p A r f ≡ balls_end f r (leg_of (search_of code p f) A r.next)
unfolding decided_leg balls_leg reply_of method_number
balls_end_lem p A f r = refl

-- An answer by a method has its road.
road_number : (b road : ℕ) (a : Answer) → (numbers_of b road (answered a)).road ≡ road
unfolding numbers_of
road_number b road (clear m c) = refl
road_number b road (Answer.none c) = refl
road_number b road (spent c) = refl

-- the road of a leg: none of a refusal, and one by rounds is not that of balls
pub rounds_road : (p : Plan) (A : ℕ) (f : Formula) (r : Checkpoint) → is_horn f.clauses ≡ true → eqb (decided_leg (judged p A f) r).reply.road BALLS ≡ false
unfolding decided_leg about judged method_of reply_of method_number
rounds_road p A f r horn = rw (horn, road_number f.batch HORN) refl

pub balls_road : (p : Plan) (A : ℕ) (f : Formula) (r : Checkpoint) → eqb (balls_leg p A r f).reply.road BALLS ≡ true
unfolding decided_leg about balls_leg reply_of method_number
balls_road p A f r = rw (road_number f.batch BALLS) refl

-- A leg that is not refused has an accepted plan, and so has its sheet.
pub leg_accepted : (l : Leg) (f : Formula) (r : Checkpoint) → parse l.sheet ≡ accepted f →
    ((takes r l).reply.verdict ≡ REFUSED → ⊥) → Accepted l.plan l.sheet f
unfolding refused_leg about
leg_accepted l f r e = go (leg_was l r)
  where
    go : {x : LegEnd} → LegWas l r x → (x.reply.verdict ≡ REFUSED → ⊥) → Accepted l.plan l.sheet f
    go (declined why) n = absurd (n refl)
    go (rounds_leg h horn) n = record { plan = h.plan; sheet = e }
    go (balls_leg_lem h at st) n = record { plan = h.plan; sheet = e }

-- A leg on a Horn formula, and not refused, has the verdict of a run.
pub leg_rounds : (l : Leg) (f : Formula) (r : Checkpoint) → parse l.sheet ≡ accepted f → is_horn f.clauses ≡ true →
    ((takes r l).reply.verdict ≡ REFUSED → ⊥) → (takes r l).reply.verdict ≡ (reply_to l.plan l.budget l.sheet).verdict
unfolding refused_leg about
leg_rounds l f r e horn = go (leg_was l r)
  where
    go : {x : LegEnd} → LegWas l r x → (x.reply.verdict ≡ REFUSED → ⊥) → x.reply.verdict ≡ (reply_to l.plan l.budget l.sheet).verdict
    go (declined why) n = absurd (n refl)
    go (rounds_leg {f = g} h horn') n =
        ap (λ (x : LegEnd). x.reply.verdict) (rounds_end l.plan l.budget l.sheet g (brings_accepted h) r)
    go (balls_leg_lem h at st) n =
        let same = ap (λ (x : Formula). is_horn x.clauses) (same_read l.sheet e h.sheet) in
        absurd (true≢false (sym horn ∙ same ∙ at.balls))

-- A leg of balls on the formula f, which leaves e.
pub record Went (l : Leg) (f : Formula) (r : Checkpoint) (e : LegEnd) : Type 0 where
  pub accepted : Accepted l.plan l.sheet f
  pub at : Searched l.plan f r
  pub is : e ≡ balls_end f r (leg_of (search_of code l.plan f) l.budget r.next)

-- A leg on a formula that is not Horn, and not refused, is one.
pub leg_went : (l : Leg) (f : Formula) (r : Checkpoint) → parse l.sheet ≡ accepted f → is_horn f.clauses ≡ false →
    ((takes r l).reply.verdict ≡ REFUSED → ⊥) → Went l f r (takes r l)
unfolding refused_leg about
leg_went l f r e other = go (leg_was l r)
  where
    go : {x : LegEnd} → LegWas l r x → (x.reply.verdict ≡ REFUSED → ⊥) → Went l f r x
    go (declined why) n = absurd (n refl)
    go (rounds_leg h horn) n =
        let same = ap (λ (x : Formula). is_horn x.clauses) (same_read l.sheet h.sheet e) in
        absurd (true≢false (sym horn ∙ same ∙ other))
    go (balls_leg_lem {f = f'} h at st) n =
        subst (λ (x : Formula). Went l x r (balls_leg l.plan l.budget r f')) (same_read l.sheet h.sheet e)
        (record { accepted = brings_accepted h; at = at; is = balls_end_lem l.plan l.budget f' r })

-- What holds of whatever the balls may tell holds of the leg.
pub leg_by_told : (P : LegEnd → Type 0) (l : Leg) (f : Formula) (r : Checkpoint) {e : LegEnd} → Went l f r e →
    ((x : Progress) → Told (ball (search_of code l.plan f)) l.budget (centres l.plan f) 0 r.next x → P (balls_end f r x)) → P e
leg_by_told P l f r w told = subst P (sym w.is) (told _ (balls_told l.plan l.budget f r w.at))

-- ---- legs in order

-- What each leg keeps, where it is fit, all of them keep; the calls add up.
pub legs_keep : (P : Checkpoint → ℕ → Type 0) (Q : Turn → Type 0) →
    ((r : Checkpoint) (total : ℕ) (l : Leg) → P r total → Q (turn_of r l) →
    P (takes r l).checkpoint (total + (takes r l).reply.calls)) →
    (ls : List Leg) (r : Checkpoint) (total : ℕ) → P r total → ((t : Turn) → In t (turns r ls) → Q t) →
    P (checkpoint_after r ls) (total + summed (turns r ls))
unfolding checkpoint_after turns summed
legs_keep P Q step [] r total h fit = rw add-zero h
legs_keep P Q step (l ∷ ls) r total h fit =
    let moved = step r total l h (fit _ (Memᴰ.head refl)) in
    rw (← add_assoc) (legs_keep P Q step ls (takes r l).checkpoint (total + (takes r l).reply.calls) moved (λ t i. fit t (Memᴰ.tail i)))

-- what holds of a plan and a formula holds of the same ones under other names
along : {p q : Plan} {f g : Formula} (P : Plan → Formula → Type 0) → p ≡ q → f ≡ g → P p f → P q g
along {q = q} {f = f} P e e' h = subst (λ (x : Formula). P q x) e' (subst (λ (y : Plan). P y f) e h)

-- ---- the sum

-- Where a ball is left, the calls so far and the balls from the next one on give what the run gives.
pub record Sums (p : Plan) (f : Formula) (r : Checkpoint) (total : ℕ) : Type 0 where
  pub same : belongs f p r ≡ true
  pub sum : r.next < centres p f → plus total (rest (ball (search_of code p f)) (centres p f) r.next) ≡ run (search_of code p f)

pub sums_start : (p : Plan) (f : Formula) → Sums p f (start p f) 0
unfolding start search_of
sums_start p f = record { same = start_belongs p f; sum = λ l. plus_zero _ ∙ sym (run_rest (search_of code p f)) }

-- the leg of balls keeps it
sums_balls : (p : Plan) (A : ℕ) (f : Formula) (r : Checkpoint) (total : ℕ) → Searched p f r → Sums p f r total →
    let e = balls_leg p A r f in Sums p f e.checkpoint (total + e.reply.calls)
unfolding about belongs of_batch of_plan count_of
sums_balls p A f r total h s = rw (balls_end_lem p A f r, calls_number f.batch BALLS) (go (balls_told p A f r h))
  where
    go : {x : Progress} → Told (ball (search_of code p f)) A (centres p f) 0 r.next x →
        Sums p f (moved_to r x.next) (total + count_of x.answer)
    go (told_clear m d small g) = record { same = s.same; sum = λ l. absurd (omega arith) }
    go (told_none d small g nothing) = record { same = s.same; sum = λ l. absurd (omega arith) }
    go (told_spent d j l b small over nothing g) =
        record {
          same = s.same;
          sum = λ l'. sym (plus_plus total d _) ∙ ap (plus total) (sym g ∙ plus_zero _) ∙ s.sum h.left;
        }

-- an answer with so many calls more
unfoldable pub later : ℕ → Answer → Answer
later c (clear m d) = clear m (c + d)
later c (Answer.none d) = Answer.none (c + d)
later c (spent d) = spent (c + d)

pub later_count : (c : ℕ) (a : Answer) → count_of (later c a) ≡ c + count_of a
unfolding later count_of
later_count c (clear m d) = refl
later_count c (Answer.none d) = refl
later_count c (spent d) = refl

-- A leg of balls that is not spent ends the search: with the calls before it, its answer is the run's.
pub sums_last : (p : Plan) (A : ℕ) (f : Formula) (r : Checkpoint) (total : ℕ) → Searched p f r → Sums p f r total →
    let a = (leg_of (search_of code p f) A r.next).answer in
    ((d : ℕ) → a ≡ spent d → ⊥) → whole (run (search_of code p f)) ≡ later total a
unfolding later whole plus
sums_last p A f r total h s = go (balls_told p A f r h)
  where
    ends : (o : Outcome) → plus 0 (rest (ball (search_of code p f)) (centres p f) r.next) ≡ o →
        whole (run (search_of code p f)) ≡ whole (plus total o)
    ends o g = ap whole (sym (s.sum h.left) ∙ ap (plus total) (sym (plus_zero (rest (ball (search_of code p f)) (centres p f) r.next)) ∙ g))

    go : {x : Progress} → Told (ball (search_of code p f)) A (centres p f) 0 r.next x → ((d : ℕ) → x.answer ≡ spent d → ⊥) →
        whole (run (search_of code p f)) ≡ later total x.answer
    go (told_clear m d small g) n = ends (found m d) g
    go (told_none d small g nothing) n = ends (Outcome.none d) g
    go (told_spent d j l b small over nothing g) n = absurd (n d refl)

module _ (p : Plan) (f : Formula) (other : is_horn f.clauses ≡ false) where
  pub sums_step : (r : Checkpoint) (total : ℕ) (l : Leg) → Sums p f r total → OnOne f (turn_of r l) →
      Sums p f (takes r l).checkpoint (total + (takes r l).reply.calls)
  unfolding refused_leg decided_leg about
  sums_step r total l s on = go (leg_was l r) on
    where
      stays : Sums p f r (total + 0)
      stays = rw add-zero s

      go : {e : LegEnd} → LegWas l r e → OnOne f (record { leg = l; reply = e.reply }) →
          Sums p f e.checkpoint (total + e.reply.calls)
      go (declined why) q = stays
      go (rounds_leg {f = g} h horn) (inl q) = absurd (rounds_answered l.plan l.budget g r q)
      go (rounds_leg {f = g} h horn) (inr q) =
          let same = ap (λ (x : Formula). is_horn x.clauses) (same_read _ h.sheet q) in
          absurd (true≢false (sym horn ∙ same ∙ other))
      go (balls_leg_lem {f = g} h at st) (inl q) = absurd (balls_answered l.plan l.budget g r q)
      go (balls_leg_lem {f = g} h at st) (inr q) =
          let same : g ≡ f = same_read _ h.sheet q in
          let plans : l.plan ≡ p = (belongs_both g f l.plan p r at.same s.same).1 in
          let e = balls_leg l.plan l.budget r g in
          along (λ x y. Sums x y e.checkpoint (total + e.reply.calls)) plans same
          (sums_balls l.plan l.budget g r total at (along (λ x y. Sums x y r total) (sym plans) (sym same) s))

-- ---- what legs have emptied

-- Balls that a leg of them passed without a clear are emptied.
pub balls_empty : (p : Plan) (A : ℕ) (f : Formula) (r : Checkpoint) → WellFormed f → Searched p f r →
    let l = leg_of (search_of code p f) A r.next in
    ((m d : ℕ) → l.answer ≡ clear m d → ⊥) → Emptied code p f r.next l.next
balls_empty p A f r formed h = go (balls_told p A f r h)
  where
    go : {x : Progress} → Told (ball (search_of code p f)) A (centres p f) 0 r.next x →
        ((m d : ℕ) → x.answer ≡ clear m d → ⊥) → Emptied code p f r.next x.next
    go (told_clear m d small g) n = absurd (n m d refl)
    go (told_none d small g nothing) n = nothing_empties code covering p f formed _ _ nothing
    go (told_spent d j l b small over nothing g) n = nothing_empties code covering p f formed _ _ nothing

-- Where a ball is left, no model of g is within R of the centres before it.
pub record Empties (p : Plan) (g : Formula) (r : Checkpoint) : Type 0 where
  pub same : belongs g p r ≡ true
  pub empty : r.next < centres p g → Emptied code p g 0 r.next

pub empties_start : (p : Plan) (g : Formula) → Empties p g (start p g)
unfolding start Emptied
empties_start p g = record { same = start_belongs p g; empty = λ l x w l' b below near. absurd (omega arith) }

module _ (p : Plan) (g : Formula) where
  empties_balls : (A : ℕ) (f : Formula) (r : Checkpoint) → WellFormed f → f.n ≡ g.n → stands f.clauses g.clauses ≡ true →
      Searched p f r → Empties p g r → Empties p g (moved_to r (leg_of (search_of code p f) A r.next).next)
  unfolding belongs of_batch of_plan
  empties_balls A f r formed n st h s = go (balls_told p A f r h)
    where
      all : centres p f ≡ centres p g
      all = ap (λ (x : ℕ). centre_count (blocks code p x)) n

      go : {x : Progress} → Told (ball (search_of code p f)) A (centres p f) 0 r.next x → Empties p g (moved_to r x.next)
      go (told_clear m d small e) = record { same = s.same; empty = λ l. absurd (omega (arith, all)) }
      go (told_none d small e nothing) = record { same = s.same; empty = λ l. absurd (omega (arith, all)) }
      go (told_spent d j l b small over nothing e) =
          let here = emptied_further code p f g _ _ n st (nothing_empties code covering p f formed _ _ nothing) in
          record { same = s.same; empty = λ l'. emptied_join code p g 0 r.next j (s.empty (omega (arith, all, h.left))) here }

  pub empties_step : (r : Checkpoint) (total : ℕ) (l : Leg) → Empties p g r → StandsIn g (turn_of r l) →
      Empties p g (takes r l).checkpoint
  unfolding refused_leg decided_leg about balls_leg
  empties_step r total l s on = go (leg_was l r) on
    where
      go : {e : LegEnd} → LegWas l r e → StandsIn g (record { leg = l; reply = e.reply }) →
          Empties p g e.checkpoint
      go (declined why) q = s
      go (rounds_leg h horn) q = s
      go (balls_leg_lem {f = f} h at kept) (inl q) = absurd (balls_answered l.plan l.budget f r q)
      go (balls_leg_lem {f = f} h at kept) (inr (f', q, st)) =
          let (n, plans) = belongs_both f g l.plan p r at.same s.same in
          let st' = subst (λ (x : Formula). stands x.clauses g.clauses ≡ true) (same_read _ q h.sheet) st in
          let moves : (x : Plan) → x ≡ p → Searched x f r → Empties p g (moved_to r (leg_of (search_of code x f) l.budget r.next).next) =
          λ x e at'. subst
          (λ (y : Plan). Searched y f r → Empties p g (moved_to r (leg_of (search_of code y f) l.budget r.next).next))
          (sym e) (λ at''. empties_balls l.budget f r (parse_well_formed _ f h.sheet) n st' at'' s) at' in
          moves l.plan plans at

-- ---- legs that follow on each other

-- What was emptied before stays so on a sheet with further clauses.
pub empties_grow : (p : Plan) (g h : Formula) (r : Checkpoint) (q : Plan) → Searched q h r → stands g.clauses h.clauses ≡ true → Empties p g r → Empties p h r
empties_grow p g h r q at st s =
    let (n, plans) = belongs_both h g q p r at.same s.same in
    let all = ap (λ (x : ℕ). centre_count (blocks code p x)) n in
    record {
      same = subst (λ (x : Plan). belongs h x r ≡ true) plans at.same;
      empty = λ l. emptied_further code p g h 0 r.next (sym n) st (s.empty (omega (arith, all)));
    }

-- A leg that works no balls leaves the record;
leg_idle : (r : Checkpoint) (l : Leg) → eqb (takes r l).reply.road BALLS ≡ false → (takes r l).checkpoint ≡ r
unfolding refused_leg decided_leg
leg_idle r l = go (leg_was l r)
  where
    go : {e : LegEnd} → LegWas l r e → eqb e.reply.road BALLS ≡ false → e.checkpoint ≡ r
    go (declined why) road = refl
    go (rounds_leg h horn) road = refl
    go (balls_leg_lem {f = f} h at st) road = absurd (true≢false (sym (balls_road l.plan l.budget f r) ∙ road))

-- and one that does searches a formula in which the old one's clauses stand.
pub leg_grows : (r : Checkpoint) (l : Leg) (g h : Formula) → parse l.old ≡ accepted g → parse l.sheet ≡ accepted h →
    eqb (takes r l).reply.road BALLS ≡ true → Searched l.plan h r × (stands g.clauses h.clauses ≡ true)
unfolding refused_leg about
leg_grows r l g h old sheet = go (leg_was l r)
  where
    go : {e : LegEnd} → LegWas l r e → eqb e.reply.road BALLS ≡ true → Searched l.plan h r × (stands g.clauses h.clauses ≡ true)
    go (declined why) road = absurd (true≢false (sym road))
    go (rounds_leg {f = f} b horn) road = absurd (true≢false (sym road ∙ rounds_road l.plan l.budget f r horn))
    go (balls_leg_lem {g = g'} {f = f} b at st) road =
        let first = same_read l.old b.old old in
        let second = same_read l.sheet b.sheet sheet in (
          subst (λ (x : Formula). Searched l.plan x r) second at,
          subst (λ (x : Formula). stands g.clauses x.clauses ≡ true) second (subst (λ (x : Formula). stands x.clauses f.clauses ≡ true) first st),
        )

-- So legs that follow on each other have emptied the balls before the next one, for the formula searched last.
pub empties_follow : (p : Plan) (ls : List Leg) (r : Checkpoint) (f g : Formula) → Empties p f r → Follow f (turns r ls) g → Empties p g (checkpoint_after r ls)
unfolding turns checkpoint_after
empties_follow p [] r f g s no_more = s
empties_follow p (l ∷ ls) r f g s (Follow.idle road rest) =
    empties_follow p ls (takes r l).checkpoint f g (subst (Empties p f) (sym (leg_idle r l road)) s) rest
empties_follow p (l ∷ ls) r f g s (Follow.searched {h = h} road old sheet rest) =
    let (at, st) = leg_grows r l f h old sheet road in
    let on = empties_step p h r 0 l (empties_grow p f h r l.plan at st s) (inr (h, sheet, stands_refl h.clauses)) in
    empties_follow p ls (takes r l).checkpoint h g on rest

-- ---- how many legs there are

-- M of a record
abbrev pub centres_of : Checkpoint → ℕ
centres_of r = centre_count (blocks code (plan r.size r.radius) r.n)

-- What a leg that has enough does: a ball was left, and it has passed one or more; where it is spent one is left.
pub record GetsOn (r : Checkpoint) (e : LegEnd) : Type 0 where
  pub left : r.next < centres_of r
  pub same : centres_of e.checkpoint ≡ centres_of r
  pub more : r.next < e.checkpoint.next
  pub most : e.checkpoint.next ≤ centres_of r
  pub spent : e.reply.verdict ≡ SPENT → e.checkpoint.next < centres_of r

balls_get_on : (p : Plan) (A : ℕ) (f : Formula) (r : Checkpoint) → WellFormed f → Searched p f r →
    powers (longest f.clauses) (summed_radius (blocks code p f.n)) ≤ A →
    (x : Progress) → Told (ball (search_of code p f)) A (centres p f) 0 r.next x → GetsOn r (balls_end f r x)
unfolding about numbers_of
balls_get_on p A f r formed at enough x t = told t
  where
    all : centres_of r ≡ centres p f
    all =
        let (_, n, size, radius) = belongs_is f p r at.same in
        ap₂ (λ (x : Plan) (y : ℕ). centre_count (blocks code x y)) (ap₂ plan size radius) n

    fits : calls (ball (search_of code p f) r.next) ≤ A
    fits = le_trans (ball_most code covering p f formed r.next) enough

    ended : (a : Answer) → ((numbers_of f.batch BALLS (answered a)).verdict ≡ SPENT → ⊥) → GetsOn r (balls_end f r (progress a (centres p f)))
    ended a n =
        record { left = omega (arith, all, at.left); same = refl; more = at.left; most = omega (arith, all); spent = λ z. absurd (n z) }

    told : {x : Progress} → Told (ball (search_of code p f)) A (centres p f) 0 r.next x → GetsOn r (balls_end f r x)
    told (told_clear m d small h) = ended (clear m d) (λ z. omega arith)
    told (told_none d small h nothing) = ended (Answer.none d) (λ z. omega arith)
    told (told_spent d j i b small over nothing h) =
        record {
          left = omega (arith, all, at.left);
          same = refl;
          more = leg_moves _ A (centres p f) r.next at.left fits _ (told_spent d j i b small over nothing h) d refl;
          most = omega (arith, all);
          spent = λ z. omega (arith, all);
        }

pub gets_on : (r : Checkpoint) (l : Leg) (f : Formula) → parse l.sheet ≡ accepted f → is_horn f.clauses ≡ false →
    ((takes r l).reply.verdict ≡ REFUSED → ⊥) → powers (longest f.clauses) (summed_radius (blocks code l.plan f.n)) ≤ l.budget →
    GetsOn r (takes r l)
gets_on r l f e other kept enough =
    let w = leg_went l f r e other kept in
    leg_by_told (GetsOn r) l f r w (balls_get_on l.plan l.budget f r (parse_well_formed _ f e) w.at enough)

-- A leg that has enough worked balls and got on, or did not and left the record.
data Gains (r : Checkpoint) (e : LegEnd) : Type 0 where
  idle : eqb e.reply.road BALLS ≡ false → e.checkpoint ≡ r → Gains r e
  gains : eqb e.reply.road BALLS ≡ true → GetsOn r e → Gains r e

leg_gains : (r : Checkpoint) (l : Leg) → Enough (turn_of r l) → Gains r (takes r l)
unfolding decided_leg refused_leg about
leg_gains r l (kept, f, e, enough) = go (is_horn f.clauses) refl
  where
    rounds : is_horn f.clauses ≡ true → {x : LegEnd} → LegWas l r x → (x.reply.verdict ≡ REFUSED → ⊥) → Gains r x
    rounds horn (declined why) n = absurd (n refl)
    rounds horn (rounds_leg {f = g} h horn') n = idle (rounds_road l.plan l.budget g r horn') refl
    rounds horn (balls_leg_lem h at st) n =
        let same = ap (λ (x : Formula). is_horn x.clauses) (same_read l.sheet e h.sheet) in
        absurd (true≢false (sym horn ∙ same ∙ at.balls))

    go : (b : Bool) → is_horn f.clauses ≡ b → Gains r (takes r l)
    go true horn = rounds horn (leg_was l r) kept
    go false other =
        let w = leg_went l f r e other kept in
        gains (ap (λ (x : LegEnd). eqb x.reply.road BALLS) (w.is ∙ sym (balls_end_lem l.plan l.budget f r)) ∙ balls_road l.plan l.budget f r) (gets_on r l f e other kept (enough other))

-- From any record, legs that have enough and work balls are no more than the balls left, less as many as each of them leaves.
pub legs_room : (least : ℕ) (Q : Turn → Type 0) →
    ((r : Checkpoint) (l : Leg) → Q (turn_of r l) → eqb (takes r l).reply.road BALLS ≡ true → GetsOn r (takes r l) →
    (takes r l).checkpoint.next + least ≤ centres_of r) →
    (ls : List Leg) (r : Checkpoint) → r.next + least ≤ centres_of r → ((t : Turn) → In t (turns r ls) → Enough t × Q t) →
    ball_legs (turns r ls) + (r.next + least) ≤ centres_of r
unfolding turns ball_legs count keep
legs_room least Q leaves [] r h each = omega arith
legs_room least Q leaves (l ∷ ls) r h each =
    go (leg_gains r l (each _ (Memᴰ.head refl)).0)
    (λ fits. legs_room least Q leaves ls (takes r l).checkpoint fits (λ t i. each t (Memᴰ.tail i)))
  where
    after : Checkpoint
    after = (takes r l).checkpoint

    go : Gains r (takes r l) → (after.next + least ≤ centres_of after → ball_legs (turns after ls) + (after.next + least) ≤ centres_of after) →
        ball_legs (turns r (l ∷ ls)) + (r.next + least) ≤ centres_of r
    go (idle road same) rest =
        let more = subst (λ (x : Checkpoint). x.next + least ≤ centres_of x → ball_legs (turns after ls) + (x.next + least) ≤ centres_of x) same rest h in
        rw (count_cons _ _ _, road) (rw zero-add more)
    go (gains road on) rest =
        let fits = leaves r l (each _ (Memᴰ.head refl)).1 road on in
        let more = rest (omega (arith, on.same)) in
        rw (count_cons _ _ _, road) (omega (arith, on.more, on.same))

-- ---- larger budgets

-- the leg with another budget
abbrev pub with_budget : ℕ → Leg → Leg
with_budget B l = record { plan = l.plan; budget = B; old = l.old; sheet = l.sheet; name = l.name }

pub leg_same : (l : Leg) (B : ℕ) (r : Checkpoint) → l.budget ≤ B → ((takes r l).reply.verdict ≡ SPENT → ⊥) → takes r (with_budget B l) ≡ takes r l
unfolding takes leg_read leg_on unless_declined about leg_of search_of
leg_same l B r small = by_coded (coded? l.plan.size l.plan.radius) refl
  where
    -- what it leaves with either budget
    Same : LegEnd → LegEnd → Type 0
    Same e x = (e.reply.verdict ≡ SPENT → ⊥) → x ≡ e

    legs_same : (f : Formula) → r.next < centres l.plan f →
        ((d : ℕ) → (leg_of (search_of code l.plan f) l.budget r.next).answer ≡ spent d → ⊥) →
        leg_of (search_of code l.plan f) B r.next ≡ leg_of (search_of code l.plan f) l.budget r.next
    legs_same f left n =
        let q = search_of code l.plan f in
        leg_from_lem (ball q) B (centres l.plan f) r.next
        ∙ leg_stays (ball q) l.budget B (centres l.plan f) 0 r.next (omega arith) small (omega (arith, left))
        (λ d e. n d (ap (λ (x : Progress). x.answer) (leg_from_lem (ball q) l.budget (centres l.plan f) r.next) ∙ e))
        ∙ sym (leg_from_lem (ball q) l.budget (centres l.plan f) r.next)

    rounds_same : (f : Formula) → Accepted l.plan l.sheet f →
        Same (decided_leg (judged l.plan l.budget f) r) (decided_leg (judged l.plan B f) r)
    rounds_same f h n =
        let told = ap (λ (e : LegEnd). e.reply.verdict) (rounds_end l.plan l.budget l.sheet f h r) in
        rounds_end l.plan B l.sheet f h r
        ∙ ap (λ (x : Reply). record { reply = about 0 x; checkpoint = r })
        (reply_stays l.plan l.budget B l.sheet small (λ v. n (told ∙ v)))
        ∙ sym (rounds_end l.plan l.budget l.sheet f h r)

    balls_same : (f : Formula) → r.next < centres l.plan f → Same (balls_leg l.plan l.budget r f) (balls_leg l.plan B r f)
    balls_same f left n =
        let told = ap (λ (e : LegEnd). e.reply.verdict) (balls_end_lem l.plan l.budget f r) in
        balls_end_lem l.plan B f r
        ∙ ap (balls_end f r) (legs_same f left (λ d e. n (told ∙ (spent_number f.batch BALLS _).1 (d, e))))
        ∙ sym (balls_end_lem l.plan l.budget f r)

    by_checks : (g f : Formula) (c : Check) →
        checks l.name (centres l.plan f) l.plan r g f (first_lacking header_words g.clauses f.clauses) ≡ c →
        Same (unless_declined c r (balls_leg l.plan l.budget r f)) (unless_declined c r (balls_leg l.plan B r f))
    by_checks g f (Declined sheet number place) e n = refl
    by_checks g f Passed e n = balls_same f (checks_fine _ _ _ _ _ _ _ e).left n

    by_horn : (g f : Formula) → Accepted l.plan l.sheet f → (b : Bool) → is_horn f.clauses ≡ b →
        Same (leg_on l.name l.plan l.budget r g f) (leg_on l.name l.plan B r g f)
    by_horn g f h true e = rw e (rounds_same f h)
    by_horn g f h false e = rw e (by_checks g f _ refl)

    by_sheets : coded? l.plan.size l.plan.radius ≡ true → (x y : Result Formula) → parse l.sheet ≡ y →
        Same (leg_read l r x y) (leg_read (with_budget B l) r x y)
    by_sheets h (refused number place) y e n = refl
    by_sheets h (accepted g) (refused number place) e n = refl
    by_sheets h (accepted g) (accepted f) e n = by_horn g f (record { plan = h; sheet = e }) (is_horn f.clauses) refl n

    by_coded : (b : Bool) → coded? l.plan.size l.plan.radius ≡ b →
        Same (cond b (leg_read l r (parse l.old) (parse l.sheet)) (refused_leg l.name BAD_PLAN 0 r))
        (cond b (leg_read (with_budget B l) r (parse l.old) (parse l.sheet)) (refused_leg l.name BAD_PLAN 0 r))
    by_coded true h n = by_sheets h (parse l.old) (parse l.sheet) refl n
    by_coded false h n = refl
