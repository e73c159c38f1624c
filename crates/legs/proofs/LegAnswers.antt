-- What `leg` and `leg_longer` answer and leave (02, papers 11 and 12), for every plan, budget, sheet or sheets, and record, in the numbers
-- that a host gets; and what legs in order come to. A leg `l` is either: on one sheet (`alone`), or on an old one and a longer one (`grown`).
use Rattle.std.specs.Prelude.{is_none as nothing}
use Rattle.std.specs.Prelude.{Some, ◌≡◌, ◌⊎◌, ◌↔◌, Bool, true, false, List, ℕ, ◌+◌, ◌^◌, ◌≤◌, ◌<◌, eqb, length}
use Rattle.std.proofs.Math.Path.{refl, ap, subst}
use Rattle.std.proofs.Common.{sym, ◌∙◌, inl, inr, true≢false, le_trans, zero-add, arith, pow_mono}
use Rattle.std.proofs.Math.Logic.{⊎_elim}
use Rattle.words.specs.Lists.{In}
use Rattle.words.proofs.ListLaws.{apart}
use Rattle.formula.specs.Formula.{Formula, all_true, Satisfiable}
use Rattle.formula.specs.Sheet.{accepted, parse, formula_words, header_words}
use Rattle.formula.specs.Sets.{stands, first_lacking}
use Rattle.formula.proofs.SetLaws.{stands_refl, stands_model}
use Rattle.formula.proofs.LackingLaws.{Lacks, lacking_at, lacking_stands}
use Rattle.formula.proofs.ParseAccepted.{parse_well_formed}
use Rattle.formula.proofs.ParseRefused.{reason_number}
use Rattle.code.specs.Code.{code}
use Rattle.tree.specs.Explore.{none, calls}
use Rattle.tree.specs.Budget.{Answer, clear, spent, whole, answer}
use Rattle.tree.proofs.Decides.{Decides}
use Rattle.tree.proofs.TreeLaws.{plus_zero}
use Rattle.tree.specs.Budget.{settle}
use Rattle.tree.proofs.BudgetLaws.{count_of, assignment_of, answer_whole, count_whole, settle_spent}
use Rattle.tree.specs.Legs.{Progress, progress, turn}
use Rattle.tree.proofs.LegLaws.{Told, told_clear, told_none, told_spent, leg_from_lem, leg_goes_on}
use Rattle.search.specs.Run.{Plan, search_of, ball, leg_of, Emptied}
use Rattle.search.proofs.CallLaws.{ball_some}
use Rattle.search.proofs.LegLaws.{found_model, emptied_all, emptied_join, some_centre}
use Rattle.horn.specs.Horn.{is_horn}
use Rattle.decision.specs.declared.Reply.{Reply}
use Rattle.legs.specs.declared.Checkpoint.{Checkpoint}
use Rattle.legs.specs.declared.LegReply.{LegReply}
use Rattle.legs.specs.declared.LegEnd.{LegEnd}
use Rattle.decision.specs.Answers.{outcome, answered, judged, counts, declines, numbers_of, marks_of, reply_to, REFUSED, CLEAR, NONE, SPENT, BALLS}
use Rattle.decision.specs.Right.{Accepted, decided_by}
use Rattle.decision.specs.DemandLaws.{covering, clear_number, spent_number, marks_number, calls_number, reply_accepted, reply_right, reply_none, run_further}
use Rattle.decision.specs.HornAnswers.{by_balls}
use Rattle.legs.specs.Legs.{about, refused_leg, decided_leg, leg_marks, Leg, alone, centres, moved_to, balls_leg, leg_on, leg_read, takes, Brings, Searched, checkpoint_after, Turn, turns, summed, start, OnOne, StandsIn, Follow, Enough, ball_legs, FIRST, CLAUSE_DROPPED}
use Rattle.legs.specs.LegRefusals.{LegReason, bad_plan_lem, bad_old, bad_sheet, unchecked}
use Rattle.legs.specs.LegRefusals as Why
use Rattle.legs.proofs.LegLaws as Laws
use Rattle.legs.proofs.LegLaws.{LegWas, declined, rounds_leg, balls_leg_lem, leg_was, balls_told, balls_end_lem, balls_end, with_budget, brings_accepted}

-- ---- any bytes

-- what a leg leaves: a reply about a sheet, and a record
abbrev pub left : ℕ → Reply → Checkpoint → LegEnd
left sheet reply r = record { reply = about sheet reply; checkpoint = r }

-- Clear, none, spent, or a refusal for a reason, about a sheet, with its place and everything else 0, which leaves the record. A Horn sheet gets the
-- reply of a run and leaves the record; a leg over balls leaves the next one, which after clear and none is M.
pub data LegAnswered (l : Leg) (r : Checkpoint) : LegEnd → Type 0 where
  is_refused : {sheet number place : ℕ} → LegReason l r sheet number place → LegAnswered l r (left sheet (declines number place) r)
  by_rounds : {g f : Formula} → Brings l g f → is_horn f.clauses ≡ true → LegAnswered l r (left 0 (reply_to l.plan l.budget l.sheet) r)
  is_clear : {g f : Formula} {c : ℕ} (m : ℕ) → Brings l g f → Searched l.plan f r → stands g.clauses f.clauses ≡ true → c ≤ l.budget →
      LegAnswered l r (left 0 (counts CLEAR f.batch BALLS m c) (moved_to r (centres l.plan f)))
  is_none : {g f : Formula} {c : ℕ} → Brings l g f → Searched l.plan f r → stands g.clauses f.clauses ≡ true → c ≤ l.budget →
      LegAnswered l r (left 0 (counts NONE f.batch BALLS 0 c) (moved_to r (centres l.plan f)))
  is_spent : {g f : Formula} {c i : ℕ} → Brings l g f → Searched l.plan f r → stands g.clauses f.clauses ≡ true → c ≤ l.budget →
      r.next ≤ i → i < centres l.plan f → LegAnswered l r (left 0 (counts SPENT f.batch BALLS 0 c) (moved_to r i))

pub leg_answered : (l : Leg) (r : Checkpoint) → LegAnswered l r (takes r l)
unfolding refused_leg
leg_answered l r = go (leg_was l r)
  where
    told : {g f : Formula} → Brings l g f → Searched l.plan f r → stands g.clauses f.clauses ≡ true → {x : Progress} →
        Told (ball (search_of code l.plan f)) l.budget (centres l.plan f) 0 r.next x →
        LegAnswered l r (left 0 (numbers_of f.batch BALLS (answered x.answer)) (moved_to r x.next))
    told h at st (told_clear m d small q) = unfold numbers_of in is_clear m h at st small
    told h at st (told_none d small q nothing) = unfold numbers_of in is_none h at st small
    told h at st (told_spent d j i b small over nothing q) = unfold numbers_of in is_spent h at st small i b

    go : {e : LegEnd} → LegWas l r e → LegAnswered l r e
    go (declined why) = is_refused why
    go (rounds_leg {f = f} h horn) = rw (Laws.rounds_end l.plan l.budget l.sheet f (brings_accepted h) r) (by_rounds h horn)
    go (balls_leg_lem {f = f} h at st) = rw (balls_end_lem l.plan l.budget f r) (told h at st (balls_told l.plan l.budget f r at))

-- A leg on one sheet names that sheet at every refusal, and never says that a clause is dropped.
pub alone_refused : {p : Plan} {A : ℕ} {s : List ℕ} {r : Checkpoint} {sheet number place : ℕ} → LegReason (alone p A s) r sheet number place →
    (sheet ≡ FIRST) × (number ≡ CLAUSE_DROPPED → ⊥)
alone_refused (bad_plan_lem h) = (refl, λ e. omega arith)
alone_refused (bad_old h why) = (refl, λ e. omega (arith, (reason_number why).1))
alone_refused (bad_sheet h e why) = (refl, λ e'. omega (arith, (reason_number why).1))
alone_refused (unchecked h o (Why.too_many m)) = (refl, λ e. omega arith)
alone_refused (unchecked h o (Why.other_plan m a)) = (refl, λ e. omega arith)
alone_refused (unchecked h o (Why.other_old m a b)) = (refl, λ e. omega arith)
alone_refused (unchecked h o (Why.other_sheet m a b c)) = (refl, λ e. omega arith)
alone_refused (unchecked h o (Why.finished m a b c d)) = (refl, λ e. omega arith)
alone_refused {s = s} (unchecked {g = g} {f = f} h o (Why.dropped m a b c d x)) = (refl, λ e. absurd (never (Laws.same_read s h.old h.sheet) x))
  where
    never : {g f : Formula} {place : ℕ} → g ≡ f → first_lacking header_words g.clauses f.clauses ≡ Some place → ⊥
    never {g} {f} same x =
        let all = subst (λ (y : Formula). stands g.clauses y.clauses ≡ true) same (stands_refl g.clauses) in
        true≢false (sym all ∙ sym (lacking_stands header_words g.clauses f.clauses) ∙ ap nothing x)

-- Refusal 13 is about the old sheet, and its place is the first word there of the first clause that is lacking: as many words as the sheet of the
-- clauses before it has.
pub record DroppedAt (l : Leg) (sheet place : ℕ) : Type 0 where
  pub old : Formula
  pub longer : Formula
  pub brings : Brings l old longer
  pub lacks : Lacks old.clauses longer.clauses
  pub about : sheet ≡ FIRST
  pub at : place ≡ length (formula_words (record { batch = old.batch; n = old.n; clauses = lacks.before }))

pub dropped_at : {l : Leg} {r : Checkpoint} {sheet number place : ℕ} → LegReason l r sheet number place → number ≡ CLAUSE_DROPPED → DroppedAt l sheet place
unfolding formula_words
dropped_at (bad_plan_lem h) e = absurd (omega arith)
dropped_at (bad_old h why) e = absurd (omega (arith, (reason_number why).1))
dropped_at (bad_sheet h e why) e' = absurd (omega (arith, (reason_number why).1))
dropped_at (unchecked h o (Why.too_many m)) e = absurd (omega arith)
dropped_at (unchecked h o (Why.other_plan m a)) e = absurd (omega arith)
dropped_at (unchecked h o (Why.other_old m a b)) e = absurd (omega arith)
dropped_at (unchecked h o (Why.other_sheet m a b c)) e = absurd (omega arith)
dropped_at (unchecked h o (Why.finished m a b c d)) e = absurd (omega arith)
dropped_at (unchecked {g = g} {f = f} h o (Why.dropped m a b c d x)) e =
    let (lacks, at) = lacking_at header_words g.clauses f.clauses _ x in
    record { old = g; longer = f; brings = h; lacks = lacks; about = refl; at = omega (arith, at) }

-- ---- one leg

module _ (l : Leg) (r : Checkpoint) where
  abbrev e : LegEnd
  e = takes r l

  -- A refusal leaves the record as it came;
  pub leg_refused : e.reply.verdict ≡ REFUSED → e.checkpoint ≡ r
  unfolding refused_leg decided_leg
  leg_refused = go (leg_was l r)
    where
      go : {x : LegEnd} → LegWas l r x → x.reply.verdict ≡ REFUSED → x.checkpoint ≡ r
      go (rounds_leg h horn) v = refl
      go (declined why) v = refl
      go (balls_leg_lem {f = f} h at st) v = absurd (Laws.balls_answered l.plan l.budget f r v)

  -- and no leg changes more of it than its next ball.
  pub leg_kept : e.checkpoint ≡ moved_to r e.checkpoint.next
  unfolding refused_leg decided_leg balls_leg
  leg_kept = go (leg_was l r)
    where
      go : {x : LegEnd} → LegWas l r x → x.checkpoint ≡ moved_to r x.checkpoint.next
      go (rounds_leg h horn) = refl
      go (declined why) = refl
      go (balls_leg_lem h at st) = refl

  -- A clear or none, with its record, stays the same under every larger budget.
  pub leg_stays : (B : ℕ) → l.budget ≤ B → (e.reply.verdict ≡ SPENT → ⊥) → takes r (with_budget B l) ≡ e
  leg_stays B small n = Laws.leg_same l B r small n

  -- A Horn sheet is answered as by a run, whatever the old one and the record, which stays.
  pub leg_horn : (g f : Formula) → Brings l g f → is_horn f.clauses ≡ true → e ≡ left 0 (reply_to l.plan l.budget l.sheet) r
  unfolding takes leg_read leg_on
  leg_horn g f h horn =
      let first : e ≡ decided_leg (judged l.plan l.budget f) r = rw (h.plan, h.old, h.sheet, horn) in
      first ∙ Laws.rounds_end l.plan l.budget l.sheet f (brings_accepted h) r

  module _ (f : Formula) (read : parse l.sheet ≡ accepted f) where
    -- A clear has a model, whatever the record.
    pub leg_clear : e.reply.verdict ≡ CLEAR → (leg_marks e.reply < 2 ^ f.n) × (all_true (leg_marks e.reply) f.clauses ≡ true)
    unfolding leg_marks marks_of about numbers_of assignment_of refused_leg
    leg_clear = go (leg_was l r)
      where
        Model : LegEnd → Formula → Type 0
        Model x g = x.reply.verdict ≡ CLEAR → (leg_marks x.reply < 2 ^ g.n) × (all_true (leg_marks x.reply) g.clauses ≡ true)

        told : (g : Formula) → parse l.sheet ≡ accepted g → {x : Progress} →
            Told (ball (search_of code l.plan g)) l.budget (centres l.plan g) 0 r.next x → Model (balls_end g r x) g
        told g read' (told_clear m d small q) v =
            let formed = parse_well_formed l.sheet g read' in
            let model = found_model code covering l.plan g formed _ _ m d (sym (plus_zero _) ∙ q) in
            rw (marks_number g.batch BALLS (clear m d) (le_trans model.0 (pow_mono formed.variables))) model
        told g read' (told_none d small q nothing) v = absurd (omega arith)
        told g read' (told_spent d j i b small over nothing q) v = absurd (omega arith)

        go : {x : LegEnd} → LegWas l r x → Model x f
        go (declined why) = λ v. absurd (omega arith)
        go (rounds_leg {f = g} h horn) =
            subst (Model (decided_leg (judged l.plan l.budget g) r)) (Laws.same_read l.sheet h.sheet read)
            (subst (λ (x : LegEnd). Model x g) (sym (Laws.rounds_end l.plan l.budget l.sheet g (brings_accepted h) r))
            (reply_right l.plan l.budget l.sheet g (brings_accepted h)).model)
        go (balls_leg_lem {f = g} h at st) =
            subst (Model (balls_leg l.plan l.budget r g)) (Laws.same_read l.sheet h.sheet read)
            (subst (λ (x : LegEnd). Model x g) (sym (balls_end_lem l.plan l.budget g r))
            (told g h.sheet (balls_told l.plan l.budget g r at)))

    -- What is not clear has emptied the balls that it passed: no assignment within R of their centres is a model.
    pub leg_emptied : (e.reply.verdict ≡ CLEAR → ⊥) → Emptied code l.plan f r.next e.checkpoint.next
    unfolding refused_leg decided_leg about balls_leg Emptied
    leg_emptied = go (leg_was l r)
      where
        go : {x : LegEnd} → LegWas l r x → (x.reply.verdict ≡ CLEAR → ⊥) → Emptied code l.plan f r.next x.checkpoint.next
        go (rounds_leg h horn) n = λ x w i b below near. absurd (omega arith)
        go (declined why) n = λ x w i b below near. absurd (omega arith)
        go (balls_leg_lem {f = g} h at st) n =
            let told = ap (λ (x : LegEnd). x.reply.verdict) (balls_end_lem l.plan l.budget g r) in
            let empty = Laws.balls_empty l.plan l.budget g r (parse_well_formed l.sheet g h.sheet) at (λ m d z. n (told ∙ (clear_number g.batch BALLS _).1 (m, d, z))) in
            subst (λ (x : Formula). Emptied code l.plan x r.next (leg_of (search_of code l.plan g) l.budget r.next).next)
            (Laws.same_read l.sheet h.sheet read) empty

    module _ (other : is_horn f.clauses ≡ false) where
      -- After a clear or none by balls the next ball is M,
      pub leg_done : (e.reply.verdict ≡ CLEAR) ⊎ (e.reply.verdict ≡ NONE) → e.checkpoint ≡ moved_to r (centres l.plan f)
      unfolding about numbers_of
      leg_done v =
          let went = Laws.leg_went l f r read other (λ q. ⊎_elim (λ w. omega arith) (λ w. omega arith) v) in
          Laws.leg_by_told Done l f r went (λ x. told) v
        where
          Done : LegEnd → Type 0
          Done x = (x.reply.verdict ≡ CLEAR) ⊎ (x.reply.verdict ≡ NONE) → x.checkpoint ≡ moved_to r (centres l.plan f)

          told : {x : Progress} → Told (ball (search_of code l.plan f)) l.budget (centres l.plan f) 0 r.next x → Done (balls_end f r x)
          told (told_clear m d small g) w = refl
          told (told_none d small g nothing) w = refl
          told (told_spent d j i b small over nothing g) w = ⊎_elim (λ z. absurd (omega arith)) (λ z. absurd (omega arith)) w

      -- and a none says, whatever the record, that no assignment within R of the centres from its next ball on is a model.
      pub leg_none : e.reply.verdict ≡ NONE → Emptied code l.plan f r.next (centres l.plan f)
      leg_none v = rw (leg_done (inr v)) at (leg_emptied (λ z. omega arith))

      -- A leg that is not refused and has fewer calls than the next ball needs is spent at once; and every ball needs one.
      module _ (kept : e.reply.verdict ≡ REFUSED → ⊥) where
        pub leg_stuck : l.budget < calls (ball (search_of code l.plan f) r.next) → e ≡ left 0 (counts SPENT f.batch BALLS 0 0) r
        unfolding leg_of search_of turn numbers_of
        leg_stuck few =
            let went = Laws.leg_went l f r read other kept in
            let q = search_of code l.plan f in
            let spent_here : settle l.budget 0 (ball q r.next) ≡ spent l.budget = settle_spent l.budget 0 (ball q r.next) (omega arith) in
            let first = leg_from_lem (ball q) l.budget (centres l.plan f) r.next ∙ leg_goes_on (ball q) l.budget (centres l.plan f) 0 r.next went.at.left in
            let stops : leg_of q l.budget r.next ≡ progress (spent 0) r.next = rw spent_here at first in
            went.is ∙ ap (balls_end f r) stops

        pub leg_budget_0 : l.budget ≡ 0 → e ≡ left 0 (counts SPENT f.batch BALLS 0 0) r
        leg_budget_0 z = leg_stuck (omega (arith, ball_some (search_of code l.plan f) r.next))

-- so that there is one
leg_satisfies : (l : Leg) (f : Formula) (r : Checkpoint) → parse l.sheet ≡ accepted f → (takes r l).reply.verdict ≡ CLEAR → Satisfiable f.n f.clauses
unfolding Satisfiable
leg_satisfies l f r read v = let (below, model) = leg_clear l r f read v in (leg_marks (takes r l).reply, below, model)

-- ---- legs in order

-- What a leg that ended the search says, after so many calls of the legs before it: all calls together are those that one run of the sheet
-- needs, and its verdict and marks are those of every run that gets as many.
pub record OneRun (p : Plan) (s : List ℕ) (f : Formula) (total : ℕ) (e : LegReply) : Type 0 where
  pub sum : total + e.calls ≡ calls (outcome p f)
  pub verdict : (B : ℕ) → calls (outcome p f) ≤ B → e.verdict ≡ (reply_to p B s).verdict
  pub marks : (B : ℕ) → calls (outcome p f) ≤ B → leg_marks e ≡ marks_of (reply_to p B s)

-- verdict and marks do not depend on the road and on the calls before
later_verdict : (b road c : ℕ) (a : Answer) →
    (numbers_of b BALLS (answered a)).verdict ≡ (numbers_of b road (answered (Laws.later c a))).verdict
unfolding numbers_of Laws.later
later_verdict b road c (clear m d) = refl
later_verdict b road c (Answer.none d) = refl
later_verdict b road c (spent d) = refl

later_marks : (b road c : ℕ) (a : Answer) →
    leg_marks (about 0 (numbers_of b BALLS (answered a))) ≡ marks_of (numbers_of b road (answered (Laws.later c a)))
unfolding numbers_of Laws.later leg_marks marks_of about
later_marks b road c (clear m d) = refl
later_marks b road c (Answer.none d) = refl
later_marks b road c (spent d) = refl

-- the numbers of an answer that is the run's but for the calls before
one_run : (p : Plan) (s : List ℕ) (f : Formula) → Accepted p s f → (total : ℕ) (a : Answer) →
    whole (outcome p f) ≡ Laws.later total a → OneRun p s f total (about 0 (numbers_of f.batch BALLS (answered a)))
unfolding about
one_run p s f h total a e =
    record {
      sum =
          ap (λ (x : ℕ). total + x) (calls_number f.batch BALLS a)
          ∙ sym (Laws.later_count total a)
          ∙ ap count_of (sym e)
          ∙ count_whole (outcome p f);
      verdict = λ B l. later_verdict f.batch (decided_by f) total a ∙ ap (λ (x : Reply). x.verdict) (sym (told B l));
      marks = λ B l. later_marks f.batch (decided_by f) total a ∙ ap marks_of (sym (told B l));
    }
  where
    told : (B : ℕ) → calls (outcome p f) ≤ B → reply_to p B s ≡ numbers_of f.batch (decided_by f) (answered (Laws.later total a))
    told B l =
        reply_accepted p B s f h
        ∙ ap (λ (x : Answer). numbers_of f.batch (decided_by f) (answered x)) (answer_whole B (outcome p f) l ∙ e)

-- On one sheet that is not Horn, from the start until a leg says clear or none: each leg before it is refused or on this sheet, with any
-- plan and budget.
pub legs_sum : (p : Plan) (s : List ℕ) (f : Formula) → Accepted p s f → is_horn f.clauses ≡ false →
    (ls : List Leg) → ((t : Turn) → In t (turns (start p f) ls) → OnOne f t) →
    (l : Leg) → parse l.sheet ≡ accepted f → let e = (takes (checkpoint_after (start p f) ls) l).reply in
    (e.verdict ≡ CLEAR) ⊎ (e.verdict ≡ NONE) → OneRun p s f (summed (turns (start p f) ls)) e
unfolding about
legs_sum p s f h other ls each l read v =
    let r : Checkpoint = checkpoint_after (start p f) ls in
    let q = search_of code p f in
    let went = Laws.leg_went l f r read other (ended v).0 in
    let sums = rw zero-add at (Laws.legs_keep (Laws.Sums p f) (OnOne f) (Laws.sums_step p f other) ls (start p f) 0 (Laws.sums_start p f) each) in
    let plans : l.plan ≡ p = (Laws.belongs_both f f l.plan p r went.at.same sums.same).1 in
    let at' = subst (λ (x : Plan). Searched x f r) plans went.at in
    let told : takes r l ≡ balls_end f r (leg_of q l.budget r.next) =
    subst (λ (x : Plan). takes r l ≡ balls_end f r (leg_of (search_of code x f) l.budget r.next)) plans went.is in
    let verdict = ap (λ (x : LegEnd). x.reply.verdict) told in
    let last = Laws.sums_last p l.budget f r _ at' sums (λ d z. (ended v).1 (verdict ∙ (spent_number f.batch BALLS _).1 (d, z))) in
    rw told (one_run p s f h _ _ (ap whole (by_balls p f other) ∙ last))
  where
    ended : {v : ℕ} → (v ≡ CLEAR) ⊎ (v ≡ NONE) → (v ≡ REFUSED → ⊥) × (v ≡ SPENT → ⊥)
    ended (inl w) = (λ z. omega arith, λ z. omega arith)
    ended (inr w) = (λ z. omega arith, λ z. omega arith)

-- Where no leg is refused, and each that is not Horn has a budget of at least 1 + k + … + k^R for its own sheet, at most M legs work balls; and as
-- long as all of those are spent, fewer.
pub legs_end : (p : Plan) (f : Formula) (ls : List Leg) → ((t : Turn) → In t (turns (start p f) ls) → Enough t) →
    (ball_legs (turns (start p f) ls) ≤ centres p f)
    × (((t : Turn) → In t (turns (start p f) ls) → eqb t.reply.road BALLS ≡ true → t.reply.verdict ≡ SPENT) → ball_legs (turns (start p f) ls) < centres p f)
unfolding start
legs_end p f ls each = (
  omega (arith, Laws.legs_room 0 (λ t. Unit) (λ r l q road on. omega (arith, on.most)) ls (start p f) (omega arith) (λ t i. (each t i, tt))),
  λ all.
      omega (
        arith,
        Laws.legs_room 1 (λ t. eqb t.reply.road BALLS ≡ true → t.reply.verdict ≡ SPENT)
            (λ r l q road on. omega (arith, on.spent (q road)))
            ls (start p f) (omega (arith, some_centre code covering p f.n)) (λ t i. (each t i, all t i)),
      ),
)

-- A none of a leg, where balls were emptied for its sheet before the next one, is a none.
none_after : (p : Plan) (g : Formula) (r : Checkpoint) → Laws.Empties p g r →
    (l : Leg) → parse l.sheet ≡ accepted g → is_horn g.clauses ≡ false → (takes r l).reply.verdict ≡ NONE → Satisfiable g.n g.clauses → ⊥
none_after p g r empties l read other v sat =
    let went = Laws.leg_went l g r read other (λ w. omega arith) in
    let plans : l.plan ≡ p = (Laws.belongs_both g g l.plan p r went.at.same empties.same).1 in
    let rest = subst (λ (x : Plan). Emptied code x g r.next (centres x g)) plans (leg_none l r g read other v) in
    let here = subst (λ (x : Plan). r.next < centres x g) plans went.at.left in
    emptied_all code covering p g (parse_well_formed l.sheet g read) (emptied_join code p g 0 r.next (centres p g) (empties.empty here) rest) sat

-- and so is one by rounds
none_by_rounds : (g : Formula) (r : Checkpoint) (l : Leg) → parse l.sheet ≡ accepted g → is_horn g.clauses ≡ true →
    (takes r l).reply.verdict ≡ NONE → Satisfiable g.n g.clauses → ⊥
none_by_rounds g r l read horn v =
    let kept : (takes r l).reply.verdict ≡ REFUSED → ⊥ = λ w. omega arith in
    reply_none l.plan l.budget l.sheet g (Laws.leg_accepted l g r read kept) (sym (Laws.leg_rounds l g r read horn kept) ∙ v)

-- A verdict that is right: clear exactly when a model exists, and none exactly when there is none.
abbrev pub RightVerdict : Formula → ℕ → Type 0
RightVerdict g v = ((v ≡ CLEAR) ↔ Satisfiable g.n g.clauses) × ((v ≡ NONE) ↔ (Satisfiable g.n g.clauses → ⊥))

right_verdict : (g : Formula) {v : ℕ} → (v ≡ CLEAR → Satisfiable g.n g.clauses) → (v ≡ NONE → Satisfiable g.n g.clauses → ⊥) →
    (v ≡ CLEAR) ⊎ (v ≡ NONE) → RightVerdict g v
right_verdict g model empty v = (
  (model, λ sat. ⊎_elim (λ w. w) (λ w. absurd (empty w sat)) v),
  (empty, λ unsat. ⊎_elim (λ w. absurd (unsat (model w))) (λ w. w) v),
)

-- A none after legs from the start, each refused or on a sheet whose clauses all stand in this one, is a none: there is no model.
pub legs_none : (p : Plan) (g : Formula) (ls : List Leg) → ((t : Turn) → In t (turns (start p g) ls) → StandsIn g t) →
    (l : Leg) → parse l.sheet ≡ accepted g → (takes (checkpoint_after (start p g) ls) l).reply.verdict ≡ NONE → Satisfiable g.n g.clauses → ⊥
legs_none p g ls each l read v = go (is_horn g.clauses) refl
  where
    empties : Laws.Empties p g (checkpoint_after (start p g) ls)
    empties = Laws.legs_keep (λ x total. Laws.Empties p g x) (StandsIn g) (Laws.empties_step p g) ls (start p g) 0 (Laws.empties_start p g) each

    go : (b : Bool) → is_horn g.clauses ≡ b → Satisfiable g.n g.clauses → ⊥
    go true horn = none_by_rounds g _ l read horn v
    go false other = none_after p g _ empties l read other v

-- A clear or none of that leg is right for its sheet.
pub legs_right : (p : Plan) (g : Formula) (ls : List Leg) → ((t : Turn) → In t (turns (start p g) ls) → StandsIn g t) →
    (l : Leg) → parse l.sheet ≡ accepted g → let v = (takes (checkpoint_after (start p g) ls) l).reply.verdict in
    (v ≡ CLEAR) ⊎ (v ≡ NONE) → RightVerdict g v
legs_right p g ls each l read = right_verdict g (leg_satisfies l g _ read) (legs_none p g ls each l read)

-- Nobody need compare the clauses of many sheets: where each leg that works balls brings as its old sheet the one that was searched last, the engine
-- has refused every leg that drops a clause, and a clear or none is right for its sheet.
pub legs_follow : (p : Plan) (f g : Formula) (ls : List Leg) → Follow f (turns (start p f) ls) g →
    (l : Leg) → parse l.old ≡ accepted g → (h : Formula) → parse l.sheet ≡ accepted h →
    let v = (takes (checkpoint_after (start p f) ls) l).reply.verdict in (v ≡ CLEAR) ⊎ (v ≡ NONE) → RightVerdict h v
legs_follow p f g ls follow l old h read = right_verdict h (leg_satisfies l h r read) (go (is_horn h.clauses) refl)
  where
    r : Checkpoint
    r = checkpoint_after (start p f) ls

    go : (b : Bool) → is_horn h.clauses ≡ b → (takes r l).reply.verdict ≡ NONE → Satisfiable h.n h.clauses → ⊥
    go true horn v = none_by_rounds h r l read horn v
    go false other v =
        let went = Laws.leg_went l h r read other (λ w. omega arith) in
        let road = ap (λ (x : LegEnd). eqb x.reply.road BALLS) (went.is ∙ sym (balls_end_lem l.plan l.budget h r)) ∙ Laws.balls_road l.plan l.budget h r in
        let (at, st) = Laws.leg_grows r l g h old read road in
        let empties = Laws.empties_follow p ls (start p f) f g (Laws.empties_start p f) follow in
        none_after p h r (Laws.empties_grow p g h r l.plan at st empties) l read other v

-- So it stands for ever: no run of a sheet with as many variables and at least the same clauses is clear, and one that is neither refused nor
-- spent says none, whatever the plans and the budgets;
pub legs_further : (p : Plan) (g : Formula) (ls : List Leg) → ((t : Turn) → In t (turns (start p g) ls) → StandsIn g t) →
    (l : Leg) → parse l.sheet ≡ accepted g → (takes (checkpoint_after (start p g) ls) l).reply.verdict ≡ NONE →
    (q : Plan) (B : ℕ) (s : List ℕ) (f : Formula) → parse s ≡ accepted f → g.n ≡ f.n → stands g.clauses f.clauses ≡ true →
    let v = (reply_to q B s).verdict in
    (v ≡ CLEAR → ⊥) × ((v ≡ REFUSED → ⊥) → (v ≡ SPENT → ⊥) → v ≡ NONE)
unfolding numbers_of answer whole calls
legs_further p g ls each l read v = run_further {o = none 0} 0 0 0 decides refl
  where
    decides : Decides g.n g.clauses (none 0)
    decides = record { sound = λ m c e. apart (cc); complete = λ sat. absurd (legs_none p g ls each l read v sat) }

-- and no leg on such a sheet is, whatever the record.
pub legs_further_leg : (p : Plan) (g : Formula) (ls : List Leg) → ((t : Turn) → In t (turns (start p g) ls) → StandsIn g t) →
    (l : Leg) → parse l.sheet ≡ accepted g → (takes (checkpoint_after (start p g) ls) l).reply.verdict ≡ NONE →
    (q : Leg) (f : Formula) (r : Checkpoint) → parse q.sheet ≡ accepted f → g.n ≡ f.n → stands g.clauses f.clauses ≡ true →
    (takes r q).reply.verdict ≡ CLEAR → ⊥
unfolding Satisfiable
legs_further_leg p g ls each l read v q f r e same st w =
    let (m, below, model) = leg_satisfies q f r e w in
    legs_none p g ls each l read v (m, rw same below, stands_model g.clauses f.clauses st m model)
