-- What `split` answers (02, paper 10), for every budget and sheet, in the numbers that a host gets.
use Rattle.std.specs.Prelude.{◌≡◌, refl, ◌⊎◌, Bool, true, false, List, ℕ, ◌+◌, ◌-◌, ◌^◌, ◌≤◌, leb}
use Rattle.std.proofs.Common.{sym, ap, inl, inr, ⊎_elim, leb-true, leb-false}
use Rattle.formula.specs.Formula.{Formula, WellFormed, all_true}
use Rattle.formula.specs.Sheet.{Result, accepted, parse, encode}
use Rattle.formula.specs.Sets.{stands}
use Rattle.formula.specs.Refusals.{Reason}
use Rattle.formula.proofs.ModelLaws.{well_formed_known}
use Rattle.formula.proofs.ParseEncode.{parse_encode}
use Rattle.formula.proofs.ParseAccepted.{parse_well_formed}
use Rattle.formula.proofs.ParseRefused.{parse_refused}
use Rattle.tree.specs.Explore.{calls}
use Rattle.tree.specs.Budget as Budget
use Rattle.tree.specs.Budget.{answer}
use Rattle.tree.proofs.Decides.{Decides, answer_correct, answer_stays}
use Rattle.search.specs.Run.{Plan}
use Rattle.splitting.specs.Splitting.{weight}
use Rattle.splitting.proofs.SplittingLaws as SplittingLaws
use Rattle.splitting.proofs.SplittingLaws.{split_decides}
use Rattle.decision.specs.declared.Reply.{Reply}
use Rattle.decision.specs.Answers.{answered, refusal, decided, split_judged, split_decision, method_number, numbers_of, counts, declines, marks_of, reply_of, reply_to, split_outcome, split_to, REFUSED, CLEAR, NONE, SPENT, NO_ROAD}
use Rattle.decision.specs.Right.{Accepted, Right, decided_by}
use Rattle.decision.specs.DemandLaws.{outcome_decides, reply_accepted, reply_right, reply_plan, numbers_right, numbers_further, run_further, clear_marks, spent_number}

-- ---- any bytes

-- Clear, none, spent, or a refusal of the sheet with its place and everything else 0; no reply names a road.
pub data SplitAnswered (s : List ℕ) : Reply → Type 0 where
  bad_sheet : {number place : ℕ} → Reason s number place → SplitAnswered s (declines number place)
  is_clear : {f : Formula} {c : ℕ} (m : ℕ) → parse s ≡ accepted f → SplitAnswered s (counts CLEAR f.batch NO_ROAD m c)
  is_none : {f : Formula} {c : ℕ} → parse s ≡ accepted f → SplitAnswered s (counts NONE f.batch NO_ROAD 0 c)
  is_spent : {f : Formula} {c : ℕ} → parse s ≡ accepted f → SplitAnswered s (counts SPENT f.batch NO_ROAD 0 c)

pub split_answered : (A : ℕ) (s : List ℕ) → SplitAnswered s (split_to A s)
unfolding split_to reply_of split_decision
split_answered A s = by_sheet (parse s) refl
  where
    by_answer : (f : Formula) → parse s ≡ accepted f → (a : Budget.Answer) → SplitAnswered s (numbers_of f.batch NO_ROAD (answered a))
    by_answer f e (Budget.clear m c) = unfold numbers_of in is_clear m e
    by_answer f e (Budget.Answer.none c) = unfold numbers_of in is_none e
    by_answer f e (Budget.spent c) = unfold numbers_of in is_spent e

    by_sheet : (r : Result Formula) → parse s ≡ r → SplitAnswered s (reply_of (decided (split_judged A) r))
    by_sheet (accepted f) e = unfold decided split_judged method_number in by_answer f e (answer A (split_outcome f))
    by_sheet (Result.refused number place) e = unfold decided refusal numbers_of in bad_sheet (parse_refused s number place e)

-- an accepted sheet is searched
split_accepted : (A : ℕ) (s : List ℕ) (f : Formula) → parse s ≡ accepted f →
    split_to A s ≡ numbers_of f.batch NO_ROAD (answered (answer A (split_outcome f)))
unfolding split_to reply_of split_decision decided split_judged method_number
split_accepted A s f e = rw e

split_refused : (A : ℕ) (s : List ℕ) (number place : ℕ) → parse s ≡ Result.refused number place → (split_to A s).verdict ≡ REFUSED
unfolding split_to reply_of split_decision decided refusal numbers_of
split_refused A s number place e = rw e

-- ---- demand 2, with the calls of splitting

decides : (s : List ℕ) (f : Formula) → parse s ≡ accepted f → Decides f.n f.clauses (split_outcome f)
decides s f e = split_decides f.n f.clauses (well_formed_known f (parse_well_formed s f e))

-- On an accepted sheet the reply is right.
pub split_right : (A : ℕ) (s : List ℕ) (f : Formula) → parse s ≡ accepted f → Right f (calls (split_outcome f)) A (split_to A s)
split_right A s f e =
    rw (split_accepted A s f e)
    (numbers_right f NO_ROAD _ A _ (parse_well_formed s f e).variables (answer_correct f.n f.clauses (split_outcome f) (decides s f e) A))

-- Every formula that a sheet can hold is answered so.
pub split_encoded : (A : ℕ) (f : Formula) → WellFormed f → Right f (calls (split_outcome f)) A (split_to A (encode f))
split_encoded A f formed = split_right A (encode f) f (parse_encode f formed)

-- There are at most 2^(n+1) − 1 calls.
pub split_bounded : (f : Formula) → calls (split_outcome f) ≤ 2 ^ (f.n + 1) - 1
split_bounded f = SplittingLaws.split_bounded f.n f.clauses

-- The marks of a clear are the first model of all, where variable 1 weighs most and 0 precedes 1.
pub split_first : (A : ℕ) (s : List ℕ) (f : Formula) → parse s ≡ accepted f → (split_to A s).verdict ≡ CLEAR →
    (w : ℕ) → all_true w f.clauses ≡ true → weight f.n (marks_of (split_to A s)) ≤ weight f.n w
split_first A s f h c w model =
    let formed = parse_well_formed s f h in
    let (d, o) = clear_marks A f.batch NO_ROAD (decides s f h) formed.variables (split_accepted A s f h) c in
    SplittingLaws.split_first f.n f.clauses (well_formed_known f formed) _ d o w model

-- ---- demand 3

-- A clear or none stays the same under every larger budget.
pub split_stays : (A B : ℕ) (s : List ℕ) → A ≤ B → ((split_to A s).verdict ≡ SPENT → ⊥) → split_to B s ≡ split_to A s
unfolding split_to reply_of split_decision decided split_judged method_number
split_stays A B s l h = by_sheet (parse s) h
  where
    by_sheet : (r : Result Formula) → ((reply_of (decided (split_judged A) r)).verdict ≡ SPENT → ⊥) →
        reply_of (decided (split_judged B) r) ≡ reply_of (decided (split_judged A) r)
    by_sheet (Result.refused number place) g = refl
    by_sheet (accepted f) g =
        let stays = answer_stays (split_outcome f) A B l (λ x. g ((spent_number f.batch NO_ROAD _).1 x)) in
        ap (λ (a : Budget.Answer). numbers_of f.batch NO_ROAD (answered a)) stays

-- After a none, a sheet with as many variables and at least the same clauses is never clear, by splitting or by a run, and what is
-- neither refused nor spent says none.
module _ (A : ℕ) (s : List ℕ) (f : Formula) (h : parse s ≡ accepted f) (none : (split_to A s).verdict ≡ NONE) (B : ℕ) (s' : List ℕ)
    (g : Formula) (e : parse s' ≡ accepted g) (same : f.n ≡ g.n) (st : stands f.clauses g.clauses ≡ true) where
  pub split_further : let u = (split_to B s').verdict in (u ≡ CLEAR → ⊥) × ((u ≡ SPENT → ⊥) → u ≡ NONE)
  split_further =
      rw (split_accepted B s' g e)
      (numbers_further A B f.batch NO_ROAD g.batch NO_ROAD (decides s f h) (decides s' g e) same st (rw (split_accepted A s f h) at none))

  pub split_further_run : (p : Plan) → let v = (reply_to p B s').verdict in (v ≡ CLEAR → ⊥) × ((v ≡ REFUSED → ⊥) → (v ≡ SPENT → ⊥) → v ≡ NONE)
  split_further_run p = run_further A f.batch NO_ROAD (decides s f h) (rw (split_accepted A s f h) at none) p B s' g e same st

-- And after a none by a run splitting finds nothing on such a sheet.
pub further_split : (p : Plan) (A : ℕ) (s : List ℕ) (f : Formula) → Accepted p s f → (reply_to p A s).verdict ≡ NONE →
    (B : ℕ) (s' : List ℕ) (g : Formula) → parse s' ≡ accepted g → f.n ≡ g.n → stands f.clauses g.clauses ≡ true →
    let u = (split_to B s').verdict in
    (u ≡ CLEAR → ⊥) × ((u ≡ SPENT → ⊥) → u ≡ NONE)
further_split p A s f h none B s' g e same st =
    let decided = outcome_decides p f (parse_well_formed s f h.sheet) in
    rw (split_accepted B s' g e)
    (numbers_further A B f.batch (decided_by f) g.batch NO_ROAD decided (decides s' g e) same st (rw (reply_accepted p A s f h) at none))

-- ---- beside a run

-- the answer that is not spent took no more than the budget
within : {f : Formula} {needed A : ℕ} {r : Reply} → Right f needed A r → (r.verdict ≡ SPENT → ⊥) → needed ≤ A
within {needed = needed} {A = A} right h = go (leb needed A) refl
  where
    go : (b : Bool) → leb needed A ≡ b → needed ≤ A
    go true q = leb-true needed A q
    go false q = absurd (h (right.spent.1 (leb-false needed A q)))

-- an answer's verdict is one of three
verdicts : (b road : ℕ) (a : Budget.Answer) → let v = (numbers_of b road (answered a)).verdict in (v ≡ CLEAR) ⊎ ((v ≡ NONE) ⊎ (v ≡ SPENT))
unfolding numbers_of
verdicts b road (Budget.clear m c) = inl refl
verdicts b road (Budget.Answer.none c) = inr (inl refl)
verdicts b road (Budget.spent c) = inr (inr refl)

-- Whenever neither splitting nor a run of the same sheet is refused or spent, both say clear or both say none, whatever the plan
-- and the budgets.
pub split_agrees : (p : Plan) (A B : ℕ) (s : List ℕ) → let v = (reply_to p A s).verdict in let u = (split_to B s).verdict in
    (v ≡ REFUSED → ⊥) → (v ≡ SPENT → ⊥) → (u ≡ REFUSED → ⊥) → (u ≡ SPENT → ⊥) →
    ((v ≡ CLEAR) × (u ≡ CLEAR)) ⊎ ((v ≡ NONE) × (u ≡ NONE))
split_agrees p A B s h1 h2 h3 h4 = by_sheet (parse s) refl
  where
    by_sheet : (r : Result Formula) → parse s ≡ r →
        (((reply_to p A s).verdict ≡ CLEAR) × ((split_to B s).verdict ≡ CLEAR)) ⊎ (((reply_to p A s).verdict ≡ NONE) × ((split_to B s).verdict ≡ NONE))
    by_sheet (Result.refused number place) e = absurd (h3 (split_refused B s number place e))
    by_sheet (accepted f) e =
        let run = reply_right p A s f (record { plan = reply_plan p A s h1; sheet = e }) in
        let own = split_right B s f e in
        let enough = within run h2 in
        let enough' = within own h4 in
        ⊎_elim
        (λ u. inl ((run.clear enough).1 ((own.clear enough').0 u), u))
        (λ w. ⊎_elim (λ u. inr ((run.none enough).1 ((own.none enough').0 u), u)) (λ u. absurd (h4 u)) w)
        (rw (sym (split_accepted B s f e)) at (verdicts f.batch NO_ROAD (answer B (split_outcome f))))
