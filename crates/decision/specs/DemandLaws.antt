-- What the demands rest on: the engine's search decides within its bound, and the numbers of a reply tell its kind.
use Rattle.std.specs.Prelude.{◌≡◌, ◌↔◌, Bool, true, false, cond, List, ℕ, zero, suc, ◌+◌, ◌*◌, ◌^◌, ◌≤◌, ◌<◌, length}
use Rattle.std.proofs.Math.Path.{refl}
use Rattle.std.proofs.Common.{ap, ◌∙◌, subst, mul-le-mul_left, mul-le-mul_right, mul-one, arith, pow_mono, pow_pos}
use Rattle.std.proofs.Math.Nat.{le_trans}
use Rattle.words.specs.Bits.{width}
use Rattle.words.proofs.WordLaws.{words_number}
use Rattle.words.specs.Lists.{In}
use Rattle.words.proofs.ListLaws.{apart, length_keep}
use Rattle.formula.specs.Formula.{Clause, Formula, WellFormed, Satisfiable}
use Rattle.formula.specs.Sheet.{Result, accepted, parse}
use Rattle.formula.specs.Sets.{stands}
use Rattle.formula.proofs.ModelLaws.{well_formed_known}
use Rattle.formula.proofs.ParseAccepted.{parse_well_formed}
use Rattle.formula.proofs.ParseRefused.{parse_refused}
use Rattle.code.specs.Code.{code}
use Rattle.code.proofs.CodeLaws.{code_covers, code_within}
use Rattle.code.specs.Operations.{coded?}
use Rattle.tree.specs.Explore.{Outcome, found, calls, powers}
use Rattle.tree.proofs.TreeLaws.{powers_none, powers_most}
use Rattle.tree.specs.Budget as Budget
use Rattle.tree.specs.Budget.{answer}
use Rattle.tree.proofs.BudgetLaws.{count_of, assignment_of, clear_found, none_none}
use Rattle.tree.proofs.Decides.{Decides, IsClear, IsNone, IsSpent, Correct, none_unsat, answer_correct, answer_stays, further_none}
use Rattle.search.specs.Run.{Plan, Block, Code, search_of, run, blocks, centre_count, summed_radius, product, longest}
use Rattle.search.proofs.CentreLaws.{Covering, blocks_size, blocks_covered, radius_same, blocks_most}
use Rattle.search.proofs.ReachLaws.{centres_reach}
use Rattle.search.proofs.RunLaws.{longest_in, formula_decides, formula_bounded}
use Rattle.horn.specs.Horn.{positives, is_horn, rounds}
use Rattle.horn.proofs.HornLaws.{rounds_calls, rounds_bounded, rounds_decide}
use Rattle.decision.specs.declared.Reply.{Reply}
use Rattle.decision.specs.Right.{Accepted, Answered, bad_plan_lem, bad_sheet, is_clear, is_none, is_spent, Right, decided_by}
use Rattle.decision.specs.Answers.{outcome, answered, refusal, judged, decided, decision, marks_of, numbers_of, reply_of, reply_to, BAD_PLAN, REFUSED, CLEAR, NONE, SPENT}

-- ---- the engine's search

pub covering : Covering code
covering = record { covers = code_covers; within = code_within }

-- what holds of rounds, where the formula is Horn, and of balls, holds of the outcome
by_method : (P : Outcome → Type 0) (p : Plan) (f : Formula) → (is_horn f.clauses ≡ true → P (rounds f.n f.clauses)) →
    P (run (search_of code p f)) → P (outcome p f)
unfolding outcome
by_method P p f horn balls = go (is_horn f.clauses) refl
  where
    go : (b : Bool) → is_horn f.clauses ≡ b → P (cond b (rounds f.n f.clauses) (run (search_of code p f)))
    go true e = horn e
    go false e = balls

pub outcome_decides : (p : Plan) (f : Formula) → WellFormed f → Decides f.n f.clauses (outcome p f)
outcome_decides p f h =
    by_method (Decides f.n f.clauses) p f
    (λ e. rounds_decide f.n f.clauses (well_formed_known f h))
    (formula_decides code covering p f h)

-- the bound on the calls
abbrev bound : Plan → Formula → ℕ
bound p f = centre_count (blocks code p f.n) * powers (longest f.clauses) (summed_radius (blocks code p f.n))

-- Rounds are within it: n + 1 ≤ M × (R + 1), and where no clause has a literal there is one round.
rounds_within : (p : Plan) (f : Formula) → is_horn f.clauses ≡ true → calls (rounds f.n f.clauses) ≤ bound p f
rounds_within p f horn = go (longest f.clauses) refl
  where
    bs : List Block
    bs = blocks code p f.n

    reach : f.n + 1 ≤ centre_count bs * (summed_radius bs + 1)
    reach = rw (blocks_size code p f.n) at (centres_reach bs (blocks_covered code covering p f.n))

    some : (m r : ℕ) → f.n + 1 ≤ m * r → 1 ≤ m
    some zero r h = absurd (omega arith)
    some (suc m) r h = omega arith

    go : (k : ℕ) → longest f.clauses ≡ k → calls (rounds f.n f.clauses) ≤ centre_count bs * powers k (summed_radius bs)
    go zero e =
        let empty : (c : Clause) → In c f.clauses → length (positives c) ≤ 0 =
        λ c i. unfold positives in le_trans (length_keep _ c) (rw e at (longest_in f.clauses c i)) in
        let one = rw (powers_none f.n) at (rounds_calls f.n f.clauses 0 empty) in
        rw (powers_none (summed_radius bs), mul-one) (omega (arith, one, some (centre_count bs) _ reach))
    go (suc k) e =
        le_trans (rounds_bounded f.n f.clauses horn)
        (le_trans reach (mul-le-mul_left (centre_count bs) (powers_most (suc k) (summed_radius bs) (omega arith))))

pub outcome_bounded : (p : Plan) (f : Formula) → WellFormed f →
    calls (outcome p f) ≤ centre_count (blocks code p f.n) * powers (longest f.clauses) (summed_radius (blocks code p f.n))
outcome_bounded p f h =
    by_method (λ o. calls o ≤ bound p f) p f (rounds_within p f) (formula_bounded code covering p f h)

-- any bound on the codes' words gives one on the calls
pub outcome_planned : (most : ℕ → ℕ → ℕ) → ((t s : ℕ) → length (code t s) ≤ most t s) → (any : Code) (p : Plan) (f : Formula) →
    WellFormed f →
    calls (outcome p f) ≤ product most (blocks any p f.n) * powers (longest f.clauses) (summed_radius (blocks any p f.n))
outcome_planned most h any p f formed =
    rw (radius_same any code p f.n)
    (le_trans (outcome_bounded p f formed) (mul-le-mul_right _ (blocks_most code most h any p f.n)))

-- ---- replies

-- an accepted sheet is searched
pub reply_accepted : (p : Plan) (A : ℕ) (s : List ℕ) (f : Formula) → Accepted p s f →
    reply_to p A s ≡ numbers_of f.batch (decided_by f) (answered (answer A (outcome p f)))
unfolding reply_to reply_of decision decided judged
reply_accepted p A s f h = rw (h.plan, h.sheet)

pub reply_bad_plan : (p : Plan) (A : ℕ) (s : List ℕ) → coded? p.size p.radius ≡ false → (reply_to p A s).verdict ≡ REFUSED
unfolding reply_to reply_of decision refusal numbers_of
reply_bad_plan p A s e = rw e

-- what is not refused is of an accepted plan
pub reply_plan : (p : Plan) (A : ℕ) (s : List ℕ) → ((reply_to p A s).verdict ≡ REFUSED → ⊥) → coded? p.size p.radius ≡ true
reply_plan p A s h = go (coded? p.size p.radius) refl
  where
    go : (b : Bool) → coded? p.size p.radius ≡ b → b ≡ true
    go true q = refl
    go false q = absurd (h (reply_bad_plan p A s q))

pub none_plan : (p : Plan) (A : ℕ) (s : List ℕ) → (reply_to p A s).verdict ≡ NONE → coded? p.size p.radius ≡ true
none_plan p A s e = reply_plan p A s (λ r. omega arith)

-- ---- the numbers of a search's answer tell its kind

module _ (b road : ℕ) where
  pub clear_number : (a : Budget.Answer) → ((numbers_of b road (answered a)).verdict ≡ CLEAR) ↔ IsClear a
  unfolding numbers_of
  clear_number (Budget.clear m c) = (λ e. (m, c, refl), λ h. refl)
  clear_number (Budget.Answer.none c) = (λ e. absurd (omega arith), λ (m, d, e). apart (cc))
  clear_number (Budget.spent c) = (λ e. absurd (omega arith), λ (m, d, e). apart (cc))

  pub none_number : (a : Budget.Answer) → ((numbers_of b road (answered a)).verdict ≡ NONE) ↔ IsNone a
  unfolding numbers_of
  none_number (Budget.clear m c) = (λ e. absurd (omega arith), λ (d, e). apart (cc))
  none_number (Budget.Answer.none c) = (λ e. (c, refl), λ h. refl)
  none_number (Budget.spent c) = (λ e. absurd (omega arith), λ (d, e). apart (cc))

  pub spent_number : (a : Budget.Answer) → ((numbers_of b road (answered a)).verdict ≡ SPENT) ↔ IsSpent a
  unfolding numbers_of
  spent_number (Budget.clear m c) = (λ e. absurd (omega arith), λ (d, e). apart (cc))
  spent_number (Budget.Answer.none c) = (λ e. absurd (omega arith), λ (d, e). apart (cc))
  spent_number (Budget.spent c) = (λ e. (c, refl), λ h. refl)

  pub marks_number : (a : Budget.Answer) → assignment_of a < 2 ^ width → marks_of (numbers_of b road (answered a)) ≡ assignment_of a
  unfolding marks_of numbers_of assignment_of
  marks_number (Budget.clear m c) h = words_number m h
  marks_number (Budget.Answer.none c) h = words_number 0 h
  marks_number (Budget.spent c) h = words_number 0 h

  pub calls_number : (a : Budget.Answer) → (numbers_of b road (answered a)).calls ≡ count_of a
  unfolding numbers_of count_of
  calls_number (Budget.clear m c) = refl
  calls_number (Budget.Answer.none c) = refl
  calls_number (Budget.spent c) = refl

  pub batch_number : (a : Budget.Answer) → (numbers_of b road (answered a)).batch ≡ b
  unfolding numbers_of
  batch_number (Budget.clear m c) = refl
  batch_number (Budget.Answer.none c) = refl
  batch_number (Budget.spent c) = refl

  pub method_number_lem : (a : Budget.Answer) → (numbers_of b road (answered a)).road ≡ road
  unfolding numbers_of
  method_number_lem (Budget.clear m c) = refl
  method_number_lem (Budget.Answer.none c) = refl
  method_number_lem (Budget.spent c) = refl

-- a clear reply has the marks that were found
pub clear_marks : {n : ℕ} {cs : List Clause} {o : Outcome} {r : Reply} (A b road : ℕ) → Decides n cs o → n ≤ width →
    r ≡ numbers_of b road (answered (answer A o)) → r.verdict ≡ CLEAR → (c : ℕ) × (o ≡ found (marks_of r) c)
unfolding assignment_of
clear_marks {o = o} {r = r} A b road decides small reply clear =
    let (m, c, e) = (clear_number b road _).0 (rw reply at clear) in
    let f : o ≡ found m c = clear_found A o m c e in
    let below : m < 2 ^ width = le_trans (decides.sound m c f).0 (pow_mono small) in
    let marks : marks_of r ≡ m = ap marks_of reply ∙ marks_number b road _ (rw e below) ∙ ap assignment_of e in
    (c, rw marks f)

-- ---- demand 1

pub reply_answered : (p : Plan) (A : ℕ) (s : List ℕ) → Answered p s (reply_to p A s)
unfolding reply_to reply_of decision
reply_answered p A s = by_plan (coded? p.size p.radius) refl
  where
    by_answer : (f : Formula) → Accepted p s f → (a : Budget.Answer) → Answered p s (numbers_of f.batch (decided_by f) (answered a))
    by_answer f h (Budget.clear m c) = unfold numbers_of in is_clear m h
    by_answer f h (Budget.Answer.none c) = unfold numbers_of in is_none h
    by_answer f h (Budget.spent c) = unfold numbers_of in is_spent h

    by_sheet : coded? p.size p.radius ≡ true → (r : Result Formula) → parse s ≡ r → Answered p s (reply_of (decided (judged p A) r))
    by_sheet h (accepted f) e = unfold decided judged in by_answer f (record { plan = h; sheet = e }) (answer A (outcome p f))
    by_sheet h (Result.refused number place) e = unfold decided refusal numbers_of in bad_sheet h (parse_refused s number place e)

    by_plan : (b : Bool) → coded? p.size p.radius ≡ b →
        Answered p s (reply_of (cond b (decided (judged p A) (parse s)) (refusal BAD_PLAN 0)))
    by_plan true h = by_sheet h (parse s) refl
    by_plan false h = unfold refusal numbers_of in bad_plan_lem h

-- ---- demand 2

-- the numbers of a correct answer are right
pub numbers_right : (f : Formula) (road needed A : ℕ) (a : Budget.Answer) → f.n ≤ width → Correct f.n f.clauses needed A a →
    Right f needed A (numbers_of f.batch road (answered a))
numbers_right f road needed A a small k =
    let b = f.batch in
    record {
      clear = λ l. (λ e. (k.clear l).0 ((clear_number b road a).0 e), λ x. (clear_number b road a).1 ((k.clear l).1 x));
      model =
          λ e.
          let model = k.model ((clear_number b road a).0 e) in
          rw (marks_number b road a (le_trans model.0 (pow_mono small))) model;
      none = λ l. (λ e. (k.none l).0 ((none_number b road a).0 e), λ x. (none_number b road a).1 ((k.none l).1 x));
      count = λ l. calls_number b road a ∙ k.count l;
      spent = (λ e. k.spent.0 ((spent_number b road a).0 e), λ x. (spent_number b road a).1 (k.spent.1 x));
      full =
          λ e.
          let full = k.full ((spent_number b road a).0 e) in
          rw (marks_number b road a (rw full.1 (pow_pos width)), calls_number b road a) full;
      batch = batch_number b road a;
    }

pub reply_right : (p : Plan) (A : ℕ) (s : List ℕ) (f : Formula) → Accepted p s f → Right f (calls (outcome p f)) A (reply_to p A s)
reply_right p A s f h =
    let formed = parse_well_formed s f h.sheet in
    let decides = outcome_decides p f formed in
    rw (reply_accepted p A s f h)
    (numbers_right f (decided_by f) _ A _ formed.variables (answer_correct f.n f.clauses (outcome p f) decides A))

-- after a none there is no model
pub reply_none : (p : Plan) (A : ℕ) (s : List ℕ) (f : Formula) → Accepted p s f → (reply_to p A s).verdict ≡ NONE →
    Satisfiable f.n f.clauses → ⊥
reply_none p A s f h v =
    let (c, e) = (none_number f.batch (decided_by f) _).0 (rw (reply_accepted p A s f h) at v) in
    none_unsat f.n f.clauses (outcome p f) (outcome_decides p f (parse_well_formed s f h.sheet)) c (none_none A _ c e)

-- ---- demand 3

-- a reply that is not spent is the same under every larger budget
pub reply_stays : (p : Plan) (A B : ℕ) (s : List ℕ) → A ≤ B → ((reply_to p A s).verdict ≡ SPENT → ⊥) →
    reply_to p B s ≡ reply_to p A s
unfolding reply_to reply_of decision decided judged
reply_stays p A B s l h = by_plan (coded? p.size p.radius) (parse s) h
  where
    by_plan : (b : Bool) (r : Result Formula) → ((reply_of (cond b (decided (judged p A) r) (refusal BAD_PLAN 0))).verdict ≡ SPENT → ⊥) →
        reply_of (cond b (decided (judged p B) r) (refusal BAD_PLAN 0)) ≡ reply_of (cond b (decided (judged p A) r) (refusal BAD_PLAN 0))
    by_plan false r g = refl
    by_plan true (Result.refused number place) g = refl
    by_plan true (accepted f) g =
        let stays = answer_stays (outcome p f) A B l (λ x. g ((spent_number f.batch (decided_by f) _).1 x)) in
        ap (λ (a : Budget.Answer). numbers_of f.batch (decided_by f) (answered a)) stays

-- after a none, the answer of a search of as many variables and at least the same clauses, whichever the two searches are
pub numbers_further : {n m : ℕ} {cs ds : List Clause} {o p : Outcome} (A B b road b' road' : ℕ) → Decides n cs o → Decides m ds p → n ≡ m →
    stands cs ds ≡ true → (numbers_of b road (answered (answer A o))).verdict ≡ NONE →
    let v = (numbers_of b' road' (answered (answer B p))).verdict in
    (v ≡ CLEAR → ⊥) × ((v ≡ SPENT → ⊥) → v ≡ NONE)
numbers_further {n} {m} {cs} {ds} {o} {p} A B b road b' road' first second same st e =
    let here = subst (λ (n : ℕ). Decides n cs o) same first in
    let d = further_none m cs ds o p here second st A B ((none_number b road _).0 e) in (
      λ x. d.0 ((clear_number b' road' _).0 x),
      λ y. (none_number b' road' _).1 (d.1 (λ z. y ((spent_number b' road' _).1 z))),
    )

-- and a run of such a sheet, by any plan
pub run_further : {n : ℕ} {cs : List Clause} {o : Outcome} (A b road : ℕ) → Decides n cs o →
    (numbers_of b road (answered (answer A o))).verdict ≡ NONE →
    (p : Plan) (B : ℕ) (s : List ℕ) (g : Formula) → parse s ≡ accepted g → n ≡ g.n → stands cs g.clauses ≡ true →
    let v = (reply_to p B s).verdict in
    (v ≡ CLEAR → ⊥) × ((v ≡ REFUSED → ⊥) → (v ≡ SPENT → ⊥) → v ≡ NONE)
run_further A b road decides none p B s g e same st = by_plan (coded? p.size p.radius) refl
  where
    by_plan : (t : Bool) → coded? p.size p.radius ≡ t →
        let v = (reply_to p B s).verdict in
        (v ≡ CLEAR → ⊥) × ((v ≡ REFUSED → ⊥) → (v ≡ SPENT → ⊥) → v ≡ NONE)
    by_plan false q = let r = reply_bad_plan p B s q in (λ x. omega arith, λ x y. absurd (x r))
    by_plan true q =
        let there = outcome_decides p g (parse_well_formed s g e) in
        let d = numbers_further A B b road g.batch (decided_by g) decides there same st none in
        rw (reply_accepted p B s g (record { plan = q; sheet = e })) (d.0, λ x y. d.1 y)

-- after a none, a sheet with as many variables and at least the same clauses, by any plan
pub none_further : (p : Plan) (A : ℕ) (s : List ℕ) (f : Formula) → Accepted p s f → (reply_to p A s).verdict ≡ NONE →
    (p' : Plan) (B : ℕ) (s' : List ℕ) (g : Formula) → parse s' ≡ accepted g →
    f.n ≡ g.n → stands f.clauses g.clauses ≡ true →
    let v = (reply_to p' B s').verdict in
    (v ≡ CLEAR → ⊥) × ((v ≡ REFUSED → ⊥) → (v ≡ SPENT → ⊥) → v ≡ NONE)
none_further p A s f h n =
    run_further A f.batch (decided_by f) (outcome_decides p f (parse_well_formed s f h.sheet)) (rw (reply_accepted p A s f h) at n)
