-- The user's demands, for every plan, budget and sheet, in the numbers that a host gets (Right.antt says what the words mean).
use Rattle.std.specs.Prelude.{◌≡◌, true, List, ℕ, ◌*◌, ◌≤◌}
use Rattle.std.proofs.Common.{sym}
use Rattle.formula.specs.Formula.{Formula, WellFormed}
use Rattle.formula.specs.Sheet.{accepted, parse, encode}
use Rattle.formula.proofs.ParseEncode.{parse_encode}
use Rattle.formula.proofs.ParseAccepted.{parse_well_formed}
use Rattle.formula.specs.Sets.{stands}
use Rattle.code.specs.Covering.{Covers}
use Rattle.code.specs.Code.{code}
use Rattle.code.proofs.CodeLaws.{code_covers}
use Rattle.code.specs.Closing.{most_words, sharp_words}
use Rattle.code.proofs.ClosingLaws.{code_most, code_sharp}
use Rattle.code.specs.Operations.{coded?}
use Rattle.alike.specs.Alike.{alike}
use Rattle.alike.proofs.AlikeLaws.{alike_stands}
use Rattle.tree.specs.Explore.{calls, powers}
use Rattle.search.specs.Run.{Plan, Code, blocks, centre_count, summed_radius, product, longest}
use Rattle.decision.specs.Answers.{outcome, reply_to, REFUSED, CLEAR, NONE, SPENT}
use Rattle.decision.specs.Right.{Accepted, Answered, Right}
use Rattle.decision.specs.DemandLaws.{outcome_bounded, outcome_planned, reply_answered, reply_right, reply_stays, none_further, none_plan}

-- ---- demand 1

-- For any bytes, plan and budget: clear, none, spent, or a refusal with its place and everything else 0.
pub demand_1 : (p : Plan) (A : ℕ) (s : List ℕ) → Answered p s (reply_to p A s)
demand_1 = reply_answered

-- ---- demand 2

-- On an accepted sheet and plan the reply is right.
pub demand_2 : (p : Plan) (A : ℕ) (s : List ℕ) (f : Formula) → Accepted p s f → Right f (calls (outcome p f)) A (reply_to p A s)
demand_2 = reply_right

-- Every formula that a sheet can hold is answered so, by every plan of paper 01: no sheet of such a formula is declined.
pub demand_2_encoded : (p : Plan) (A : ℕ) (f : Formula) → coded? p.size p.radius ≡ true → WellFormed f →
    Right f (calls (outcome p f)) A (reply_to p A (encode f))
demand_2_encoded p A f h formed = demand_2 p A (encode f) f (record { plan = h; sheet = parse_encode f formed })

-- Every block code covers its length within its radius.
pub demand_2_covering : (t s : ℕ) → Covers t s (code t s)
demand_2_covering = code_covers

-- ---- demand 3

-- Calls needed ≤ M × (1 + k + … + k^R).
pub demand_3_bound : (p : Plan) (s : List ℕ) (f : Formula) → Accepted p s f →
    calls (outcome p f) ≤ centre_count (blocks code p f.n) * powers (longest f.clauses) (summed_radius (blocks code p f.n))
demand_3_bound p s f h = outcome_bounded p f (parse_well_formed s f h.sheet)

-- The same without the codes (02, paper 8): M ≤ the product of t × floor(t, s) + 1 over the blocks, whatever codes these have,
pub demand_3_planned : (p : Plan) (s : List ℕ) (f : Formula) → Accepted p s f → (any : Code) →
    calls (outcome p f) ≤ product most_words (blocks any p f.n) * powers (longest f.clauses) (summed_radius (blocks any p f.n))
demand_3_planned p s f h any = outcome_planned most_words code_most any p f (parse_well_formed s f h.sheet)

-- and, sharper, that of t × (floor(t, s) − 1) + 1.
pub demand_3_sharp : (p : Plan) (s : List ℕ) (f : Formula) → Accepted p s f → (any : Code) →
    calls (outcome p f) ≤ product sharp_words (blocks any p f.n) * powers (longest f.clauses) (summed_radius (blocks any p f.n))
demand_3_sharp p s f h any = outcome_planned sharp_words code_sharp any p f (parse_well_formed s f h.sheet)

-- A clear or none stays the same under every larger budget.
pub demand_3_budget : (p : Plan) (A B : ℕ) (s : List ℕ) → A ≤ B → ((reply_to p A s).verdict ≡ SPENT → ⊥) →
    reply_to p B s ≡ reply_to p A s
demand_3_budget = reply_stays

-- After a none, no sheet with as many variables and at least the same clauses is ever clear, and each run of it that is neither
-- refused nor spent says none, whatever the plans and the budgets.
pub demand_3_further : (p : Plan) (A : ℕ) (s : List ℕ) (f : Formula) → Accepted p s f → (reply_to p A s).verdict ≡ NONE →
    (p' : Plan) (B : ℕ) (s' : List ℕ) (g : Formula) → parse s' ≡ accepted g →
    f.n ≡ g.n → stands f.clauses g.clauses ≡ true →
    let v = (reply_to p' B s').verdict in
    (v ≡ CLEAR → ⊥) × ((v ≡ REFUSED → ⊥) → (v ≡ SPENT → ⊥) → v ≡ NONE)
demand_3_further = none_further

-- ---- alike sheets

-- Alike sheets never get clear from one and none from the other, whatever the plans and the budgets.
pub alike_agree : (s s' : List ℕ) (f g : Formula) → parse s ≡ accepted f → parse s' ≡ accepted g → alike f g ≡ true →
    (p p' : Plan) (A B : ℕ) → (reply_to p A s).verdict ≡ CLEAR → (reply_to p' B s').verdict ≡ NONE → ⊥
alike_agree s s' f g e e' h p p' A B c n =
    let (same, _, back) = alike_stands f g h in
    (demand_3_further p' B s' g (record { plan = none_plan p' B s' n; sheet = e' }) n p A s f e (sym same) back).0 c
