-- What the demands say of a reply: when a plan and a sheet are accepted, what any reply is, and what a right one is.
use Rattle.std.specs.Prelude.{◌≡◌, ◌↔◌, true, false, List, ℕ, ◌^◌, ◌≤◌, ◌<◌}
use Rattle.formula.specs.Formula.{Formula, all_true, Satisfiable}
use Rattle.formula.specs.Sheet.{accepted, parse}
use Rattle.formula.specs.Refusals.{Reason}
use Rattle.code.specs.Operations.{coded?}
use Rattle.search.specs.Run.{Plan}
use Rattle.decision.specs.declared.Reply.{Reply}
use Rattle.decision.specs.Answers.{method_of, method_number, counts, declines, marks_of, BAD_PLAN, CLEAR, NONE, SPENT}

-- A plan and a sheet are accepted: none of the refusals that concern run applies to them, and f is what the sheet means.
pub record Accepted (p : Plan) (s : List ℕ) (f : Formula) : Type 0 where
  pub plan : coded? p.size p.radius ≡ true
  pub sheet : parse s ≡ accepted f

-- the number of the method that decides a formula
abbrev pub decided_by : Formula → ℕ
decided_by f = method_number (method_of f)

-- Clear, none, spent, or a refusal with its place and everything else 0.
pub data Answered (p : Plan) (s : List ℕ) : Reply → Type 0 where
  bad_plan_lem : coded? p.size p.radius ≡ false → Answered p s (declines BAD_PLAN 0)
  bad_sheet : {number place : ℕ} → coded? p.size p.radius ≡ true → Reason s number place →
      Answered p s (declines number place)
  is_clear : {f : Formula} {c : ℕ} (m : ℕ) → Accepted p s f → Answered p s (counts CLEAR f.batch (decided_by f) m c)
  is_none : {f : Formula} {c : ℕ} → Accepted p s f → Answered p s (counts NONE f.batch (decided_by f) 0 c)
  is_spent : {f : Formula} {c : ℕ} → Accepted p s f → Answered p s (counts SPENT f.batch (decided_by f) 0 c)

-- What a reply r within the budget A says of an accepted formula that needs so many calls.
pub record Right (f : Formula) (needed A : ℕ) (r : Reply) : Type 0 where
  -- Within the budget: clear exactly when a model exists,
  pub clear : needed ≤ A → (r.verdict ≡ CLEAR) ↔ Satisfiable f.n f.clauses
  -- with a model, whose bits from n up are 0;
  pub model : r.verdict ≡ CLEAR → (marks_of r < 2 ^ f.n) × (all_true (marks_of r) f.clauses ≡ true)
  -- none exactly when there is none;
  pub none : needed ≤ A → (r.verdict ≡ NONE) ↔ (Satisfiable f.n f.clauses → ⊥)
  -- and the count is the calls needed.
  pub count : needed ≤ A → r.calls ≡ needed
  -- Where more is needed, and only there: spent,
  pub spent : (r.verdict ≡ SPENT) ↔ (A < needed)
  -- with the budget as count and no assignment.
  pub full : r.verdict ≡ SPENT → (r.calls ≡ A) × (marks_of r ≡ 0)
  pub batch : r.batch ≡ f.batch
