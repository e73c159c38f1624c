-- Why a leg is refused (02, papers 11 and 12): about which sheet, with which number and place, each row where none before it applies.
use Rattle.std.specs.Prelude.{None, Option, Some, ◌≡◌, true, false, ℕ, ◌^◌, ◌≤◌, ◌<◌}
use Rattle.formula.specs.Formula.{Formula}
use Rattle.formula.specs.Sheet.{accepted, parse, header_words}
use Rattle.formula.specs.Refusals.{Reason}
use Rattle.formula.specs.Sets.{first_lacking}
use Rattle.code.specs.Operations.{coded?}
use Rattle.search.specs.Run.{Plan}
use Rattle.horn.specs.Horn.{is_horn}
use Rattle.legs.specs.declared.Checkpoint.{Checkpoint}
use Rattle.decision.specs.Answers.{BAD_PLAN}
use Rattle.legs.specs.Legs.{Check, Passed, Declined, Leg, centres, of_plan, of_batch, Brings, FIRST, OTHER_SEARCH, FINISHED, CLAUSE_DROPPED}

-- What the checks say before M balls are searched: why one declines, or that all pass.
pub data Checked (name M : ℕ) (p : Plan) (r : Checkpoint) (g f : Formula) (x : Option ℕ) : Check → Type 0 where
  too_many : 2 ^ 63 ≤ M → Checked name M p r g f x (Declined name BAD_PLAN 0)
  other_plan : M < 2 ^ 63 → of_plan p r ≡ false → Checked name M p r g f x (Declined name OTHER_SEARCH 0)
  other_old : M < 2 ^ 63 → of_plan p r ≡ true → of_batch g r ≡ false → Checked name M p r g f x (Declined FIRST OTHER_SEARCH 0)
  other_sheet : M < 2 ^ 63 → of_plan p r ≡ true → of_batch g r ≡ true → of_batch f r ≡ false → Checked name M p r g f x (Declined name OTHER_SEARCH 0)
  finished : M < 2 ^ 63 → of_plan p r ≡ true → of_batch g r ≡ true → of_batch f r ≡ true → M ≤ r.next →
      Checked name M p r g f x (Declined name FINISHED 0)
  dropped : {place : ℕ} → M < 2 ^ 63 → of_plan p r ≡ true → of_batch g r ≡ true → of_batch f r ≡ true → r.next < M → x ≡ Some place →
      Checked name M p r g f x (Declined FIRST CLAUSE_DROPPED place)
  passes : M < 2 ^ 63 → of_plan p r ≡ true → of_batch g r ≡ true → of_batch f r ≡ true → r.next < M → x ≡ None → Checked name M p r g f x Passed

-- Why a leg is refused: its plan, the old sheet, the sheet that is searched, or a check, where that sheet is not Horn.
pub data LegReason (l : Leg) (r : Checkpoint) : (sheet number place : ℕ) → Type 0 where
  bad_plan_lem : coded? l.plan.size l.plan.radius ≡ false → LegReason l r l.name BAD_PLAN 0
  bad_old : {number place : ℕ} → coded? l.plan.size l.plan.radius ≡ true → Reason l.old number place → LegReason l r FIRST number place
  bad_sheet : {g : Formula} {number place : ℕ} → coded? l.plan.size l.plan.radius ≡ true → parse l.old ≡ accepted g →
      Reason l.sheet number place → LegReason l r l.name number place
  unchecked : {g f : Formula} {sheet number place : ℕ} → Brings l g f → is_horn f.clauses ≡ false →
      Checked l.name (centres l.plan f) l.plan r g f (first_lacking header_words g.clauses f.clauses) (Declined sheet number place) →
      LegReason l r sheet number place
