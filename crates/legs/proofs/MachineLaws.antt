-- The laws that a leg cites, one for each way through it.
use Rattle.std.specs.Prelude.{None, Option, ◌≡◌, refl, Bool, true, false, ◌&&◌, ℕ, ◌^◌, ◌≤◌, ◌<◌, min, eqb, leb}
use Rattle.std.proofs.Common.{sym, ap, ◌∙◌, arith}
use borrow.Author.Tests.{eq-eqb, ne_eqb, leb-true, leb-false, le-leb}
use Rattle.formula.specs.Formula.{Formula}
use Rattle.formula.specs.Sheet.{accepted, refused, parse, header_words}
use Rattle.formula.specs.Sets.{first_lacking}
use Rattle.formula.proofs.SetLaws.{stands_refl}
use Rattle.formula.proofs.LackingLaws.{stands_lacking}
use Rattle.code.specs.Code.{code}
use Rattle.code.specs.Operations.{coded?}
use Rattle.tree.specs.Legs.{Progress}
use Rattle.search.specs.Run.{Plan, plan, search_of, leg_of}
use Rattle.horn.specs.Horn.{is_horn}
use Rattle.decision.specs.Answers.{judged, BAD_PLAN}
use Rattle.legs.specs.declared.Before.{Before}
use Rattle.legs.specs.declared.Which.{Which}
use Rattle.legs.specs.declared.Checkpoint.{Checkpoint}
use Rattle.legs.specs.Legs.{Check, Passed, Declined, Leg, refused_leg, decided_leg, centres, of_batch, decline_when, ◌then◌, checks, balls_leg, unless_declined, leg_on, leg_read, takes, FIRST}
use Rattle.legs.specs.Machine.{sheet_number, header_in, progress_end, checked_leg, sheet_leg}

-- the record is of a plan, or of a batch and n, where both numbers are
pub both_same : (a b : ℕ) (t : Bool) → a ≡ b → t ≡ (eqb a b && t)
both_same a b t e = rw (eq-eqb a b e)

pub one_differs : (a b : ℕ) (t : Bool) → (a ≡ b → ⊥) → eqb a b ≡ (eqb a b && t)
one_differs a b t e = rw (ne_eqb a b e)

-- The checks of a leg, one after another: the first that declines ends them,
pub stops : (c next : Check) (sheet number place : ℕ) → Declined sheet number place ≡ c → Declined sheet number place ≡ (c then next)
unfolding ◌then◌
stops c next sheet number place e = rw (← e)

-- and after one that passed the next one follows;
pub goes_on : (c next said : Check) → Passed ≡ c → said ≡ next → said ≡ (c then next)
unfolding ◌then◌
goes_on c next said e f = rw (← e, f)

pub check_count : (name M : ℕ) (p : Plan) (r : Checkpoint) (g f : Formula) (x : Option ℕ) → 2 ^ 63 ≤ M →
    Declined name BAD_PLAN 0 ≡ checks name M p r g f x
unfolding checks decline_when ◌then◌
check_count name M p r g f x h = rw (le-leb (2 ^ 63) M h)

-- of a formula only the header is looked at;
pub same_header : (f : Formula) (r : Checkpoint) → of_batch (header_in f.batch f.n) r ≡ of_batch f r
unfolding of_batch
same_header f r = refl

-- and M may be cut at the most.
pub checks_cut : (name M : ℕ) (p : Plan) (r : Checkpoint) (g f : Formula) (x : Option ℕ) (c : ℕ) → c ≡ min M (2 ^ 63) →
    checks name c p r g f x ≡ checks name M p r g f x
checks_cut name M p r g f x c cut = go (leb (2 ^ 63) M) refl
  where
    go : (b : Bool) → leb (2 ^ 63) M ≡ b → checks name c p r g f x ≡ checks name M p r g f x
    go true e =
        let many : 2 ^ 63 ≤ M = leb-true _ _ e in
        sym (check_count name c p r g f x (omega arith)) ∙ check_count name M p r g f x many
    go false e =
        let few : M < 2 ^ 63 = leb-false _ _ e in
        let same : c ≡ M = omega arith in
        ap (λ (y : ℕ). checks name y p r g f x) same

-- The leg on a sheet, with what came before: rounds where it is Horn, and otherwise its checks, and balls where all pass.
module _ (b : Before) (p : Plan) (A : ℕ) (r : Checkpoint) (f : Formula) where
  pub sheet_horn : is_horn f.clauses ≡ true → decided_leg (judged p A f) r ≡ sheet_leg b p A r f
  unfolding sheet_leg
  sheet_horn e = rw e

  pub sheet_balls : is_horn f.clauses ≡ false → checked_leg b p A r f ≡ sheet_leg b p A r f
  unfolding sheet_leg
  sheet_balls e = rw e

  abbrev checked : Check
  checked = checks (sheet_number b.name) (centres p f) p r (header_in b.batch b.n) f b.lacking

  pub leg_declines : (sheet number place : ℕ) → checked ≡ Declined sheet number place → refused_leg sheet number place r ≡ checked_leg b p A r f
  unfolding checked_leg unless_declined
  leg_declines sheet number place e = rw e

  pub leg_moved_on : checked ≡ Passed → (l : Progress) → l ≡ leg_of (search_of code p f) A r.next → progress_end f.batch r l ≡ checked_leg b p A r f
  unfolding checked_leg unless_declined progress_end balls_leg
  leg_moved_on e l g = rw (e, g)

-- Of a leg: a bad plan goes first,
module _ (l : Leg) (r : Checkpoint) where
  pub leg_bad : coded? l.plan.size l.plan.radius ≡ false → refused_leg l.name BAD_PLAN 0 r ≡ takes r l
  unfolding takes
  leg_bad e = rw e

  module _ (good : coded? l.plan.size l.plan.radius ≡ true) where
    -- then the old sheet,
    pub old_declined : (number place : ℕ) → refused number place ≡ parse l.old → refused_leg FIRST number place r ≡ takes r l
    unfolding takes leg_read
    old_declined number place e = rw (good, ← e)

    module _ (g : Formula) (old : accepted g ≡ parse l.old) where
      -- then the one that is searched,
      pub sheet_declined : (number place : ℕ) → refused number place ≡ parse l.sheet → refused_leg l.name number place r ≡ takes r l
      unfolding takes leg_read
      sheet_declined number place e = rw (good, ← old, ← e)

      -- and otherwise the leg is on what was read.
      pub leg_taken : (f : Formula) → accepted f ≡ parse l.sheet → (w : Which) → sheet_number w ≡ l.name → (x : Option ℕ) →
          x ≡ first_lacking header_words g.clauses f.clauses → (own : ℕ) → own ≡ l.plan.size → (reach : ℕ) → reach ≡ l.plan.radius →
          sheet_leg (record { name = w; batch = g.batch; n = g.n; lacking = x }) (plan own reach) l.budget r f ≡ takes r l
      unfolding takes leg_read leg_on sheet_leg checked_leg checks of_batch
      leg_taken f e w same x lacks own same-size reach same-radius = rw (same-size, same-radius, same, lacks, good, ← old, ← e)

-- no clause of a sheet is lacking in itself
pub nothing_lacks : (f : Formula) → None ≡ first_lacking header_words f.clauses f.clauses
nothing_lacks f = sym (stands_lacking header_words f.clauses f.clauses (stands_refl f.clauses))
