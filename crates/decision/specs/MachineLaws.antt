-- The laws that the decision on a sheet cites, one for each way through it.
use Rattle.std.specs.Prelude.{◌≡◌, true, false, List, ℕ}
use Rattle.formula.specs.Formula.{Formula}
use Rattle.formula.specs.Sheet.{accepted, refused, parse}
use Rattle.code.specs.Code.{code}
use Rattle.code.specs.Operations.{coded?}
use Rattle.tree.specs.Budget.{Answer, answer}
use Rattle.search.specs.Run.{Plan, plan, search_of, run}
use Rattle.horn.specs.Horn.{is_horn, rounds}
use Rattle.splitting.specs.Splitting.{split}
use Rattle.decision.specs.declared.Method.TheVariants.{Unnamed, Horn, Balls}
use Rattle.decision.specs.Answers.{method_of, outcome, refusal, answered, judged, decided, decision, split_judged, split_decision, BAD_PLAN}

-- ---- a sheet

module _ (size radius A : ℕ) (s : List ℕ) where
  -- a bad plan goes first;
  pub decide_bad : coded? size radius ≡ false → refusal BAD_PLAN 0 ≡ decision (plan size radius) A s
  unfolding decision
  decide_bad e = rw e

  module _ (good : coded? size radius ≡ true) where
    -- then the sheet's refusal;
    pub decide_declined : (number place : ℕ) → refused number place ≡ parse s →
        refusal number place ≡ decision (plan size radius) A s
    unfolding decision decided
    decide_declined number place e = rw (good, ← e)

    -- and otherwise what was read is decided:
    pub decide_judged : (f : Formula) → accepted f ≡ parse s → (own : ℕ) → own ≡ size → (reach : ℕ) → reach ≡ radius →
        judged (plan own reach) A f ≡ decision (plan size radius) A s
    unfolding decision decided
    decide_judged f e own same-size reach same-radius = rw (same-size, same-radius, good, ← e)

module _ (p : Plan) (A : ℕ) (f : Formula) where
  -- by rounds where it is Horn,
  pub judged_horn : is_horn f.clauses ≡ true → (a : Answer) → a ≡ answer A (rounds f.n f.clauses) →
      record { batch = f.batch; method = Horn; verdict = answered a } ≡ judged p A f
  unfolding judged method_of outcome
  judged_horn e a g = rw (e, g)

  -- and by balls otherwise.
  pub judged_balls : is_horn f.clauses ≡ false → (a : Answer) → a ≡ answer A (run (search_of code p f)) →
      record { batch = f.batch; method = Balls; verdict = answered a } ≡ judged p A f
  unfolding judged method_of outcome
  judged_balls e a g = rw (e, g)

-- ---- splitting

module _ (A : ℕ) (s : List ℕ) where
  -- the sheet's refusal,
  pub split_declined : (number place : ℕ) → refused number place ≡ parse s → refusal number place ≡ split_decision A s
  unfolding split_decision decided
  split_declined number place e = rw (← e)

  -- and otherwise the answer of splitting what was read.
  pub split_judged_lem : (f : Formula) → accepted f ≡ parse s → (a : Answer) → a ≡ answer A (split f.n f.clauses) →
      record { batch = f.batch; method = Unnamed; verdict = answered a } ≡ split_decision A s
  unfolding split_decision decided split_judged
  split_judged_lem f e a g = rw (← e, g)
