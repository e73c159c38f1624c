-- What the engine answers, for every plan, budget and sheet (paper 01, "What the library offers" and "When the engine declines"; 02,
-- papers 9 and 10).
use Rattle.std.specs.Prelude.{cond, List, [], ◌∷◌, ℕ}
use Rattle.words.specs.Bits.{from_words, word_at}
use Rattle.formula.specs.Formula.{Formula}
use Rattle.formula.specs.Sheet.{Result, accepted, parse}
use Rattle.code.specs.Code.{code}
use Rattle.code.specs.Operations.{coded?}
use Rattle.tree.specs.Explore.{Outcome}
use Rattle.tree.specs.Budget.{Answer, clear, none, spent, answer}
use Rattle.search.specs.Run.{Plan, search_of, run}
use Rattle.horn.specs.Horn.{is_horn, rounds}
use Rattle.splitting.specs.Splitting.{split}
use Rattle.decision.specs.declared.Method.{Method}
use Rattle.decision.specs.declared.Method.TheVariants.{Unnamed, Horn, Balls}
use Rattle.decision.specs.declared.Reply.{Reply}
use Rattle.decision.specs.declared.Ending.{Ending}

-- ---- decisions

-- The method (the paper's road): rounds for a Horn formula, balls for every other.
unfoldable pub method_of : Formula → Method
method_of f = cond (is_horn f.clauses) Horn Balls

-- The outcome of a formula by a plan, by its method. Rounds know no plan.
unfoldable pub outcome : Plan → Formula → Outcome
outcome p f = cond (is_horn f.clauses) (rounds f.n f.clauses) (run (search_of code p f))

-- The outcome of a formula by splitting.
abbrev pub split_outcome : Formula → Outcome
split_outcome f = split f.n f.clauses

-- A verdict and what belongs to it: the answer of the search within its budget, or the number and the place of a refusal.
pub data Verdict : Type 0 where
  answered : Answer → Verdict
  refused : (number place : ℕ) → Verdict

-- the verdict, with the batch number and the method beside it
pub record Decision : Type 0 where
  pub batch : ℕ
  pub method : Method
  pub verdict : Verdict

-- a refusal has number and place, and everything else is 0
unfoldable pub refusal : ℕ → ℕ → Decision
refusal number place = record { batch = 0; method = Unnamed; verdict = refused number place }

abbrev pub BAD_PLAN : ℕ
BAD_PLAN = 8

-- the decision on a formula
unfoldable pub judged : Plan → ℕ → Formula → Decision
judged p A f = record { batch = f.batch; method = method_of f; verdict = answered (answer A (outcome p f)) }

-- a formula that was read is decided, and a refusal of the sheet passed on
unfoldable pub decided : (Formula → Decision) → Result Formula → Decision
decided judge (accepted f) = judge f
decided judge (Result.refused number place) = refusal number place

-- The decision on a plan, a budget and the bytes of a sheet: the plan's refusal goes first, then the sheet's.
unfoldable pub decision : Plan → ℕ → List ℕ → Decision
decision p A s = cond (coded? p.size p.radius) (decided (judged p A) (parse s)) (refusal BAD_PLAN 0)

-- the decision on a formula by splitting, which names no method
unfoldable pub split_judged : ℕ → Formula → Decision
split_judged A f = record { batch = f.batch; method = Unnamed; verdict = answered (answer A (split_outcome f)) }

-- The decision by splitting on a budget and the bytes of a sheet: there is no plan, so that only the sheet is refused.
unfoldable pub split_decision : ℕ → List ℕ → Decision
split_decision A s = decided (split_judged A) (parse s)

-- ---- the numbers of a decision, as a host in C has them

abbrev pub REFUSED : ℕ
REFUSED = 0

abbrev pub CLEAR : ℕ
CLEAR = 1

abbrev pub NONE : ℕ
NONE = 2

abbrev pub SPENT : ℕ
SPENT = 3

-- the number of an ending, `verdict` in a reply
unfoldable pub ending_number : Ending → ℕ
ending_number Ending.Refused = REFUSED
ending_number Ending.Clear = CLEAR
ending_number Ending.None = NONE
ending_number Ending.Spent = SPENT

abbrev pub NO_ROAD : ℕ
NO_ROAD = 0

abbrev pub HORN : ℕ
HORN = 1

abbrev pub BALLS : ℕ
BALLS = 2

-- the number of a method, `road` in a reply
unfoldable pub method_number : Method → ℕ
method_number Unnamed = NO_ROAD
method_number Horn = HORN
method_number Balls = BALLS

-- what an assignment and the other numbers of an answer are to a host: the assignment in four words
abbrev pub reply_with : (verdict batch road marks calls number place : ℕ) → Reply
reply_with verdict batch road marks calls number place =
    record {
      verdict = verdict;
      batch = batch;
      road = road;
      marks0 = word_at marks 0;
      marks1 = word_at marks 1;
      marks2 = word_at marks 2;
      marks3 = word_at marks 3;
      calls = calls;
      number = number;
      place = place;
    }

-- the reply of a search, with the number of its verdict
abbrev pub counts : (verdict batch road marks calls : ℕ) → Reply
counts verdict batch road marks calls = reply_with verdict batch road marks calls 0 0

-- the reply of a refusal
abbrev pub declines : (number place : ℕ) → Reply
declines number place = reply_with REFUSED 0 0 0 0 number place

-- the assignment of a reply, as a number
unfoldable pub marks_of : Reply → ℕ
marks_of r = from_words (r.marks0 ∷ r.marks1 ∷ r.marks2 ∷ r.marks3 ∷ [])

-- A verdict without an assignment has marks 0.
unfoldable pub numbers_of : (batch road : ℕ) → Verdict → Reply
numbers_of batch road (answered (clear m c)) = counts CLEAR batch road m c
numbers_of batch road (answered (none c)) = counts NONE batch road 0 c
numbers_of batch road (answered (spent c)) = counts SPENT batch road 0 c
numbers_of batch road (refused number place) = declines number place

unfoldable pub reply_of : Decision → Reply
reply_of d = numbers_of d.batch (method_number d.method) d.verdict

-- What `run` gives.
unfoldable pub reply_to : Plan → ℕ → List ℕ → Reply
reply_to p A s = reply_of (decision p A s)

-- What `split` gives.
unfoldable pub split_to : ℕ → List ℕ → Reply
split_to A s = reply_of (split_decision A s)
