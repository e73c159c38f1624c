-- Minimal unsatisfiable cores by deletion (02, paper 13: the terms that clash): what is answered, and which clauses are kept, for every plan, budget,
-- sheet and list.
use Rattle.std.specs.Prelude.{cond, List, [], ◌∷◌, ◌++◌, map, ℕ, zero, suc, ltb, length, get_or, drop}
use Rattle.words.specs.Lists.{span}
use Rattle.formula.specs.Formula.{Clause, Formula}
use Rattle.formula.specs.Sheet.{Result, accepted, parse}
use Rattle.code.specs.Operations.{coded?}
use Rattle.tree.specs.Budget.{clear, none, spent}
use Rattle.search.specs.Run.{Plan}
use Rattle.decision.specs.declared.Reply.{Reply}
use Rattle.decision.specs.Answers.{Verdict, answered, refused, Decision, refusal, method_of, judged, reply_of, BAD_PLAN}

-- short list
abbrev pub SHORT_LIST : ℕ
SHORT_LIST = 14

-- ---- deletion

-- the clauses with these numbers, counted from 0
unfoldable pub pick : List Clause → List ℕ → List Clause
pick cs numbers = map (λ i. get_or cs i []) numbers

-- the formula of just these clauses
abbrev pub only : Formula → List ℕ → Formula
only f numbers = record { batch = f.batch; n = f.n; clauses = pick f.clauses numbers }

-- What is answered, and the numbers of the clauses that are kept; an answer without a core keeps none.
pub record Core : Type 0 where
  pub decision : Decision
  pub kept : List ℕ

-- what a run gave, or a refusal, ends the work
unfoldable pub ended : Decision → Core
ended d = record { decision = d; kept = [] }

-- A core: none with the formula's batch and method (the paper's road), and as count the number of clauses kept.
unfoldable pub core : Formula → List ℕ → Core
core f kept = record { decision = record { batch = f.batch; method = method_of f; verdict = answered (none (length kept)) }; kept = kept }

-- by the verdict of a run: none, clear, or anything else
unfoldable pub by_verdict : {X : Type 0} → Verdict → (if_none if-clear otherwise : X) → X
by_verdict (answered (none c)) x y z = x
by_verdict (answered (clear m c)) x y z = y
by_verdict (answered (spent c)) x y z = z
by_verdict (refused number place) x y z = z

-- The first i clauses are gone through from last to first; `later` are the numbers kept behind them. Each is left out for good if a run of the rest
-- says none, and kept if that is clear; a run that is spent ends the work.
unfoldable pub sift : Plan → ℕ → Formula → ℕ → List ℕ → Core
sift p A f zero later = core f later
sift p A f (suc i) later =
    let rest = judged p A (only f (span 0 i ++ later)) in
    by_verdict rest.verdict (sift p A f i later) (sift p A f i (i ∷ later)) (ended rest)

-- All clauses are run first: only a none is gone into.
unfoldable pub deletion : Plan → ℕ → Formula → Core
deletion p A f =
    let whole = judged p A f in
    by_verdict whole.verdict (sift p A f (length f.clauses) []) (ended whole) (ended whole)

-- ---- the operation

-- a list needs a cell for each clause
unfoldable pub core_read : Plan → ℕ → (cells : ℕ) → Result Formula → Core
core_read p A cells (accepted f) = cond (ltb cells (length f.clauses)) (ended (refusal SHORT_LIST 0)) (deletion p A f)
core_read p A cells (Result.refused number place) = ended (refusal number place)

-- For every plan, budget and sheet, and a list of so many cells: the plan's refusal goes first, then the sheet's, then that of a short list.
unfoldable pub core_to : Plan → ℕ → List ℕ → (cells : ℕ) → Core
core_to p A s cells = cond (coded? p.size p.radius) (core_read p A cells (parse s)) (ended (refusal BAD_PLAN 0))

-- What `clash` gives.
unfoldable pub clash_to : Plan → ℕ → List ℕ → (cells : ℕ) → Reply
clash_to p A s cells = reply_of (core_to p A s cells).decision

-- What the list then holds: the numbers kept in its first cells, and the other cells as before.
unfoldable pub list_after : List ℕ → List ℕ → List ℕ
list_after kept list = kept ++ drop (length kept) list
