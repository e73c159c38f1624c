-- What the machine's functions are given and leave.
use Rattle.std.specs.Prelude.{◌≡◌, Result, Ok, Err, List, [], ◌∷◌, ℕ, suc, ◌≤◌, ◌<◌, length, take}
use Rattle.formula.specs.Formula.{Formula}
use Rattle.search.specs.Run.{Plan}
use Rattle.tree.specs.Budget.{clear, none}
use Rattle.decision.specs.Answers as Spec
use Rattle.decision.specs.Answers.{answered}
use Rattle.decision.specs.Machine.{decision_in}
use Rattle.decision.specs.declared.Decision.{Decision}
use Rattle.deletion.specs.Core.{Core, ended, core, by_verdict, sift, list_after}
use Rattle.deletion.specs.CoreLaws.{Rising}

-- A trial of f that begins with its first i clauses.
pub record Begins (f : Formula) (i : ℕ) (trial : Formula) : Type 0 where
  pub batch : trial.batch ≡ f.batch
  pub n : trial.n ≡ f.n
  pub rows : take i trial.clauses ≡ take i f.clauses

-- Clause i is left out next, and `later` are the numbers kept behind it.
pub record Trying (f : Formula) (i : ℕ) (later : List ℕ) (trial : Formula) : Type 0 where
  pub begins : Begins f i trial
  pub inside : i < length f.clauses
  pub rising : Rising (length f.clauses) (suc i) later

-- the numbers kept after a run without clause i
pub data Onward (v : Spec.Verdict) (i : ℕ) (later : List ℕ) : List ℕ → Type 0 where
  left_out : (c : ℕ) → v ≡ answered (none c) → Onward v i later later
  stays : (m c : ℕ) → v ≡ answered (clear m c) → Onward v i later (i ∷ later)

-- a verdict that is neither none nor clear
abbrev pub Ends : Spec.Verdict → Type 0
Ends v = (x y z : Core) → by_verdict v x y z ≡ z

-- Before the first i clauses are gone through: those kept behind them, and what the sift goes on with.
pub record Sifting (p : Plan) (A : ℕ) (f : Formula) (later : List ℕ) (trial : Formula) (i : ℕ) : Type 0 where
  pub begins : Begins f i trial
  pub inside : i ≤ length f.clauses
  pub rising : Rising (length f.clauses) i later
  pub same : sift p A f i later ≡ sift p A f (length f.clauses) []

-- What going through the clauses comes to: the numbers kept, or the decision that ends the work.
abbrev pub sifted_in : Formula → Result (List ℕ) Decision → Core
sifted_in f (Ok later) = core f later
sifted_in f (Err d) = ended (decision_in d)

-- What is decided and what the list then holds, where it comes to c.
pub record Leaves (c : Core) (list₀ : List ℕ) (d : Spec.Decision) (list : List ℕ) : Type 0 where
  pub decided : d ≡ c.decision
  pub holds : list ≡ list_after c.kept list₀
