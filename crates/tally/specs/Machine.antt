-- What the machine is given and what it leaves, read as the definitions.
use Rattle.std.specs.Prelude.{◌≡◌, List, ◌++◌, ℕ, length, take, drop, Result as Outcome}
use Rattle.words.specs.Lists.{count}
use Rattle.words.specs.Machine.{bits_of}
use Rattle.words.specs.declared.Refused.{Refused}
use Rattle.formula.specs.Formula.{Clause, met}
use Rattle.formula.specs.Sheet.{Result}
use Rattle.formula.specs.Machine.{result_in}
use Rattle.tally.specs.declared.number.Change.{Change}
use Rattle.tally.specs.declared.number.Change.TheVariants.{Count, Toggle}
use Rattle.tally.specs.Tally.{Tally, moved, renumber, recount, left}

-- ---- what an operation answers, and what it leaves

-- The operation f on the tally t that was lent answers r, and leaves u.
pub record Comes (f : Tally → Result Tally) (t : Tally) (r : Outcome (Unit {0}) Refused) (u : Tally) : Type 0 where
  pub answer : result_in (λ _. u) r ≡ f t
  pub tally : u ≡ left t (f t)

-- ---- a pass over the clauses

-- what a change makes of a clause's number
unfoldable pub changed : Change → Clause → ℕ → ℕ
changed (Count a) c x = count (met (bits_of a)) c
changed (Toggle a v) c x = moved (bits_of a) v c x

-- The numbers after a pass that makes of each what g does.
pub record Passed (g : Clause → ℕ → ℕ) (cs : List Clause) (xs : List ℕ) (u : ℕ) (xs' : List ℕ) (u' : ℕ) : Type 0 where
  pub met : xs' ≡ renumber g cs xs
  pub unmet : u' ≡ recount g cs xs u

-- The same part way, before clause i: what is left to do makes of what there is now what the whole makes of the start.
pub record Passing (g : Clause → ℕ → ℕ) (cs : List Clause) (xs₀ : List ℕ) (u₀ i : ℕ) (xs : List ℕ) (u : ℕ) : Type 0 where
  pub size : length xs ≡ length xs₀
  pub met : take i xs ++ renumber g (drop i cs) (drop i xs) ≡ renumber g cs xs₀
  pub unmet : recount g (drop i cs) (drop i xs) u ≡ recount g cs xs₀ u₀
