-- Alike (paper 01, "What the library offers"): when two sheets are, and what is answered for any two byte lists.
use Rattle.std.specs.Prelude.{Bool, cond, ◌&&◌, List, ℕ, eqb}
use Rattle.formula.specs.Formula.{Formula}
use Rattle.formula.specs.Sheet.{Result, accepted, refused, parse}
use Rattle.formula.specs.Sets.{same_clauses}

-- n is equal, and the clauses, each taken as a set of literals, form the same set: batch, order and repetition do not count.
unfoldable pub alike : Formula → Formula → Bool
alike f g = eqb f.n g.n && same_clauses f.clauses g.clauses

-- which sheet a refusal is about
abbrev pub FIRST : ℕ
FIRST = 1

abbrev pub SECOND : ℕ
SECOND = 2

-- What two sheets are to each other, or a refusal's number and place and the sheet that it is about.
pub data Comparison : Type 0 where
  are_alike : Comparison
  are_different : Comparison
  declined : (sheet number place : ℕ) → Comparison

-- The first sheet is read, then the second.
unfoldable pub compared : Result Formula → Result Formula → Comparison
compared (refused number place) second = declined FIRST number place
compared (accepted f) (refused number place) = declined SECOND number place
compared (accepted f) (accepted g) = cond (alike f g) are_alike are_different

-- What two lists of bytes are to each other.
unfoldable pub comparison : List ℕ → List ℕ → Comparison
comparison s t = compared (parse s) (parse t)
