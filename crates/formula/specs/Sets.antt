-- Clauses as sets of literals, and one list of clauses standing in another (paper 01, "What the library offers"): order and
-- repetition do not count.
use Rattle.std.specs.Prelude.{Bool, cond, ◌&&◌, List, [], ◌∷◌, ℕ, ◌+◌, eqb, length, Option, Some, None}
use Rattle.std.specs.Bool.{beq}
use Rattle.words.specs.Lists.{some, every}
use Rattle.formula.specs.Formula.{Literal, Clause}

unfoldable pub same_literal : Literal → Literal → Bool
same_literal a b = eqb a.variable b.variable && beq a.positive b.positive

-- every literal of c stands in d
unfoldable pub within : Clause → Clause → Bool
within c d = every (λ l. some (same_literal l) d) c

-- c and d are the same set of literals
unfoldable pub same_set : Clause → Clause → Bool
same_set c d = within c d && within d c

-- Each clause of cs, as a set of literals, is the set of some clause of ds: ds has at least the same clauses.
unfoldable pub stands : List Clause → List Clause → Bool
stands cs ds = every (λ c. some (same_set c) ds) cs

-- Each of two lists of clauses has at least the same clauses as the other: as sets of sets of literals they are equal.
unfoldable pub same_clauses : List Clause → List Clause → Bool
same_clauses cs ds = stands cs ds && stands ds cs

-- The first clause of cs that is, as a set of literals, none of ds, by the place of its first word in a sheet where cs begin at the place
-- given (02, paper 12).
unfoldable pub first_lacking : (place : ℕ) → List Clause → List Clause → Option ℕ
first_lacking place [] ds = None
first_lacking place (c ∷ cs) ds = cond (some (same_set c) ds) (first_lacking (place + 1 + length c) cs ds) (Some place)
