-- The tally beside an assignment (02, paper 2), the clause counters of local search: for each clause of a sheet the number of its met
-- literals, and the number of clauses that are false.
use Rattle.std.specs.Prelude.{Bool, cond, not, ◌&&◌, ◌||◌, List, [], ◌∷◌, ◌++◌, map, ℕ, zero, suc, ◌+◌, ◌-◌, min, eqb, ltb, length, replicate}
use Rattle.words.specs.Lists.{some, count}
use Rattle.words.specs.Bits.{toggle, from_words}
use Rattle.formula.specs.Formula.{Clause, met, some_met, names, clause_limit}
use Rattle.formula.specs.Sheet.{Result, accepted, refused, ◌>>=◌, ◌>>◌, refuse_when, parse}

-- The assignment (marks), the clauses' numbers of met literals, and the number of false clauses.
pub record Tally : Type 0 where
  pub assignment : ℕ
  pub met : List ℕ
  pub unmet : ℕ

-- ---- what it holds

-- the number of met literals of each clause, and 0 past the last one: 1,024 numbers
unfoldable pub met_of : ℕ → List Clause → List ℕ
met_of m cs = map (count (met m)) cs ++ replicate (clause_limit - length cs) 0

-- the number of false clauses
unfoldable pub unmet_of : ℕ → List Clause → ℕ
unmet_of m cs = count (λ c. not (some_met m c)) cs

-- The tally of some clauses under an assignment.
unfoldable pub tally_of : List Clause → ℕ → Tally
tally_of cs m = record { assignment = m; met = met_of m cs; unmet = unmet_of m cs }

-- ---- a toggle, whatever the numbers are

-- the clause's literal of the variable v is met
unfoldable pub met_by : (m v : ℕ) → Clause → Bool
met_by m v c = some (λ l. eqb l.variable v && met m l) c

-- The number x of a clause after the toggle of v that made the assignment m: a clause that names v goes one up or down, and is then brought
-- within 0 to its length (one down from 0 is 0); no other clause moves.
unfoldable pub moved : (m v : ℕ) → Clause → ℕ → ℕ
moved m v c x = cond (names v c) (min (cond (met_by m v c) (x + 1) (x - 1)) (length c)) x

-- The number u of false clauses after a clause's number went from x to y: one less where it leaves 0, one more where it falls to 0, each
-- time brought within 0 to 1,024.
unfoldable pub recounted : (x y u : ℕ) → ℕ
recounted zero zero u = u
recounted zero (suc y) u = min (u - 1) clause_limit
recounted (suc x) zero u = min (u + 1) clause_limit
recounted (suc x) (suc y) u = u

-- In sheet order each clause's number becomes what g makes of the clause and the number; numbers past the last clause stay.
unfoldable pub renumber : (g : Clause → ℕ → ℕ) → List Clause → List ℕ → List ℕ
renumber g [] xs = xs
renumber g (c ∷ cs) [] = []
renumber g (c ∷ cs) (x ∷ xs) = g c x ∷ renumber g cs xs

-- the number of false clauses after that
unfoldable pub recount : (g : Clause → ℕ → ℕ) → List Clause → List ℕ → ℕ → ℕ
recount g [] xs u = u
recount g (c ∷ cs) [] u = u
recount g (c ∷ cs) (x ∷ xs) u = recount g cs xs (recounted x (g c x) u)

-- The tally after the toggle of the variable v.
unfoldable pub toggled : (v : ℕ) → List Clause → Tally → Tally
toggled v cs t =
    let m = toggle t.assignment (v - 1) in
    record { assignment = m; met = renumber (moved m v) cs t.met; unmet = recount (moved m v) cs t.met t.unmet }

-- ---- the operations, for any bytes, any variable and any tally that is lent

-- no such mark: variable 0 or above n
abbrev pub NO_SUCH_VARIABLE : ℕ
NO_SUCH_VARIABLE = 10

-- What `tally_begin` makes: the tally of the sheet under the assignment 0.
unfoldable pub tally_begin : (s : List ℕ) → Result Tally
tally_begin s = do
  f ← parse s
  accepted (tally_of f.clauses 0)

-- What `tally_toggle` makes: the sheet's refusals go first.
unfoldable pub tally_toggle : (s : List ℕ) (v : ℕ) → Tally → Result Tally
tally_toggle s v t = do
  f ← parse s
  refuse_when (eqb v 0 || ltb f.n v) NO_SUCH_VARIABLE 0
  accepted (toggled v f.clauses t)

-- Do all clauses hold? The sheet has no part in it.
unfoldable pub tally_holds : (unmet : ℕ) → Bool
tally_holds unmet = eqb unmet 0

-- The tally that was lent, afterwards: a refusal leaves it as it came.
unfoldable pub left : Tally → Result Tally → Tally
left t (accepted u) = u
left t (refused number place) = t

-- The tally after toggles on one sheet, refused ones among them.
unfoldable pub tally_toggles : (s : List ℕ) (vs : List ℕ) → Tally → Tally
tally_toggles s [] t = t
tally_toggles s (v ∷ vs) t = tally_toggles s vs (left t (tally_toggle s v t))

-- The tally that a host in C lends: the words of its assignment, 1,024 numbers of met literals and the number of false clauses.
unfoldable pub tally_in : (marks met : List ℕ) (unmet : ℕ) → Tally
tally_in marks met unmet = record { assignment = from_words marks; met = met; unmet = unmet }
