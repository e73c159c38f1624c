-- A formula in conjunctive normal form: what an accepted sheet means (paper 01, "The sheet").
use Rattle.std.specs.Prelude.{◌≡◌, Bool, true, cond, not, ◌&&◌, List, [], ◌∷◌, ℕ, ◌+◌, ◌-◌, ◌*◌, ◌/◌, ◌%◌, ◌^◌, ◌≤◌, ◌<◌, eqb, length}
use Rattle.std.specs.Bool.{beq}
use Rattle.words.specs.Lists.{In, some, every}
use Rattle.words.specs.Bits.{bit, width}

-- A literal (the paper's wish): a variable (coupon), 1 to n, asked to be 1 (pay) or 0 (hold).
pub record Literal : Type 0 where
  pub variable : ℕ
  pub positive : Bool

-- A clause (term): a list of literals.
abbrev pub Clause : Type 0
Clause = List Literal

-- A formula: the batch number, the number n of variables, and the clauses in sheet order.
pub record Formula : Type 0 where
  pub batch : ℕ
  pub n : ℕ
  pub clauses : List Clause

-- the bit of an assignment (marks) that belongs to a literal's variable
unfoldable pub bit_of : Literal → ℕ
bit_of l = l.variable - 1

-- A positive literal is met by 1, a negative one by 0.
unfoldable pub met : ℕ → Literal → Bool
met m l = beq (bit m (bit_of l)) l.positive

-- x is the opposite of l: the literal of the same variable with the other sign
unfoldable pub is_opposite : Literal → Literal → Bool
is_opposite l x = eqb x.variable l.variable && not (beq x.positive l.positive)

-- A clause is true if a literal in it is met: the empty clause never is.
unfoldable pub some_met : ℕ → Clause → Bool
some_met m c = some (met m) c

-- Every clause is true: m is a model.
unfoldable pub all_true : ℕ → List Clause → Bool
all_true m cs = every (some_met m) cs

-- Some assignment of n variables is a model: a number below 2^n, whose bits from n up are 0.
unfoldable pub Satisfiable : ℕ → List Clause → Type 0
Satisfiable n cs = (m : ℕ) × (m < 2 ^ n) × (all_true m cs ≡ true)

-- ---- which formulas a sheet can hold

-- a clause has at most 8 literals, and a sheet at most 1,024 clauses
abbrev pub length_limit : ℕ
length_limit = 8

abbrev pub clause_limit : ℕ
clause_limit = 1024

-- a literal of the clause names the variable v
unfoldable pub names : ℕ → Clause → Bool
names v c = some (λ l. eqb l.variable v) c

-- no variable stands twice in the clause
unfoldable pub once : Clause → Bool
once [] = true
once (l ∷ c) = not (names l.variable c) && once c

-- A clause of at most 8 literals over the variables 1 to n, none of them twice.
pub record WellFormedClause (n : ℕ) (c : Clause) : Type 0 where
  pub short : length c ≤ length_limit
  pub known : (l : Literal) → In l c → (1 ≤ l.variable) × (l.variable ≤ n)
  pub once : once c ≡ true

-- A batch number of 32 bits, at most as many variables as an assignment has room for, at most 1,024 clauses.
pub record WellFormed (f : Formula) : Type 0 where
  pub batch : f.batch < 2 ^ 32
  pub variables : f.n ≤ width
  pub clauses : length f.clauses ≤ clause_limit
  pub each : (c : Clause) → In c f.clauses → WellFormedClause f.n c

-- ---- the word that stands for a literal on the sheet

-- Bit 0 is 0 for a positive and 1 for a negative literal; the bits above it are the variable.
unfoldable pub literal_word : Literal → ℕ
literal_word l = 2 * l.variable + cond l.positive 0 1

unfoldable pub literal_of : ℕ → Literal
literal_of w = record { variable = w / 2; positive = eqb (w % 2) 0 }
