-- What the machine reads and leaves: the table of clauses, the answers of the reader, and what each of its parts is given and leaves.
use Rattle.std.specs.Prelude.{◌≡◌, List, [], ◌∷◌, map, ℕ, ◌+◌, ◌-◌, ◌*◌, ◌%◌, ◌^◌, ◌≤◌, ◌<◌, length, get_or, take, drop, cond, eqb, Option, Some, None, Result as Outcome, Ok, Err, IfOk}
use Rattle.std.specs.Int.Bits.{bit_or}
use Rattle.words.specs.Lists.{span}
use Rattle.words.specs.Bits.{bit, width}
use Rattle.words.specs.declared.Refused.{Refused as Refusal}
use Rattle.words.specs.Refusals.{number_of}
use Rattle.formula.specs.declared.Kind.{Kind}
use Rattle.formula.specs.declared.Kind.TheVariants.{Literal, ClauseLength, Variables, BatchHalf}
use Rattle.formula.specs.declared.Header.{Header}
use Rattle.formula.specs.Formula.{Clause, Formula, names, literal_word, literal_of, length_limit, clause_limit, WellFormedClause}
use Rattle.formula.specs.Sheet.{Result, accepted, refused, kind, value, LITERAL, CLAUSE_LENGTH, VARIABLES, BATCH_HALF}

-- ---- the table

-- Each clause has a row of nine cells, its length and then its literals' words, so that any clause is found at once by its number. The
-- 9,216 cells are as many as the longest sheet has words after its header.
abbrev pub row_cells : ℕ
row_cells = 1 + length_limit

abbrev pub cell_count : ℕ
cell_count = clause_limit * row_cells

-- the bytes of the longest sheet after its header: 36,864
abbrev pub part_limit : ℕ
part_limit = 4 * cell_count

-- the cell with the length of clause i
unfoldable pub length_at : List ℕ → ℕ → ℕ
length_at cells i = get_or cells (row_cells * i) 0

-- the cell with literal j of clause i
unfoldable pub literal_at : List ℕ → ℕ → ℕ → ℕ
literal_at cells i j = get_or cells (row_cells * i + 1 + j) 0

unfoldable pub clause_at : List ℕ → ℕ → Clause
clause_at cells i = map literal_of (take (length_at cells i) (drop (row_cells * i + 1) cells))

-- the first k clauses of the table
unfoldable pub held : ℕ → List ℕ → List Clause
held k cells = map (clause_at cells) (span 0 k)

-- The table holds k clauses over the variables 1 to n.
pub record Table (n k : ℕ) (cells : List ℕ) : Type 0 where
  pub size : length cells ≡ cell_count
  pub room : k ≤ clause_limit
  pub short : (i : ℕ) → i < k → length_at cells i ≤ length_limit
  pub each : (i : ℕ) → i < k → WellFormedClause n (clause_at cells i)

-- the word of a literal over the variables that an assignment has
abbrev pub IsLiteral : ℕ → Type 0
IsLiteral w = (2 ≤ w) × (w < 2 * width + 2)

-- Row i can be read: the table has it, and its length is one that a clause can have.
pub record Row (cells : List ℕ) (i : ℕ) : Type 0 where
  pub size : length cells ≡ cell_count
  pub inside : i < clause_limit
  pub short : length_at cells i ≤ length_limit

-- The first k rows can be read.
pub record Rows (k : ℕ) (cells : List ℕ) : Type 0 where
  pub size : length cells ≡ cell_count
  pub room : k ≤ clause_limit
  pub short : (i : ℕ) → i < k → length_at cells i ≤ length_limit

-- Row i of `from` is row j of a table now, and the rows below are as before.
pub record RowCopied (from : List ℕ) (i : ℕ) (cells₀ : List ℕ) (j : ℕ) (cells : List ℕ) : Type 0 where
  pub size : length cells ≡ length cells₀
  pub kept : take (row_cells * j) cells ≡ take (row_cells * j) cells₀
  pub long : length_at cells j ≡ length_at from i
  pub same : clause_at cells j ≡ clause_at from i

-- ---- masks of clauses

-- A bit for each literal, by what is left of its word: the same sets have the same masks.
abbrev pub mask_bits : ℕ
mask_bits = 64

unfoldable pub mask_of : Clause → ℕ
mask_of [] = 0
mask_of (l ∷ c) = bit_or (2 ^ (literal_word l % mask_bits)) (mask_of c)

-- There is a number for each clause, and those of the first k are their masks.
pub record Masks (k : ℕ) (cells masks : List ℕ) : Type 0 where
  pub size : length masks ≡ clause_limit
  pub each : (i : ℕ) → i < k → get_or masks i 0 ≡ mask_of (clause_at cells i)

-- ---- the answers

-- The machine's answer as the definitions have it: what an Ok holds is read by f, and an Err is the refusal with its reason's number.
abbrev pub result_in : {A B : Type 0} → (A → B) → Outcome A Refusal → Result B
result_in f (Ok a) = accepted (f a)
result_in f (Err r) = refused (number_of r.reason) r.place

-- the kind of a word, which is its number
unfoldable pub kind_number : Kind → ℕ
kind_number Literal = LITERAL
kind_number ClauseLength = CLAUSE_LENGTH
kind_number Variables = VARIABLES
kind_number BatchHalf = BATCH_HALF

-- ---- the whole sheet

-- the formula of a header whose clauses the table holds
abbrev pub formula_in : Header → List ℕ → Formula
formula_in h cells = record { batch = h.batch; n = h.n; clauses = held h.count cells }

-- Where it is accepted, the table holds its clauses.
pub record SheetLeft (t : Result Formula) (r : Outcome Header Refusal) (cells : List ℕ) : Type 0 where
  pub answer : result_in (λ h. formula_in h cells) r ≡ t
  pub small : IfOk r (λ h. h.n ≤ width)
  pub table : IfOk r (λ h. Table h.n h.count cells)

-- ---- its parts

-- a word taken where a kind is due
unfoldable pub word_taken : ℕ → ℕ → Option ℕ
word_taken due w = cond (eqb (kind w) due) (Some (value w)) None

-- The set m holds just the variables that the literals name.
pub record Named (n m : ℕ) (c : Clause) : Type 0 where
  pub same : (v : ℕ) → 1 ≤ v → v ≤ n → bit m (v - 1) ≡ names v c

-- There are cells for c literals, and the sheet's part is no longer than the longest.
pub record LiteralsFit (part : List ℕ) (at n c : ℕ) (cells : List ℕ) (from : ℕ) : Type 0 where
  pub limit : length part ≤ part_limit
  pub start : 4 * at ≤ length part
  pub variables : n ≤ width
  pub short : c ≤ length_limit
  pub room : from + c ≤ length cells

-- c literals were read into the cells from `from` on, and the cells below are as before.
pub record LiteralsLeft (t : Result Clause) (c from : ℕ) (r : Outcome (Unit {0}) Refusal) (cells₀ cells : List ℕ) : Type 0 where
  pub answer : result_in (λ _. map literal_of (take c (drop from cells))) r ≡ t
  pub kept : take from cells ≡ take from cells₀

-- The sheet's part has a word at `at`, and the table has a row k.
pub record ClauseFits (part : List ℕ) (at n : ℕ) (cells : List ℕ) (k : ℕ) : Type 0 where
  pub limit : length part ≤ part_limit
  pub inside : 4 * at + 3 < length part
  pub variables : n ≤ width
  pub size : length cells ≡ cell_count
  pub row : k < clause_limit

-- A clause was read into row k, and its length is the answer; the rows below are as before.
pub record ClauseLeft (t : Result Clause) (k : ℕ) (r : Outcome ℕ Refusal) (cells₀ cells : List ℕ) : Type 0 where
  pub answer : result_in (λ c. clause_at cells k) r ≡ t
  pub size : IfOk r (λ c. length_at cells k ≡ c)
  pub short : IfOk r (λ c. c ≤ length_limit)
  pub kept : take (row_cells * k) cells ≡ take (row_cells * k) cells₀

-- The sheet's part is no longer than the longest, and the table is whole.
pub record ClausesFit (part : List ℕ) (n : ℕ) (cells : List ℕ) : Type 0 where
  pub limit : length part ≤ part_limit
  pub variables : n ≤ width
  pub size : length cells ≡ cell_count

-- Clauses were read into the table, and their number is the answer.
pub record ClausesLeft (t : Result (List Clause)) (r : Outcome ℕ Refusal) (cells : List ℕ) : Type 0 where
  pub answer : result_in (λ k. held k cells) r ≡ t
  pub rows : IfOk r (λ k. Rows k cells)
