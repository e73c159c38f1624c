-- Why a sheet is refused and where: a constructor for each row 1 to 7 of paper 01's table of refusals. ParseRefused.antt shows that
-- these are the only refusals, ParseReason.antt that for each of them the sheet is refused so.
use Rattle.std.specs.Prelude.{◌≡◌, ◌⊎◌, true, List, [], ◌∷◌, ◌++◌, ℕ, ◌/◌, ◌%◌, ◌≤◌, ◌<◌, length}
use Rattle.words.specs.Bits.{width}
use Rattle.formula.specs.Formula.{Clause, Formula, names, length_limit, clause_limit, WellFormedClause, WellFormed}
use Rattle.formula.specs.Sheet.{words, kind, value, word, literal_words, formula_words, BATCH_HALF, VARIABLES, CLAUSE_LENGTH, LITERAL, half_limit, word_limit, byte_limit, RAGGED_LENGTH, SHORT_HEADER, WRONG_KIND, TRUNCATED_CLAUSE, ABOVE_LIMIT, UNKNOWN_VARIABLE, REPEATED_VARIABLE}

-- What is due at a word: half of the batch number, the number of variables, the length of a clause that has so many clauses
-- before it, or a literal over the variables 1 to n that has these literals before it in its clause.
pub data Due : Type 0 where
  batch_half : Due
  variables : Due
  clause_length : (clauses : ℕ) → Due
  literal : (n : ℕ) → (before : Clause) → Due

abbrev pub kind_due : Due → ℕ
kind_due batch_half = BATCH_HALF
kind_due variables = VARIABLES
kind_due (clause_length k) = CLAUSE_LENGTH
kind_due (literal n before) = LITERAL

-- the value is above its limit, or it is the clause that is one too many
abbrev pub Above : Due → ℕ → Type 0
Above batch_half v = half_limit < v
Above variables v = width < v
Above (clause_length k) v = (length_limit < v) ⊎ (clause_limit ≤ k)
Above (literal n before) v = ⊥

-- What is due next where the words so far are all in order.
pub data Next (sofar : List ℕ) : Due → Type 0 where
  first_half : sofar ≡ [] → Next sofar batch_half
  second_half : (high : ℕ) → high ≤ half_limit → sofar ≡ word BATCH_HALF high ∷ [] → Next sofar batch_half
  third_word : (high low : ℕ) → high ≤ half_limit → low ≤ half_limit →
      sofar ≡ word BATCH_HALF high ∷ word BATCH_HALF low ∷ [] → Next sofar variables
  a_clause : (f : Formula) → WellFormed f → sofar ≡ formula_words f → Next sofar (clause_length (length f.clauses))
  a_literal : (f : Formula) → WellFormed f → length f.clauses < clause_limit → (c : ℕ) → c ≤ length_limit → (ls : Clause) →
      WellFormedClause f.n ls → length ls < c →
      sofar ≡ formula_words f ++ (word CLAUSE_LENGTH c ∷ literal_words ls) → Next sofar (literal f.n ls)

-- The sheet's length is in order.
pub record Sized (s : List ℕ) : Type 0 where
  pub limit : length s ≤ byte_limit
  pub words : length s % 4 ≡ 0
  pub header : 12 ≤ length s

-- The sheet's word w at a place, its first word at place 0, where all words before it are in order.
pub record At (s : List ℕ) (place w : ℕ) (due : Due) : Type 0 where
  pub sized : Sized s
  pub before : List ℕ
  pub after : List ℕ
  pub split : words s ≡ before ++ w ∷ after
  pub index : place ≡ length before
  pub next : Next before due

-- The reason for which the sheet s is refused with a number and a place:
pub data Reason (s : List ℕ) : ℕ → ℕ → Type 0 where
  -- 1: its length is not a multiple of 4;
  length_uneven : length s ≤ byte_limit → (length s % 4 ≡ 0 → ⊥) → Reason s RAGGED_LENGTH 0
  -- 2: it has fewer than 12 bytes;
  header_short : length s % 4 ≡ 0 → length s < 12 → Reason s SHORT_HEADER 0
  -- 3: a word is not of the kind due there;
  kind_wrong : {place w : ℕ} {due : Due} → At s place w due → (kind w ≡ kind_due due → ⊥) → Reason s WRONG_KIND place
  -- 4: it ends before a clause's last literal;
  clause_cut : {n : ℕ} {before : Clause} → Sized s → Next (words s) (literal n before) →
      Reason s TRUNCATED_CLAUSE (length (words s))
  -- 5: a half of the batch number, n, a clause's length or the number of clauses is above its limit;
  value_above : {place w : ℕ} {due : Due} → At s place w due → kind w ≡ kind_due due →
      Above due (value w) → Reason s ABOVE_LIMIT place
  -- 5: it is too long;
  sheet_long : byte_limit < length s → Reason s ABOVE_LIMIT word_limit
  -- 6: a variable is 0 or above n;
  variable_unknown : {place w n : ℕ} {before : Clause} → At s place w (literal n before) → kind w ≡ LITERAL →
      (value w / 2 ≡ 0) ⊎ (n < value w / 2) → Reason s UNKNOWN_VARIABLE place
  -- 7: a variable stands in its clause already.
  variable_repeated : {place w n : ℕ} {before : Clause} → At s place w (literal n before) → kind w ≡ LITERAL →
      (1 ≤ value w / 2) × (value w / 2 ≤ n) → names (value w / 2) before ≡ true → Reason s REPEATED_VARIABLE place
