-- The sheet: which bytes stand for a formula, and which refusal the others get (paper 01, "The sheet" and "When the engine declines").
use Rattle.std.specs.Prelude.{Bool, true, false, not, ◌||◌, List, [], ◌∷◌, ◌++◌, map, ℕ, zero, suc, ◌+◌, ◌*◌, ◌/◌, ◌%◌, ◌^◌, eqb, ltb, length, get_or, drop}
use Rattle.words.specs.Bits.{width}
use Rattle.formula.specs.Formula.{Literal, Clause, Formula, names, length_limit, clause_limit, literal_word, literal_of}

infixl 10 ◌>>=◌
infixl 10 ◌>>◌
-- ---- words

-- Four bytes make a word of 32 bits, low byte first.
unfoldable pub word_of : ℕ → ℕ → ℕ → ℕ → ℕ
word_of a b c d = a + 256 * b + 65536 * c + 16777216 * d

-- The words of a sheet: bytes left over at the end make none.
unfoldable pub words : List ℕ → List ℕ
words [] = []
words (a ∷ []) = []
words (a ∷ b ∷ []) = []
words (a ∷ b ∷ c ∷ []) = []
words (a ∷ b ∷ c ∷ d ∷ s) = word_of a b c d ∷ words s

-- The top two bits of a word are its kind, the low 30 bits its value.
unfoldable pub kind : ℕ → ℕ
kind w = w / 2 ^ 30

unfoldable pub value : ℕ → ℕ
value w = w % 2 ^ 30

-- the four kinds: a half of the batch number, the number of variables, a clause's length, a literal
abbrev pub BATCH_HALF : ℕ
BATCH_HALF = 3

abbrev pub VARIABLES : ℕ
VARIABLES = 2

abbrev pub CLAUSE_LENGTH : ℕ
CLAUSE_LENGTH = 1

abbrev pub LITERAL : ℕ
LITERAL = 0

-- ---- its limits

-- a half of the batch number has 16 bits
abbrev pub half_limit : ℕ
half_limit = 65535

-- The longest sheet has 9,219 words, its header's three and for each clause its length and its literals: 36,876 bytes.
abbrev pub header_words : ℕ
header_words = 3

abbrev pub word_limit : ℕ
word_limit = header_words + clause_limit * (1 + length_limit)

abbrev pub byte_limit : ℕ
byte_limit = 4 * word_limit

-- ---- what a reading comes to

-- What was read, or the number and the place of a refusal.
pub data Result (A : Type 0) : Type 0 where
  accepted : A → Result A
  refused : (number place : ℕ) → Result A

-- The first refusal ends the reading.
unfoldable pub ◌>>=◌ : {A B : Type 0} → Result A → (A → Result B) → Result B
accepted a >>= next = next a
refused number place >>= next = refused number place

unfoldable pub ◌>>◌ : {B : Type 0} → Result (Unit {0}) → Result B → Result B
accepted u >> next = next
refused number place >> next = refused number place

unfoldable pub refuse_when : Bool → (number place : ℕ) → Result (Unit {0})
refuse_when true number place = refused number place
refuse_when false number place = accepted tt

-- ---- the numbers of the refusals, with the paper's word for each

-- ragged: the length is not a multiple of 4
abbrev pub RAGGED_LENGTH : ℕ
RAGGED_LENGTH = 1

-- headless: fewer than 12 bytes
abbrev pub SHORT_HEADER : ℕ
SHORT_HEADER = 2

-- misplaced: a word is not of the kind due there
abbrev pub WRONG_KIND : ℕ
WRONG_KIND = 3

-- torn: the sheet ends before a clause's last literal
abbrev pub TRUNCATED_CLAUSE : ℕ
TRUNCATED_CLAUSE = 4

-- overrun: a half of the batch number, n, a clause's length, the number of clauses or the sheet's length is above its limit
abbrev pub ABOVE_LIMIT : ℕ
ABOVE_LIMIT = 5

-- stranger: variable 0 or above n
abbrev pub UNKNOWN_VARIABLE : ℕ
UNKNOWN_VARIABLE = 6

-- twice: the variable stands in this clause already
abbrev pub REPEATED_VARIABLE : ℕ
REPEATED_VARIABLE = 7

-- ---- word by word: at each word 3, then 5, 6, 7

-- Whoever takes a word names the kind due there; a word of that kind yields its value.
unfoldable pub take_word : (due place w : ℕ) → Result ℕ
take_word due place w = do
  refuse_when (not (eqb (kind w) due)) WRONG_KIND place
  accepted (value w)

-- a number with a limit
unfoldable pub take_number : (due limit place w : ℕ) → Result ℕ
take_number due limit place w = do
  v ← take_word due place w
  refuse_when (ltb limit v) ABOVE_LIMIT place
  accepted v

-- a literal over the variables 1 to n, with the literals `before` it in its clause
unfoldable pub take_literal : (n : ℕ) (before : Clause) (place w : ℕ) → Result Literal
take_literal n before place w = do
  v ← take_word LITERAL place w
  refuse_when (eqb (v / 2) 0 || ltb n (v / 2)) UNKNOWN_VARIABLE place
  refuse_when (names (v / 2) before) REPEATED_VARIABLE place
  accepted (literal_of v)

-- c literals; the words may run out
unfoldable pub take_literals : (n c : ℕ) (before : Clause) (place : ℕ) (ws : List ℕ) → Result Clause
take_literals n zero before place ws = accepted []
take_literals n (suc c) before place [] = refused TRUNCATED_CLAUSE place
take_literals n (suc c) before place (w ∷ ws) = do
  l ← take_literal n before place w
  ls ← take_literals n c (before ++ (l ∷ [])) (place + 1) ws
  accepted (l ∷ ls)

-- a clause: one word with its length c, 0 to 8, and then c literals
unfoldable pub take_clause : (n place w : ℕ) (ws : List ℕ) → Result Clause
take_clause n place w ws = do
  c ← take_number CLAUSE_LENGTH length_limit place w
  take_literals n c [] (place + 1) ws

-- clauses to the end of the sheet, as many as there is room for
unfoldable pub take_clauses : (n room place : ℕ) (ws : List ℕ) → Result (List Clause)
take_clauses n zero place [] = accepted []
take_clauses n (suc room) place [] = accepted []
take_clauses n zero place (w ∷ ws) = do
  c ← take_word CLAUSE_LENGTH place w
  refused ABOVE_LIMIT place
take_clauses n (suc room) place (w ∷ ws) = do
  c ← take_clause n place w ws
  cs ← take_clauses n room (place + 1 + length c) (drop (length c) ws)
  accepted (c ∷ cs)

-- words 0 and 1, the high and the low 16 bits of the batch number; word 2, the number n of variables; no clause yet
unfoldable pub take_header : (ws : List ℕ) → Result Formula
take_header ws = do
  high ← take_number BATCH_HALF half_limit 0 (get_or ws 0 0)
  low ← take_number BATCH_HALF half_limit 1 (get_or ws 1 0)
  n ← take_number VARIABLES width 2 (get_or ws 2 0)
  accepted (record { batch = 65536 * high + low; n = n; clauses = [] })

-- the header, and then at most 1,024 clauses from the part that follows the third word
unfoldable pub take_formula : (ws : List ℕ) → Result Formula
take_formula ws = do
  f ← take_header ws
  cs ← take_clauses f.n clause_limit header_words (drop header_words ws)
  accepted (record { batch = f.batch; n = f.n; clauses = cs })

-- ---- the whole sheet

-- Its length goes first.
unfoldable pub parse : (s : List ℕ) → Result Formula
parse s = do
  refuse_when (ltb byte_limit (length s)) ABOVE_LIMIT word_limit
  refuse_when (not (eqb (length s % 4) 0)) RAGGED_LENGTH 0
  refuse_when (ltb (length s) 12) SHORT_HEADER 0
  take_formula (words s)

-- ---- the sheet of a formula

-- the word of a kind with a value
unfoldable pub word : (kind value : ℕ) → ℕ
word k v = 2 ^ 30 * k + v

unfoldable pub literal_words : Clause → List ℕ
literal_words c = map (λ l. word LITERAL (literal_word l)) c

unfoldable pub clause_words : List Clause → List ℕ
clause_words [] = []
clause_words (c ∷ cs) = word CLAUSE_LENGTH (length c) ∷ literal_words c ++ clause_words cs

unfoldable pub formula_words : Formula → List ℕ
formula_words f =
    word BATCH_HALF (f.batch / 65536)
    ∷ word BATCH_HALF (f.batch % 65536)
    ∷ word VARIABLES f.n
    ∷ clause_words f.clauses

-- each word as four bytes, low byte first
unfoldable pub bytes : List ℕ → List ℕ
bytes [] = []
bytes (w ∷ ws) = w % 256 ∷ w / 256 % 256 ∷ w / 65536 % 256 ∷ w / 16777216 % 256 ∷ bytes ws

unfoldable pub encode : Formula → List ℕ
encode f = bytes (formula_words f)
