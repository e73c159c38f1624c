-- What the machine's words hold: two numbers of each clause crosswise, 64 clauses to a word, whatever is counted; and which clauses
-- hold a literal, and which variables a clause names.
use Rattle.std.specs.Prelude.{◌≡◌, Bool, true, false, not, ◌&&◌, ◌||◌, List, ℕ, zero, suc, ◌+◌, ◌-◌, ◌*◌, ◌/◌, ◌%◌, ◌^◌, ◌≤◌, ◌<◌, eqb, leb, ltb, length, get_or, Option, Some, None, MatchOption}
use Rattle.words.specs.Lists.{every}
use Rattle.words.specs.Bits.{bit, width}
use Rattle.words.proofs.BitLaws.{digit}
use Rattle.formula.specs.declared.literal.Literal.{Literal}
use Rattle.formula.specs.Formula.{Clause, names}
use Rattle.formula.specs.Counts.{sign_count, sign_word, holds, Steps}
use Rattle.formula.specs.Machine.{Table, clause_at, held}
use Rattle.planes.specs.declared.Planes.{Planes}
use Rattle.planes.specs.declared.Kind.{Kind}
use Rattle.planes.specs.declared.Kind.TheVariants.{Zero, Few, Lone, Both}

-- ---- sizes

-- the lanes of a word, one for each clause: clause i has lane i % lanes of word i / lanes
abbrev pub lanes : ℕ
lanes = 64

-- the words of a row, which has a lane for each clause of the longest sheet
abbrev pub row_words : ℕ
row_words = 16

-- the clauses that a row has lanes for
abbrev pub lane_count : ℕ
lane_count = lanes * row_words

-- the rows of the occurrence table, one for each word of a literal; the words 0 and 1 stand for no literal
abbrev pub row_count : ℕ
row_count = 2 * width + 2

-- the word of a literal, and 0 where there is none
abbrev pub word_of : Option Literal → ℕ
word_of None = 0
word_of (Some l) = l.word

-- The rows come first in the table, then two words for each clause: the set of its variables.
abbrev pub sets_from : ℕ
sets_from = row_count * row_words

abbrev pub occurrence_cells : ℕ
occurrence_cells = sets_from + 2 * lane_count

-- Two counters keep a number below 16 each for every clause. A counter has a slot for each word of clauses, from its first slot on.
abbrev pub first_counter : ℕ
first_counter = 0

abbrev pub second_counter : ℕ
second_counter = row_words

abbrev pub slots : ℕ
slots = 2 * row_words

-- a slot has a cell in each of four planes
abbrev pub plane_cells : ℕ
plane_cells = 4 * slots

-- how many words k clauses take
abbrev pub words_of : ℕ → ℕ
words_of k = (k + (lanes - 1)) / lanes

-- ---- numbers crosswise

-- the number with these binary digits, the lowest first
abbrev pub number : Bool → Bool → Bool → Bool → ℕ
number a b c d = digit a + 2 * digit b + 4 * digit c + 8 * digit d

-- the number in lane j of four planes
unfoldable pub count_in : Planes → ℕ → ℕ
count_in p j = number (bit p.p0 j) (bit p.p1 j) (bit p.p2 j) (bit p.p3 j)

-- the planes of a slot
unfoldable pub planes_at : List ℕ → ℕ → Planes
planes_at xs s = record { p0 = get_or xs s 0; p1 = get_or xs (s + slots) 0; p2 = get_or xs (s + 2 * slots) 0; p3 = get_or xs (s + 3 * slots) 0 }

-- the number that the counter q has in lane i
unfoldable pub count_at : List ℕ → ℕ → ℕ → ℕ
count_at xs q i = count_in (planes_at xs (q + i / lanes)) (i % lanes)

-- The counter q holds the number that `count` gives each of the k clauses, and 1 in the lanes past the last clause.
pub record Counts (k : ℕ) (cells : List ℕ) (q : ℕ) (count : Clause → ℕ) (planes : List ℕ) : Type 0 where
  pub each : (i : ℕ) → i < k → count_at planes q i ≡ count (clause_at cells i)
  pub rest : (i : ℕ) → k ≤ i → i < lanes * words_of k → count_at planes q i ≡ 1

-- ---- clauses that pass a test

-- The lanes of z are those of the clauses of word w that pass the test.
pub record Passing (k : ℕ) (test : ℕ → Bool) (w z : ℕ) : Type 0 where
  pub each : (i : ℕ) → i < k → i / lanes ≡ w → bit z (i % lanes) ≡ test i
  pub rest : (i : ℕ) → k ≤ i → i / lanes ≡ w → bit z (i % lanes) ≡ false

-- r is the number of the first clause from number i on that passes the test, or k where none does.
pub record First (i k : ℕ) (test : ℕ → Bool) (r : ℕ) : Type 0 where
  pub within : r ≤ k
  pub before : (j : ℕ) → i ≤ j → j < r → test j ≡ false
  pub here : r < k → test r ≡ true

-- The same of an answer: the number of a clause, or none.
abbrev pub FirstFound : ℕ → ℕ → (ℕ → Bool) → Option ℕ → Type 0
FirstFound i k test r = MatchOption r (First i k test k) (λ j. (j < k) × First i k test j)

-- Tests of a clause's two numbers: the first is 0; both are; the first is 0 and the second at most 2; the first is 1 and the second 0.
abbrev pub first_zero : ℕ → ℕ → Bool
first_zero a b = eqb a 0

abbrev pub both_zero : ℕ → ℕ → Bool
both_zero a b = eqb a 0 && eqb b 0

abbrev pub zero_few : ℕ → ℕ → Bool
zero_few a b = eqb a 0 && leb b 2

abbrev pub one_zero : ℕ → ℕ → Bool
one_zero a b = eqb a 1 && eqb b 0

-- the test of clause i
abbrev pub passes : (ℕ → ℕ → Bool) → List ℕ → (Clause → ℕ) → (Clause → ℕ) → ℕ → Bool
passes t cells count count' i = t (count (clause_at cells i)) (count' (clause_at cells i))

-- the test of each kind of clauses
unfoldable pub test_of : Kind → ℕ → ℕ → Bool
test_of Zero = first_zero
test_of Few = zero_few
test_of Lone = one_zero
test_of Both = both_zero

-- clause i is of the kind, and holds the literal, where the word stands for one
abbrev pub wanted : Kind → ℕ → List ℕ → (Clause → ℕ) → (Clause → ℕ) → ℕ → Bool
wanted kind x cells count count' i = passes (test_of kind) cells count count' i && (eqb x 0 || holds x (clause_at cells i))

-- The lanes of z are those of word w in which the numbers of two counters pass the test.
pub record Told (t : ℕ → ℕ → Bool) (planes : List ℕ) (q q' w z : ℕ) : Type 0 where
  pub each : (j : ℕ) → j < lanes → bit z j ≡ t (count_in (planes_at planes (q + w)) j) (count_in (planes_at planes (q' + w)) j)

-- ---- the clauses that hold a literal

-- lane i of the row of the literal with the word w
unfoldable pub lane : List ℕ → ℕ → ℕ → Bool
lane occ w i = bit (get_or occ (w * row_words + i / lanes) 0) (i % lanes)

-- the set of variables of clause i
unfoldable pub set_at : List ℕ → ℕ → ℕ
set_at occ i = get_or occ (sets_from + 2 * i + 1) 0 * 2 ^ 64 + get_or occ (sets_from + 2 * i) 0

-- a set has just the variables that the clause names
abbrev pub NamedBy : ℕ → Clause → Type 0
NamedBy m c = (v : ℕ) → v < width → bit m v ≡ names (v + 1) c

-- The occurrence table: in the row of each literal the lanes of the clauses that hold it are set, and each clause has its set.
pub record Occurs (k : ℕ) (cells occ : List ℕ) : Type 0 where
  pub each : (w i : ℕ) → w < row_count → i < lane_count → lane occ w i ≡ (ltb i k && holds w (clause_at cells i))
  pub sets : (i v : ℕ) → i < k → v < width → bit (set_at occ i) v ≡ names (v + 1) (clause_at cells i)

-- The table after beside the one before: lane i is set too in the rows of the literals of c.
pub record Marked (i : ℕ) (c : Clause) (before after : List ℕ) : Type 0 where
  pub each : (w u : ℕ) → w < row_count → u < lane_count → lane after w u ≡ (lane before w u || (holds w c && eqb u i))
  pub sets : (u : ℕ) → set_at after u ≡ set_at before u

-- The table after beside the one before: clause i has the set m, and all else is as it was.
pub record SetStored (i m : ℕ) (before after : List ℕ) : Type 0 where
  pub here : set_at after i ≡ m
  pub other : (u : ℕ) → (u ≡ i → ⊥) → set_at after u ≡ set_at before u
  pub rows : (w u : ℕ) → w < row_count → u < lane_count → lane after w u ≡ lane before w u

-- ---- one up in a row, one down in another

-- In each lane q has one more than p where up is set and one less where down is set, if that is a number that four digits hold.
pub record Moved (up down : ℕ) (p q : Planes) : Type 0 where
  pub each : (j n : ℕ) → n < 16 → n + digit (bit down j) ≡ count_in p j + digit (bit up j) → count_in q j ≡ n

-- The lanes of z are those in which that number is 0, if up and down share no lane.
pub record ZerosAfter (up down : ℕ) (p : Planes) (z : ℕ) : Type 0 where
  pub each : (j n : ℕ) → j < lanes → digit (bit up j) + digit (bit down j) ≤ 1 →
      n + digit (bit down j) ≡ count_in p j + digit (bit up j) → bit z j ≡ eqb n 0

-- The cells after beside those before: the slot has the planes p, and every other slot what it had.
pub record Stored (s : ℕ) (p : Planes) (before after : List ℕ) : Type 0 where
  pub size : length after ≡ plane_cells
  pub here : planes_at after s ≡ p
  pub other : (v : ℕ) → v < slots → (v ≡ s → ⊥) → planes_at after v ≡ planes_at before v

-- Word w of a counter, by the rows of two literals: the slot s moves from `from` to `after`, which was `before`.
pub record ShiftedSlot (w s up down : ℕ) (occ from before after : List ℕ) : Type 0 where
  pub word : Planes
  pub moved : Moved (get_or occ (up * row_words + w) 0) (get_or occ (down * row_words + w) 0) (planes_at from s) word
  pub stored : Stored s word before after

-- All lanes of k clauses in the counter q, by the rows of two literals.
pub record Shifted (k q up down : ℕ) (occ from to : List ℕ) : Type 0 where
  pub each : (i n : ℕ) → i < lanes * words_of k → n < 16 →
      n + digit (lane occ down i) ≡ count_at from q i + digit (lane occ up i) → count_at to q i ≡ n

-- Whether no clause is left with 0 in the first counter, whatever is counted, where the rows move the numbers of the clauses from
-- `count` to `next`.
pub record AboveZero (k up down : ℕ) (occ from : List ℕ) (r : Bool) : Type 0 where
  pub answer : (cells : List ℕ) (count next : Clause → ℕ) → Occurs k cells occ → Counts k cells first_counter count from →
      ((i : ℕ) → i < k → Steps up down count next (clause_at cells i)) → r ≡ every (λ c. not (eqb (next c) 0)) (held k cells)

-- ---- the start

-- in how many of the rows of the literals of the first v variables with this sign lane i is set
unfoldable pub lane_sum : List ℕ → Bool → ℕ → ℕ → ℕ
lane_sum occ b i zero = 0
lane_sum occ b i (suc v) = lane_sum occ b i v + digit (lane occ (sign_word b v) i)

-- Word w at the start: that number in the lane of each clause, and one more in the lanes past the last clause.
pub record Summed (n k : ℕ) (occ : List ℕ) (b : Bool) (w : ℕ) (p : Planes) : Type 0 where
  pub each : (j : ℕ) → j < lanes → digit (leb k (lanes * w + j)) + lane_sum occ b (lanes * w + j) n < 16 →
      count_in p j ≡ digit (leb k (lanes * w + j)) + lane_sum occ b (lanes * w + j) n

-- The counter q holds how many literals of each clause have the sign given.
pub record Starts (n k : ℕ) (occ : List ℕ) (q : ℕ) (b : Bool) (planes : List ℕ) : Type 0 where
  pub counts : (cells : List ℕ) → Table n k cells → Occurs k cells occ → Counts k cells q (sign_count b) planes
