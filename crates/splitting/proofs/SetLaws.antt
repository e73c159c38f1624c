-- The laws of the machine's sets of clauses: what they hold at the start, how a variable moves them, and what a test of them tells.
use Rattle.std.specs.Prelude.{◌≡◌, Bool, true, false, ◌&&◌, ◌||◌, List, eqb, leb, ltb, length, get_or, replicate}
use Rattle.std.proofs.Math.Path.{refl, ap}
use Rattle.std.proofs.Common.{sym, ap₂, ◌∙◌, add-one, get_or-set_same, get_or-set_other}
use Rattle.std.proofs.Math.Bool.{not, beq, or-false, and-false}
use Prim.Native.Nat.{ℕ, suc, ◌+◌, ◌-◌, ◌*◌, ◌/◌, ◌%◌, ◌^◌, ◌≤◌, ◌<◌}
use native.Mathlib.Omega.{arith}
use Rattle.std.specs.Int.Bits.{bit_or}
use Rattle.std.proofs.Math.ListN.{set}
use borrow.Author.Tests.{eqb-true, eqb-false, le-leb, lt-leb, leb-true, leb-false, lt-ltb, le-ltb, ltb-true}
use Rattle.words.specs.Lists.{some, every}
use Rattle.words.proofs.ListLaws.{in_some, not_every, some_or, refute, some_in, and_left}
use Rattle.words.proofs.CountLaws.{some_same}
use Rattle.words.specs.Bits.{bit, width}
use Rattle.words.proofs.BitLaws.{bit_zero, bit-bit_or, bit_not}
use Rattle.formula.specs.Formula.{Literal, Clause, WellFormedClause, bit_of, met, literal_word, literal_of}
use Rattle.formula.specs.Counts.{holds, sign_word}
use Rattle.formula.proofs.CountLaws.{is, is_split, names?}
use Rattle.formula.proofs.ParseEncode.{literal_word_lem}
use Rattle.formula.specs.Machine.{Table, clause_at, held}
use Rattle.formula.proofs.TableLaws.{held_in, table_known}
use Rattle.formula.proofs.HeldLaws.{held_none}
use Rattle.planes.specs.Machine.{lanes, row_words, row_count, words_of, lane, Passing, First, Occurs}
use Rattle.planes.proofs.LaneLaws.{same_order}
use Rattle.planes.proofs.CountsLaws.{lane_held}
use Rattle.planes.proofs.OccurLaws.{zeros_at}
use Rattle.splitting.specs.Splitting.{Node, start, is_set, is_sure, set_next}
use Rattle.splitting.proofs.SplittingLaws.{all_set, next_below, next_here}
use Rattle.splitting.specs.Machine.{is_in, All, Without, Unmet, is_open, Opens, some_closed}

-- ---- one literal

-- a literal has the word of x just where it has its variable and its sign
word_is : (x l : Literal) → is (literal_word x) l ≡ (beq l.positive x.positive && names? x.variable l)
unfolding literal_of
word_is x l =
    is_split (literal_word x) l ∙ ap (λ (y : Literal). beq l.positive y.positive && names? y.variable l) (literal_word_lem x)

-- one variable more among the first makes no difference to any other
is_set_other : (j : ℕ) (l : Literal) → (l.variable ≡ j + 1 → ⊥) → is_set (suc j) l ≡ is_set j l
unfolding is_set
is_set_other j l d = same_order l.variable (suc j) l.variable j (λ h. omega arith) (λ h. omega arith)

module _ (j : ℕ) (l : Literal) (e : l.variable ≡ j + 1) where
  is_set_here : is_set (suc j) l ≡ true
  unfolding is_set
  is_set_here = le-leb l.variable (suc j) (omega arith)

  is_set_before : is_set j l ≡ false
  unfolding is_set
  is_set_before = lt-leb l.variable j (omega arith)

-- a variable is beyond the first j where it is beyond one more, or is the next one
open_literal : (j : ℕ) (l : Literal) → not (is_set j l) ≡ ((not (is_set (suc j) l) || is (sign_word true j) l) || is (sign_word false j) l)
open_literal j l =
    rw (word_is (record { variable = j + 1; positive = true }) l, word_is (record { variable = j + 1; positive = false }) l)
    (go (names? (j + 1) l) refl)
  where
    go : (b : Bool) → eqb l.variable (j + 1) ≡ b →
        not (is_set j l) ≡ ((not (is_set (suc j) l) || (beq l.positive true && b)) || (beq l.positive false && b))
    go true q =
        let e = eqb-true l.variable (j + 1) q in
        rw (is_set_here j l e, is_set_before j l e) (sign l.positive)
      where
        sign : (s : Bool) → true ≡ ((false || (beq s true && true)) || (beq s false && true))
        sign true = refl
        sign false = refl
    go false q =
        rw (is_set_other j l (eqb-false l.variable (j + 1) q), and-false, and-false, or-false, or-false)

open_next : (j : ℕ) (c : Clause) → is_open j c ≡ ((is_open (suc j) c || holds (sign_word true j) c) || holds (sign_word false j) c)
unfolding holds
open_next j c =
    not_every (is_set j) c
    ∙ some_same _ _ c (λ l i. open_literal j l)
    ∙ some_or _ (is (sign_word false j)) c
    ∙ ap (λ (b : Bool). b || some (is (sign_word false j)) c)
    (some_or _ (is (sign_word true j)) c ∙ ap (λ (b : Bool). b || some (is (sign_word true j)) c) (sym (not_every (is_set (suc j)) c)))

-- the words of the literals of a variable have rows
pub sign_row : (b : Bool) (v : ℕ) → v < width → sign_word b v < row_count
unfolding literal_word
sign_row true v h = omega arith
sign_row false v h = omega arith

-- ---- the next variable set

module _ (x : Node) (b : Bool) (small : x.assignment < 2 ^ x.set) where
  -- a literal is met among the set variables if it was before, or is the one that the next variable meets
  sure_literal : (l : Literal) → 1 ≤ l.variable →
      (is_set (suc x.set) l && met (set_next x b).assignment l)
      ≡ ((is_set x.set l && met x.assignment l) || is (sign_word b x.set) l)
  unfolding met bit_of
  sure_literal l above = rw (word_is (record { variable = x.set + 1; positive = b }) l) (go (names? (x.set + 1) l) refl)
    where
      met_here : l.variable ≡ x.set + 1 → met (set_next x b).assignment l ≡ beq b l.positive
      met_here e =
          let at : l.variable - 1 ≡ x.set = omega arith in
          ap (λ (y : Bool). beq y l.positive) (ap (bit (set_next x b).assignment) at ∙ next_here x b small)

      met_other : is_set x.set l ≡ true → met (set_next x b).assignment l ≡ met x.assignment l
      met_other e =
          let low : l.variable ≤ x.set = unfold is_set in leb-true l.variable x.set e in
          ap (λ (y : Bool). beq y l.positive) (next_below x b (l.variable - 1) (omega arith))

      sign : (s t : Bool) → beq s t ≡ (beq t s && true)
      sign true true = refl
      sign true false = refl
      sign false true = refl
      sign false false = refl

      among : (s : Bool) → is_set x.set l ≡ s → (s && met (set_next x b).assignment l) ≡ (s && met x.assignment l)
      among true q = met_other q
      among false q = refl

      go : (t : Bool) → eqb l.variable (x.set + 1) ≡ t →
          (is_set (suc x.set) l && met (set_next x b).assignment l)
          ≡ ((is_set x.set l && met x.assignment l) || (beq l.positive b && t))
      go true q =
          let e = eqb-true l.variable (x.set + 1) q in
          rw (is_set_here x.set l e, is_set_before x.set l e) (met_here e ∙ sign b l.positive)
      go false q =
          rw (is_set_other x.set l (eqb-false l.variable (x.set + 1) q), and-false, or-false) (among (is_set x.set l) refl)

  sure_next : {n : ℕ} (c : Clause) → WellFormedClause n c → is_sure (set_next x b) c ≡ (is_sure x c || holds (sign_word b x.set) c)
  unfolding is_sure holds set_next
  sure_next c f =
      some_same _ _ c (λ l i. sure_literal l (f.known l i).0) ∙ some_or _ (is (sign_word b x.set)) c

-- ---- the sets of clauses

-- a word's lanes that are not from number k on
pub not_from : (k w j y : ℕ) → y < 2 ^ lanes → j < lanes → bit y j ≡ leb k (lanes * w + j) →
    bit (2 ^ lanes - 1 - y) j ≡ ltb (lanes * w + j) k
not_from k w j y fits l e = bit_not lanes y j fits l ∙ ap not e ∙ go (leb k (lanes * w + j)) refl
  where
    go : (b : Bool) → leb k (lanes * w + j) ≡ b → not b ≡ ltb (lanes * w + j) k
    go true q = sym (le-ltb (lanes * w + j) k (leb-true k (lanes * w + j) q))
    go false q = sym (lt-ltb (lanes * w + j) k (leb-false k (lanes * w + j) q))

-- a word more is stored, and those before it are as they were
pub word_stored : (P : ℕ → ℕ → Type 0) (xs : List ℕ) (w y : ℕ) → w < length xs → ((v : ℕ) → v < w → P v (get_or xs v 0)) → P w y →
    (v : ℕ) → v < w + 1 → P v (get_or (set xs w y) v 0)
word_stored P xs w y room before here v l = go (eqb w v) refl
  where
    go : (b : Bool) → eqb w v ≡ b → P v (get_or (set xs w y) v 0)
    go true q = let e = eqb-true w v q in rw (← e, get_or-set_same xs w y 0 room) here
    go false q =
        let apart = eqb-false w v q in
        rw (get_or-set_other xs w v y 0 (λ e. apart (sym e))) (before v (omega arith))

-- with no variable set no clause is met
pub unmet_start : {n k : ℕ} {cells set : List ℕ} → Table n k cells → All k set → Unmet k cells start set
unfolding is_sure is_set
unmet_start {k = k} {cells = cells} table all = record { each = λ i l. all.each i l ∙ go i (ltb i k) refl }
  where
    unsure : (i : ℕ) → i < k → is_sure start (clause_at cells i) ≡ false
    unsure i h =
        refute _ (λ e.
        let (l, j, q) = some_in _ (clause_at cells i) e in
        let low = leb-true l.variable 0 (and_left (leb l.variable 0) _ q) in
        omega (arith, ((table.each i h).known l j).0))

    go : (i : ℕ) (b : Bool) → ltb i k ≡ b → b ≡ (b && not (is_sure start (clause_at cells i)))
    go i true q = rw (unsure i (ltb-true i k q))
    go i false q = refl

-- and after the next one those are met that hold its literal.
pub unmet_next : {n k : ℕ} {cells occ from to : List ℕ} (x : Node) (b : Bool) → x.assignment < 2 ^ x.set → Table n k cells →
    Occurs k cells occ → sign_word b x.set < row_count → Unmet k cells x from → Without k (sign_word b x.set) occ from to →
    Unmet k cells (set_next x b) to
unmet_next {k = k} {cells = cells} {occ = occ} x b small table o row unmet w =
    record { each = λ i l. w.each i l ∙ ap (λ (t : Bool). t && not (lane occ (sign_word b x.set) i)) (unmet.each i l) ∙ go i (ltb i k) refl }
  where
    both : (s h : Bool) → (not s && not h) ≡ not (s || h)
    both true h = refl
    both false h = refl

    go : (i : ℕ) (t : Bool) → ltb i k ≡ t →
        ((t && not (is_sure x (clause_at cells i))) && not (lane occ (sign_word b x.set) i)) ≡ (t && not (is_sure (set_next x b) (clause_at cells i)))
    go i true q =
        let h = ltb-true i k q in
        rw (lane_held o (sign_word b x.set) i row h table.room, sure_next x b small (clause_at cells i) (table.each i h))
        (both (is_sure x (clause_at cells i)) _)
    go i false q = refl

-- ---- the rows of open clauses

-- the rows from a cell on are right
abbrev pub OpensFrom : ℕ → ℕ → List ℕ → ℕ → List ℕ → Type 0
OpensFrom n k cells at rows =
    (j i : ℕ) → j ≤ n → i < k → at ≤ j * row_words + i / lanes → lane rows j i ≡ is_open j (clause_at cells i)

-- with all n variables set no clause is open
open_none : {n k : ℕ} {cells : List ℕ} → Table n k cells → (i : ℕ) → i < k → is_open n (clause_at cells i) ≡ false
open_none {n} {k} {cells} table i h = ap not (all_set n (held k cells) (table_known table) (clause_at cells i) (held_in k cells i h))

pub opens_start : {n k : ℕ} {cells : List ℕ} (size : ℕ) → Table n k cells → OpensFrom n k cells (n * row_words) (replicate size 0)
unfolding lane
opens_start {n} {k} {cells} size table j i l h f =
    let last : j ≡ n = omega (arith, table.room) in
    rw (zeros_at size (j * row_words + i / lanes)) (bit_zero (i % lanes) ∙ rw last (sym (open_none table i h)))

module _ {n k : ℕ} {cells occ : List ℕ} (rows : List ℕ) (at : ℕ) (table : Table n k cells) (o : Occurs k cells occ) (inside : at < n * row_words)
    (room : at < length rows) (small : n ≤ width) (before : OpensFrom n k cells (at + 1) rows) where
  abbrev positive : ℕ
  positive = 2 * (at / row_words + 1) * row_words + at % row_words

  abbrev word : ℕ
  word = bit_or (bit_or (get_or rows (at + row_words) 0) (get_or occ positive 0)) (get_or occ (positive + row_words) 0)

  pub opens_step : OpensFrom n k cells at (set rows at word)
  unfolding lane literal_word
  opens_step j i l h f = go (eqb at (j * row_words + i / lanes)) refl
    where
      cell : ℕ
      cell = j * row_words + i / lanes

      go : (b : Bool) → eqb at cell ≡ b → bit (get_or (set rows at word) cell 0) (i % lanes) ≡ is_open j (clause_at cells i)
      go true q =
          let e : at ≡ cell = eqb-true at cell q in
          let v = i / lanes in
          let left : j < n = omega (arith, table.room) in
          let row : (b : Bool) → sign_word b j < row_count = λ b. sign_row b j (omega arith) in
          let up : at + row_words ≡ (j + 1) * row_words + v = omega (arith, table.room) in
          let plus : positive ≡ sign_word true j * row_words + v = omega (arith, table.room) in
          let minus : positive + row_words ≡ sign_word false j * row_words + v = omega (arith, table.room) in
          let next = before (j + 1) i (omega (arith, table.room)) h (omega (arith, table.room)) in
          let u = i % lanes in
          let c = clause_at cells i in
          let here : bit (get_or (set rows at word) cell 0) u ≡ bit word u =
          ap (λ (y : ℕ). bit (get_or (set rows at word) y 0) u) (sym e) ∙ ap (λ (y : ℕ). bit y u) (get_or-set_same rows at word 0 room) in
          let first : bit (get_or rows (at + row_words) 0) u ≡ is_open (suc j) c =
          ap (λ (y : ℕ). bit (get_or rows y 0) u) up ∙ next ∙ ap (λ (y : ℕ). is_open y c) (add-one j) in
          let second : bit (get_or occ positive 0) u ≡ holds (sign_word true j) c =
          ap (λ (y : ℕ). bit (get_or occ y 0) u) plus ∙ lane_held o (sign_word true j) i (row true) h table.room in
          let third : bit (get_or occ (positive + row_words) 0) u ≡ holds (sign_word false j) c =
          ap (λ (y : ℕ). bit (get_or occ y 0) u) minus ∙ lane_held o (sign_word false j) i (row false) h table.room in
          here ∙ bit-bit_or _ _ u ∙ ap₂ ◌||◌ (bit-bit_or _ _ u ∙ ap₂ ◌||◌ first second) third ∙ sym (open_next j c)
      go false q =
          let apart = eqb-false at cell q in
          rw (get_or-set_other rows at cell word 0 (λ e. apart (sym e))) (before j i l h (omega arith))

-- ---- a test of a set

-- clause i has only variables of the first j, and no met literal among the set ones
abbrev pub closed_at : List ℕ → ℕ → Node → ℕ → Bool
closed_at cells j x i = every (is_set j) (clause_at cells i) && not (is_sure x (clause_at cells i))

module _ {n k : ℕ} {cells rows set : List ℕ} (j : ℕ) (x : Node) (within : j ≤ n) (opens : Opens n k cells rows) (unmet : Unmet k cells x set) where
  -- the clauses of a word that are in the set and not in the row
  pub closed_passing : (w z : ℕ) → w < words_of k →
      ((u : ℕ) → u < lanes → bit z u ≡ (bit (get_or set w 0) u && not (bit (get_or rows (j * row_words + w) 0) u))) →
      Passing k (closed_at cells j x) w z
  unfolding lane is_in
  closed_passing w z l lanes-of =
      record {
        each = λ i h e.
            here i e ∙ rw (unmet.each i (omega arith), lt-ltb i k h, opens.each j i within h)
            (swap (is_sure x (clause_at cells i)) (every (is_set j) (clause_at cells i)));
        rest = λ i h e. here i e ∙ rw (unmet.each i (omega arith), le-ltb i k h);
      }
    where
      here : (i : ℕ) → i / lanes ≡ w → bit z (i % lanes) ≡ (is_in set i && not (lane rows j i))
      here i e = rw e (lanes-of (i % lanes) (omega arith))

      swap : (s c : Bool) → (not s && not (not c)) ≡ (c && not s)
      swap true true = refl
      swap true false = refl
      swap false true = refl
      swap false false = refl

-- the first of them tells whether there is one
pub closed_some : {k : ℕ} (cells : List ℕ) (j : ℕ) (x : Node) (r : ℕ) → First 0 k (closed_at cells j x) r → r < k →
    true ≡ some_closed k cells j x
closed_some {k} cells j x r f h = sym (in_some _ (held k cells) (clause_at cells r) (held_in k cells r h) (f.here h))

pub closed_none : {k : ℕ} (cells : List ℕ) (j : ℕ) (x : Node) → First 0 k (closed_at cells j x) k → false ≡ some_closed k cells j x
closed_none {k} cells j x f = sym (held_none k cells _ (λ i h. f.before i (omega arith) h))
