-- The laws of the start: the lanes of the literals of one sign add up to the counts of all clauses.
use Rattle.std.specs.Prelude.{◌≡◌, Bool, true, false, ◌&&◌, List, leb, get_or}
use Rattle.std.proofs.Math.Path.{refl, sym, ap}
use Rattle.std.proofs.Common.{◌∙◌, subst, add-zero, zero-add, add-one, eqb-true, le-leb, leb-true, leb-false}
use Rattle.std.proofs.Math.Bool.{beq, and-true, and-false}
use Prim.Native.Nat.{ℕ, zero, suc, ◌+◌, ◌*◌, ◌/◌, ◌%◌, ◌≤◌, ◌<◌}
use native.Mathlib.Omega.{arith}
use Rattle.std.proofs.lemmas.Bool.{eqb-false, lt-leb}
use Rattle.words.specs.Lists.{count}
use Rattle.words.specs.Bits.{bit, width}
use Rattle.words.proofs.BitLaws.{bit_zero, digit}
use Rattle.words.proofs.CountLaws.{count_adds, count_same, count_none}
use Rattle.formula.specs.Formula.{Literal, WellFormedClause, literal_word}
use Rattle.formula.specs.Machine.{Table, clause_at}
use Rattle.planes.specs.declared.Planes.{Planes}
use Rattle.planes.specs.Machine.{lanes, row_words, lane_count, row_count, words_of, count_in, planes_at, count_at, Counts, lane, Occurs, Moved, lane_sum, Summed}
use Rattle.formula.specs.Counts.{sign_count, sign_word}
use Rattle.formula.proofs.CountLaws.{is, names?, holds_digit, sign_small}
use Rattle.formula.proofs.SignLaws.{sign_split}
use Rattle.planes.proofs.CountsLaws.{lane_held, lane_past}

-- ---- the literals of the first v variables with one sign

-- the literal of variable v + 1 with the sign b names a row of the table
pub row_below : (b : Bool) (v : ℕ) → v < width → sign_word b v < row_count
unfolding literal_word
row_below true v h = omega arith
row_below false v h = omega arith

-- l has the sign b, and its variable is one of the first v
abbrev up_to : Bool → ℕ → Literal → Bool
up_to b v l = beq l.positive b && leb l.variable v

literal_joins : (b : Bool) (v : ℕ) (l : Literal) →
    digit (up_to b (suc v) l) ≡ digit (up_to b v l) + digit (is (sign_word b v) l)
literal_joins b v l = rw (sign_split b v l, add-one v) (go (names? (suc v) l) refl)
  where
    s : Bool
    s = beq l.positive b

    joins : (t : Bool) → digit (t && true) ≡ digit (t && false) + digit (t && true)
    joins true = refl
    joins false = refl

    earlier : (names? (suc v) l ≡ false) → (t : Bool) → leb l.variable v ≡ t → leb l.variable (suc v) ≡ t
    earlier e true h = le-leb l.variable (suc v) (omega (arith, leb-true l.variable v h))
    earlier e false h =
        let apart : (l.variable ≡ suc v → ⊥) = eqb-false l.variable (suc v) e in
        lt-leb l.variable (suc v) (omega (arith, leb-false l.variable v h))

    go : (t : Bool) → names? (suc v) l ≡ t → digit (up_to b (suc v) l) ≡ digit (up_to b v l) + digit (s && t)
    go true e =
        let here : l.variable ≡ suc v = eqb-true l.variable (suc v) e in
        rw (le-leb l.variable (suc v) (omega arith), lt-leb l.variable v (omega arith)) (joins s)
    go false e = rw (earlier e (leb l.variable v) refl, and-false s) (sym (add-zero (digit (up_to b v l))))

-- ---- the sum of a lane

module _ {k : ℕ} {cells occ : List ℕ} (o : Occurs k cells occ) (room : k ≤ lane_count) (b : Bool) (i : ℕ) where
  sum_up_to : {n : ℕ} → WellFormedClause n (clause_at cells i) → i < k → (v : ℕ) → v ≤ width →
      lane_sum occ b i v ≡ count (up_to b v) (clause_at cells i)
  unfolding lane_sum
  sum_up_to f h zero l =
      sym
      (count_same (up_to b 0) (λ x. false) (clause_at cells i)
      (λ x y. rw (lt-leb x.variable 0 (f.known x y).0) (and-false (beq x.positive b)))
      ∙ count_none (clause_at cells i))
  sum_up_to f h (suc v) l =
      let c = clause_at cells i in
      let w = sign_word b v in
      omega (
        arith,
        sum_up_to f h v (omega arith),
        ap digit (lane_held o w i (row_below b v l) h room),
        holds_digit w c f,
        count_adds (up_to b v) (up_to b (suc v)) (is w) c (λ x y. literal_joins b v x),
      )

  sum_held : {n : ℕ} → WellFormedClause n (clause_at cells i) → i < k → n ≤ width →
      lane_sum occ b i n ≡ sign_count b (clause_at cells i)
  unfolding sign_count
  sum_held {n} f h l =
      sum_up_to f h n l
      ∙ count_same (up_to b n) (λ l. beq l.positive b) (clause_at cells i)
      (λ x y. rw (le-leb x.variable n (f.known x y).1) (and-true (beq x.positive b)))

  sum_past : k ≤ i → i < lane_count → (v : ℕ) → v ≤ width → lane_sum occ b i v ≡ 0
  unfolding lane_sum
  sum_past h r zero l = refl
  sum_past h r (suc v) l = rw (sum_past h r v (omega arith), lane_past o (sign_word b v) i (row_below b v l) h r)

-- The words of a counter that are summed up hold the counts.
pub start_counts : (n k : ℕ) (occ : List ℕ) (q : ℕ) (b : Bool) (planes : List ℕ) → n ≤ width → k ≤ lane_count →
    ((w : ℕ) → w < words_of k → Summed n k occ b w (planes_at planes (q + w))) →
    (cells : List ℕ) → Table n k cells → Occurs k cells occ → Counts k cells q (sign_count b) planes
unfolding count_at
start_counts n k occ q b planes small room summed cells t o = record { each = held_lane; rest = past_lane }
  where
    at : (i : ℕ) → i < lanes * words_of k → digit (leb k i) + lane_sum occ b i n < 16 →
        count_at planes q i ≡ digit (leb k i) + lane_sum occ b i n
    at i h =
        let back : lanes * (i / lanes) + i % lanes ≡ i = omega arith in
        rw back at ((summed (i / lanes) (omega arith)).each (i % lanes) (omega arith))

    held_lane : (i : ℕ) → i < k → count_at planes q i ≡ sign_count b (clause_at cells i)
    held_lane i h =
        let sum : digit (leb k i) + lane_sum occ b i n ≡ sign_count b (clause_at cells i) =
        rw (lt-leb k i h, sum_held o room b i (t.each i h) h small) (zero-add _) in
        at i (omega arith) (rw sum (sign_small b (clause_at cells i) (t.each i h))) ∙ sum

    past_lane : (i : ℕ) → k ≤ i → i < lanes * words_of k → count_at planes q i ≡ 1
    past_lane i h l =
        let sum : digit (leb k i) + lane_sum occ b i n ≡ 1 = rw (le-leb k i h, sum_past o room b i h (omega arith) n small) in
        at i l (rw sum (omega arith)) ∙ sum

-- ---- one turn of the machine's loop

-- Word w of the planes, with the literals of the first v variables.
pub summed_none : (k : ℕ) (occ : List ℕ) (b : Bool) (w z : ℕ) → ((j : ℕ) → j < lanes → bit z j ≡ leb k (lanes * w + j)) →
    Summed 0 k occ b w (record { p0 = z; p1 = 0; p2 = 0; p3 = 0 })
unfolding lane_sum count_in
summed_none k occ b w z past = record { each = λ j l h. rw (past j l, bit_zero j) (omega arith) }

pub summed_more : (v k : ℕ) (occ : List ℕ) (b : Bool) (w : ℕ) (p q : Planes) → Summed v k occ b w p →
    Moved (get_or occ (sign_word b v * row_words + w) 0) 0 p q → Summed (v + 1) k occ b w q
unfolding lane_sum lane
summed_more v k occ b w p q s moved =
    record {
      each = λ j l h. subst (λ (x : ℕ). sum j x < 16 → count_in q j ≡ sum j x) (sym (add-one v)) (turn j l) h;
    }
  where
    sum : ℕ → ℕ → ℕ
    sum j x = digit (leb k (lanes * w + j)) + lane_sum occ b (lanes * w + j) x

    turn : (j : ℕ) → j < lanes → sum j (suc v) < 16 → count_in q j ≡ sum j (suc v)
    turn j l h =
        let high : (lanes * w + j) / lanes ≡ w = omega arith in
        let low : (lanes * w + j) % lanes ≡ j = omega arith in
        let row : lane occ (sign_word b v) (lanes * w + j) ≡ bit (get_or occ (sign_word b v * row_words + w) 0) j = rw (high, low) in
        moved.each j _ h (omega (arith, ap digit (bit_zero j), ap digit row, s.each j l (omega arith)))
