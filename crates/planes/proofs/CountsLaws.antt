-- The laws of counts in planes: the clauses of a word that pass a test, and the first of them; and two rows that move
-- the numbers of all clauses.
use Rattle.std.specs.Prelude.{◌≡◌, refl, Bool, true, false, Option, None, Some, not, ◌&&◌, List, ℕ, ◌+◌, ◌*◌, ◌/◌, ◌%◌, ◌^◌, ◌≤◌, ◌<◌, eqb, leb, ltb, get_or}
use Rattle.std.proofs.Common.{sym, ap, ap₂, ◌∙◌, true≢false, arith, lt-ltb, le-ltb, le-leb, ltb-true, ltb-false}
use Rattle.std.proofs.Math.Bool.{and-true}
use Rattle.std.specs.Int.Bits.{bit_and}
use Rattle.std.specs.Int.Count.{count_trailing_zeros}
use Rattle.std.proofs.lemmas.Nat.{trailing_le}
use Rattle.words.specs.Lists.{every}
use Rattle.words.proofs.ListLaws.{and_left}
use Rattle.words.specs.Bits.{bit, width}
use Rattle.words.proofs.BitLaws.{digit, bit_zero, trailing_below, trailing_at}
use Rattle.formula.specs.declared.literal.Literal.{Literal}
use Rattle.formula.specs.Formula.{Clause}
use Rattle.formula.specs.Counts.{holds, opposite, Steps}
use Rattle.formula.proofs.CountLaws.{opposite_lt}
use Rattle.formula.specs.Machine.{IsLiteral, clause_at, held}
use Rattle.formula.proofs.HeldLaws.{held_every, held_fails}
use Rattle.planes.specs.declared.Planes.{Planes}
use Rattle.planes.specs.declared.Kind.{Kind}
use Rattle.planes.specs.declared.Kind.TheVariants.{Zero, Few, Lone, Both}
use Rattle.planes.specs.Machine.{lanes, row_words, lane_count, row_count, word_of, words_of, count_at, planes_at, Counts, Passing, First, passes, test_of, Told, lane, Occurs, Moved, ZerosAfter, Shifted}
use Rattle.planes.proofs.LaneLaws.{bit-bit_and}

-- ---- what is counted

-- it may be said in another way
pub counts_same : {k : ℕ} {cells : List ℕ} {q : ℕ} {planes : List ℕ} {f g : Clause → ℕ} → ((c : Clause) → f c ≡ g c) →
    Counts k cells q f planes → Counts k cells q g planes
counts_same e h = record { each = λ i l. h.each i l ∙ e _; rest = h.rest }

-- ---- the lanes of a literal

-- the rows of a literal and of its opposite
pub literal_rows : (literal : ℕ) → IsLiteral literal → (literal < row_count) × (opposite literal < row_count)
literal_rows literal h = (h.1, opposite_lt width literal h.1)

pub word_row : (literal : Option Literal) → word_of literal < row_count
word_row None = omega arith
word_row (Some l) = l.known.1

-- of a clause, and past the last one
module _ {k : ℕ} {cells occ : List ℕ} (o : Occurs k cells occ) (w i : ℕ) (l : w < row_count) where
  pub lane_held : i < k → k ≤ lane_count → lane occ w i ≡ holds w (clause_at cells i)
  lane_held h r = o.each w i l (omega arith) ∙ rw (lt-ltb i k h)

  pub lane_past : k ≤ i → i < lane_count → lane occ w i ≡ false
  lane_past h r = o.each w i l r ∙ rw (le-ltb i k h)

  -- a clause's lane in word v of the row
  pub bit_held : {v : ℕ} → i < k → k ≤ lane_count → i / lanes ≡ v →
      bit (get_or occ (w * row_words + v) 0) (i % lanes) ≡ holds w (clause_at cells i)
  unfolding lane
  bit_held h r e = rw e at (lane_held h r)

-- ---- the clauses of a word that pass a test

module _ {k : ℕ} {test : ℕ → Bool} {w z : ℕ} (p : Passing k test w z) where
  -- a lane that is set belongs to a clause
  lane_used : (i : ℕ) → i / lanes ≡ w → bit z (i % lanes) ≡ true → i < k
  lane_used i e s = go (ltb i k) refl
    where
      go : (b : Bool) → ltb i k ≡ b → i < k
      go true h = ltb-true i k h
      go false h = absurd (true≢false (sym s ∙ p.rest i (ltb-false i k h) e))

  -- lanes of the word below lane t that are not set belong to clauses that fail
  fails_below : (t : ℕ) → t ≤ lanes → ((j : ℕ) → j < t → bit z j ≡ false) →
      (i : ℕ) → lanes * w ≤ i → i < lanes * w + t → i < k → test i ≡ false
  fails_below t r clear i l h inside = sym (p.each i inside (omega arith)) ∙ clear (i % lanes) (omega arith)

  -- With no lane set, no clause of the word passes,
  passing_clear : z ≡ 0 → (i : ℕ) → lanes * w ≤ i → i < lanes * (w + 1) → i < k → test i ≡ false
  passing_clear e i l h = fails_below lanes (omega arith) (λ j u. rw e (bit_zero j)) i l (omega arith)

  -- and the first clause from the next word on is the first from this word on;
  pub passing_none : z ≡ 0 → (r : ℕ) → First (lanes * (w + 1)) k test r → First (lanes * w) k test r
  passing_none e r f = record { within = f.within; before = λ i l h. go i l h (ltb i (lanes * (w + 1))) refl; here = f.here }
    where
      go : (i : ℕ) → lanes * w ≤ i → i < r → (b : Bool) → ltb i (lanes * (w + 1)) ≡ b → test i ≡ false
      go i l h true q = passing_clear e i l (ltb-true i (lanes * (w + 1)) q) (omega (arith, f.within))
      go i l h false q = f.before i (ltb-false i (lanes * (w + 1)) q) h

  -- otherwise it is the clause of the lowest lane that is set.
  pub passing_lowest : (z ≡ 0 → ⊥) → z < 2 ^ lanes →
      (lanes * w + count_trailing_zeros lanes z < k) × First (lanes * w) k test (lanes * w + count_trailing_zeros lanes z)
  passing_lowest some fits =
      let t = count_trailing_zeros lanes z in
      let low = trailing_at lanes z some fits in
      let r = lanes * w + t in
      let word : r / lanes ≡ w = omega arith in
      let lane' : r % lanes ≡ t = omega arith in
      let here : bit z (r % lanes) ≡ true = ap (bit z) lane' ∙ low.1 in
      let used : r < k = lane_used r word here in (
        used,
        record {
          within = omega arith;
          before = λ i l h. fails_below t (trailing_le lanes z) (trailing_below lanes z) i l h (omega arith);
          here = λ l. sym (p.each r l word) ∙ here;
        },
      )

-- no clause is left: none passes
pub first_end : {i k : ℕ} {test : ℕ → Bool} → k ≤ i → First i k test k
first_end e = record { within = omega arith; before = λ j l h. absurd (omega arith); here = λ h. absurd (omega arith) }

-- the test may be said in another way
pub first_same : {i k r : ℕ} {test test' : ℕ → Bool} → ((j : ℕ) → test j ≡ test' j) → First i k test r → First i k test' r
first_same e f = record { within = f.within; before = λ j l h. sym (e j) ∙ f.before j l h; here = λ h. sym (e _) ∙ f.here h }

-- The first clause from number i on, where those before a later number do not count, is the first from that one on.
pub first_from : {i from k r : ℕ} {test : ℕ → Bool} → i ≤ from → First i k (λ j. test j && leb from j) r → First from k test r
first_from {from = from} {r = r} {test = test} l f =
    record {
      within = f.within;
      before = λ j a b. sym (and-true (test j)) ∙ ap (λ (t : Bool). test j && t) (sym (le-leb from j a)) ∙ f.before j (omega arith) b;
      here = λ h. and_left (test r) (leb from r) (f.here h);
    }

-- The clauses whose two numbers pass a test, which 1 and 1 do not: the lanes past the last clause have these.
pub passing_told : {k : ℕ} {cells : List ℕ} {q q' : ℕ} {count count' : Clause → ℕ} {planes : List ℕ} {t : ℕ → ℕ → Bool} {w z : ℕ} →
    Counts k cells q count planes → Counts k cells q' count' planes → t 1 1 ≡ false → w < words_of k → Told t planes q q' w z →
    Passing k (passes t cells count count') w z
unfolding count_at
passing_told {q = q} {q' = q'} {planes = planes} {t = t} {w = w} {z = z} s s' past l told =
    record {
      each = λ i h e. here i e ∙ ap₂ t (s.each i h) (s'.each i h);
      rest = λ i h e. here i e ∙ ap₂ t (s.rest i h (omega arith)) (s'.rest i h (omega arith)) ∙ past;
    }
  where
    here : (i : ℕ) → i / lanes ≡ w → bit z (i % lanes) ≡ t (count_at planes q i) (count_at planes q' i)
    here i e = rw e (told.each (i % lanes) (omega arith))

-- those that pass another test too
pub passing_also : {k : ℕ} {test test' : ℕ → Bool} {w z : ℕ} → Passing k test w z → (z' : ℕ) →
    ((i : ℕ) → i < k → i / lanes ≡ w → bit z' (i % lanes) ≡ test' i) → Passing k (λ i. test i && test' i) w (bit_and z z')
passing_also {z = z} p z' also =
    record {
      each = λ i h e. bit-bit_and z z' (i % lanes) ∙ ap₂ ◌&&◌ (p.each i h e) (also i h e);
      rest = λ i h e. bit-bit_and z z' (i % lanes) ∙ ap (λ (b : Bool). b && bit z' (i % lanes)) (p.rest i h e);
    }

-- no kind of clauses has the numbers 1 and 1
pub kind_past : (kind : Kind) → test_of kind 1 1 ≡ false
unfolding test_of
kind_past Zero = refl
kind_past Few = refl
kind_past Lone = refl
kind_past Both = refl

-- ---- two rows

-- word w of the counter q as the rows of two literals move it to p, and its lanes z that are left with 0
abbrev pub MovesTo : ℕ → ℕ → ℕ → List ℕ → List ℕ → ℕ → Planes → Type 0
MovesTo q up down occ from w p =
    Moved (get_or occ (up * row_words + w) 0) (get_or occ (down * row_words + w) 0) (planes_at from (q + w)) p

abbrev pub LeavesZero : ℕ → ℕ → ℕ → List ℕ → List ℕ → ℕ → ℕ → Type 0
LeavesZero q up down occ from w z =
    ZerosAfter (get_or occ (up * row_words + w) 0) (get_or occ (down * row_words + w) 0) (planes_at from (q + w)) z

pub all_shifted : (k q up down : ℕ) (occ from to : List ℕ) →
    ((w : ℕ) → w < words_of k → MovesTo q up down occ from w (planes_at to (q + w))) → Shifted k q up down occ from to
unfolding lane count_at
all_shifted k q up down occ from to moved = record { each = λ i n h. (moved (i / lanes) (omega arith)).each (i % lanes) n }

-- The rows move the numbers of the clauses from `count` to `next`.
module _ {k q up down : ℕ} {cells occ from : List ℕ} {count next : Clause → ℕ} (room : k ≤ lane_count)
    (rows : (up < row_count) × (down < row_count)) (o : Occurs k cells occ) (s : Counts k cells q count from)
    (steps : (i : ℕ) → i < k → Steps up down count next (clause_at cells i)) where
  sum_held : (i : ℕ) → i < k → next (clause_at cells i) + digit (lane occ down i) ≡ count_at from q i + digit (lane occ up i)
  sum_held i h = rw (lane_held o down i rows.1 h room, lane_held o up i rows.0 h room, s.each i h) (steps i h).sum

  sum_past : (i : ℕ) → k ≤ i → i < lanes * words_of k → 1 + digit (lane occ down i) ≡ count_at from q i + digit (lane occ up i)
  sum_past i h l =
      let inside : i < lane_count = omega arith in
      rw (lane_past o down i rows.1 h inside, lane_past o up i rows.0 h inside, s.rest i h l)

  pub shifted_counts : (to : List ℕ) → Shifted k q up down occ from to → Counts k cells q next to
  shifted_counts to m =
      record {
        each = λ i h. m.each i _ (omega arith) (steps i h).small (sum_held i h);
        rest = λ i h l. m.each i 1 l (omega arith) (sum_past i h l);
      }

  apart_held : (i : ℕ) → i < k → digit (lane occ up i) + digit (lane occ down i) ≤ 1
  apart_held i h = rw (lane_held o down i rows.1 h room, lane_held o up i rows.0 h room) (steps i h).apart

  apart_past : (i : ℕ) → k ≤ i → i < lane_count → digit (lane occ up i) + digit (lane occ down i) ≤ 1
  apart_past i h r = rw (lane_past o down i rows.1 h r, lane_past o up i rows.0 h r) (omega arith)

  abbrev is_above : Clause → Bool
  is_above c = not (eqb (next c) 0)

  -- the clauses that are left with 0
  module _ (w z : ℕ) (l : w < words_of k) (zeros : LeavesZero q up down occ from w z) where
    lane_tells : (i n : ℕ) → i / lanes ≡ w → digit (lane occ up i) + digit (lane occ down i) ≤ 1 →
        n + digit (lane occ down i) ≡ count_at from q i + digit (lane occ up i) → bit z (i % lanes) ≡ eqb n 0
    unfolding lane count_at
    lane_tells i n e = rw (sym e) at (zeros.each (i % lanes) n (omega arith))

    passing_after : Passing k (λ i. eqb (next (clause_at cells i)) 0) w z
    passing_after =
        record {
          each = λ i h e. lane_tells i (next (clause_at cells i)) e (apart_held i h) (sum_held i h);
          rest = λ i h e. lane_tells i 1 e (apart_past i h (omega arith)) (sum_past i h (omega arith));
        }

    pub zero_after : (z ≡ 0 → ⊥) → z < 2 ^ lanes → every is_above (held k cells) ≡ false
    zero_after some fits =
        let (used, f) = passing_lowest passing_after some fits in
        held_fails k cells is_above _ used (ap not (f.here used))

  pub above_after : ((w : ℕ) → w < words_of k → LeavesZero q up down occ from w 0) → every is_above (held k cells) ≡ true
  above_after zeros =
      held_every k cells is_above (λ i h.
      let w = i / lanes in
      let l : w < words_of k = omega arith in
      ap not (passing_clear (passing_after w 0 l (zeros w l)) refl i (omega arith) (omega arith) h))
