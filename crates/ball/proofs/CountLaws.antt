-- What the planes tell of a state, at the start and after a flip.
use Rattle.std.specs.Prelude.{◌≡◌, Bool, List, ℕ, ◌+◌, ◌/◌, ◌≤◌, length}
use Rattle.std.proofs.Math.Path.{refl, sym, ap}
use Rattle.std.proofs.Common.{◌∙◌}
use Rattle.std.proofs.Math.Bool.{true, false, not, and-true, and-false}
use Rattle.std.specs.Bool.{beq}
use native.Mathlib.Omega.{arith}
use Rattle.words.specs.Lists.{every, count}
use Rattle.words.specs.Bits.{toggle}
use Rattle.words.proofs.BitLaws.{digit, bit_zero, bit_toggle_same}
use Rattle.words.proofs.CountLaws.{count_same, digit_not}
use Rattle.formula.specs.Formula.{Literal, Clause, WellFormedClause, bit_of, met, literal_of}
use Rattle.formula.specs.Counts.{sign_count, opposite, Steps}
use Rattle.formula.proofs.CountLaws.{names?, is, both_count, same_bit, same_is, other_is, other_bit, other_met, literal_toggles, count_steps, met_steps, none_is, none_count, zero_met}
use Rattle.formula.specs.Machine.{IsLiteral, held}
use Rattle.planes.specs.Machine.{first_counter, second_counter, plane_cells, Starts, Shifted, AboveZero}
use Rattle.planes.proofs.CountsLaws.{counts_same, literal_rows, shifted_counts}
use Rattle.ball.specs.Ball.{State, is_flipped, is_open, reading, flip}
use Rattle.ball.proofs.ReadingLaws.{open_is, true_met}
use Rattle.ball.specs.Machine.{centred, Tryable, Begins, Flips, Toggles, Settles}

-- ---- what is counted

-- at a centre the open literals are those that are not met
open_centred : (m : ℕ) (l : Literal) → is_open (centred m) l ≡ not (met m l)
unfolding is_open is_flipped
open_centred m l = rw (bit_zero (bit_of l)) (and-true (not (met m l)))

-- ---- the start

-- under the assignment 0 the positive literals are open
start_open : (c : Clause) → sign_count true c ≡ (reading (centred 0) c).«open»
unfolding sign_count reading met
start_open c = count_same _ _ c (λ l i. sym (open_centred 0 l ∙ rw (bit_zero (bit_of l)) (go l.positive)))
  where
    go : (p : Bool) → not (beq false p) ≡ beq p true
    go true = refl
    go false = refl

pub begins : (n k : ℕ) (occ planes : List ℕ) → length planes ≡ plane_cells → Starts n k occ first_counter false planes →
    Starts n k occ second_counter true planes → Begins n k occ planes
unfolding reading
begins n k occ planes size negative positive =
    record {
      size = size;
      shows = λ cells t o.
          record {
            met = counts_same zero_met (negative.counts cells t o);
            «open» = counts_same start_open (positive.counts cells t o);
          };
    }

-- ---- a flip

module _ (literal : ℕ) (known : IsLiteral literal) where
  abbrev it : Literal
  it = literal_of literal

  -- One literal: open after the flip, or the literal flipped, as often as open before: its opposite was met, and is flipped now.
  open_flips : (s : State) (l : Literal) → 1 ≤ l.variable → Tryable s it →
      digit (is_open (flip s it) l) + digit (is literal l) ≡ digit (is_open s l) + digit (is 0 l)
  open_flips s l h t = rw (none_is l h) (go (names? (literal / 2) l) refl)
    where
      go : (b : Bool) → names? (literal / 2) l ≡ b →
          digit (is_open (flip s it) l) + digit (is literal l) ≡ digit (is_open s l) + digit false
      go true e =
          let now : is_flipped (flip s it) l ≡ true = unfold is_flipped flip in
          rw (same_bit literal l e, bit_toggle_same s.flipped (bit_of it)) (ap not t.fresh) in
          let then : is_flipped s l ≡ false = unfold is_flipped in rw (same_bit literal l e) t.fresh in
          omega (
            arith,
            ap digit (open_is (flip s it) l _ true refl now ∙ and-false (not (met (flip s it).assignment l))),
            ap digit (open_is s l _ false refl then ∙ and-true (not (met s.assignment l))),
            ap digit (same_is literal l e s.assignment t.unmet),
          )
      go false e =
          let still : is_open (flip s it) l ≡ is_open s l = unfold flip is_flipped in
          open_is (flip s it) l _ _ (other_met literal l e known.0 h s.assignment) (other_bit literal l e known.0 h s.flipped)
          ∙ sym (open_is s l _ _ refl refl) in
          rw (still, other_is literal l e)

  -- At a centre what is open is what is not met.
  open_toggles : (m : ℕ) (l : Literal) → 1 ≤ l.variable → met m it ≡ false →
      digit (is_open (centred (toggle m (bit_of it))) l) + digit (is literal l)
      ≡ digit (is_open (centred m) l) + digit (is (opposite literal) l)
  open_toggles m l h u =
      let m' = toggle m (bit_of it) in
      rw (open_centred m l, open_centred m' l)
      (omega (arith, literal_toggles literal m l known.0 h u, digit_not (met m l), digit_not (met m' l)))

  module _ {n : ℕ} (c : Clause) (well : WellFormedClause n c) where
    pub open_steps : (s : State) → Tryable s it → Steps 0 literal (count (is_open s)) (count (is_open (flip s it))) c
    open_steps s t =
        count_steps 0 literal c well (omega (arith, none_count c well, both_count literal c well.once)) _ _
        (λ l j. open_flips s l (well.known l j).0 t)

    centre_steps : (m : ℕ) → met m it ≡ false →
        Steps (opposite literal) literal (count (is_open (centred m))) (count (is_open (centred (toggle m (bit_of it))))) c
    centre_steps m u =
        count_steps (opposite literal) literal c well (omega (arith, both_count literal c well.once)) _ _
        (λ l j. open_toggles m l (well.known l j).0 u)

module _ (k literal : ℕ) (occ from to : List ℕ) (known : IsLiteral literal) (size : length to ≡ plane_cells)
    (first : Shifted k first_counter literal (opposite literal) occ from to) where
  -- In a call the literal's row takes one from the open literals, and no row adds one;
  pub flips : Shifted k second_counter 0 literal occ from to → Flips k literal occ from to
  unfolding reading flip
  flips second =
      record {
        size = size;
        shows = λ cells s r t h.
            record {
              met = shifted_counts r.table.room (literal_rows literal known) r.occurs h.met
                  (λ i l. met_steps literal known.0 _ (r.table.each i l) s.assignment t.unmet) to first;
              «open» = shifted_counts r.table.room (omega arith, known.1) r.occurs h.«open»
                  (λ i l. open_steps literal known _ (r.table.each i l) s t) to second;
            };
      }

  -- from centre to centre its opposite's row adds one.
  pub toggles : Shifted k second_counter (opposite literal) literal occ from to → Toggles k literal occ from to
  unfolding reading
  toggles second =
      record {
        size = size;
        shows = λ cells m r u h.
            let rows = literal_rows literal known in
            record {
              met = shifted_counts r.table.room rows r.occurs h.met
                  (λ i l. met_steps literal known.0 _ (r.table.each i l) m u) to first;
              «open» = shifted_counts r.table.room (rows.1, rows.0) r.occurs h.«open»
                  (λ i l. centre_steps literal known _ (r.table.each i l) m u) to second;
            };
      }

pub settles : (k literal : ℕ) (occ : List ℕ) → IsLiteral literal → (planes : List ℕ) (b : Bool) →
    AboveZero k literal (opposite literal) occ planes b → Settles k literal occ planes b
unfolding reading flip
settles k literal occ known planes b h =
    record {
      answer = λ cells s r shows t.
          (λ i. every (λ c. true_met (flip s (literal_of literal)) c i) (held k cells))
          ∙ sym (h.answer cells _ _ r.occurs shows.met
          (λ i l. met_steps literal known.0 _ (r.table.each i l) s.assignment t.unmet));
    }
