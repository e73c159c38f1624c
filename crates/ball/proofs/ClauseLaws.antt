-- The laws of the loop that reads one clause: each literal adds to the reading.
use Rattle.std.specs.Prelude.{◌≡◌, refl, true, false, List, [], ℕ, ◌+◌, ◌≤◌, ◌<◌}
use Rattle.std.proofs.Common.{ap, add-one}
use Rattle.std.proofs.Math.Path.{ap₂}
use native.Mathlib.Omega.{arith}
use Rattle.std.proofs.Math.ListN.{length}
use Rattle.words.specs.Lists.{keep, count}
use Rattle.words.proofs.BitLaws.{digit}
use Rattle.words.proofs.CountLaws.{count_le}
use Rattle.formula.specs.Formula.{Literal, met, length_limit, literal_of}
use Rattle.formula.specs.Machine.{Row, clause_at, length_at, literal_at}
use Rattle.formula.proofs.TableLaws.{row_count_lem, row_counted, row_length}
use Rattle.ball.specs.Ball.{State, Reading, reading, is_flipped, is_open}
use Rattle.ball.proofs.ReadingLaws.{open_is}
use Rattle.ball.specs.Machine.{Counted, Counting}

-- ---- one literal

module _ (s : State) (l : Literal) (r : Reading) where
  pub counted_met : met s.assignment l ≡ true → Counted s l r (record { met = r.met + 1; «open» = r.«open» })
  counted_met e = record { met = rw e; «open» = omega (arith, ap digit (open_is s l true _ e refl)) }

  module _ (unmet : met s.assignment l ≡ false) where
    pub counted_flipped : is_flipped s l ≡ true → Counted s l r r
    counted_flipped e = record { met = rw unmet (omega arith); «open» = omega (arith, ap digit (open_is s l false true unmet e)) }

    pub counted_open : is_flipped s l ≡ false → Counted s l r (record { met = r.met; «open» = r.«open» + 1 })
    counted_open e = record { met = rw unmet (omega arith); «open» = omega (arith, ap digit (open_is s l false false unmet e)) }

-- ---- the literals in turn

pub counting_none : (s : State) → reading s [] ≡ record { met = 0; «open» = 0 }
unfolding reading count keep
counting_none s = refl

module _ (s : State) (cells : List ℕ) (i : ℕ) (row : Row cells i) where
  pub counting_start : Counting s cells i 0 (record { met = 0; «open» = 0 })
  unfolding reading
  counting_start = record { within = omega arith; met = omega arith; «open» = omega arith }

  module _ (j : ℕ) (r : Reading) (h : Counting s cells i j r) where
    -- a clause's reading is small
    pub counting_small : (r.met ≤ length_limit) × (r.«open» ≤ length_limit)
    unfolding reading
    counting_small =
        let c = clause_at cells i in
        let short : length c ≤ length_limit = rw (row_length row) row.short in (
          omega (arith, h.met, count_le (met s.assignment) c),
          omega (arith, h.«open», count_le (is_open s) c),
        )

    pub counting_next : (q : Reading) → j < length_at cells i → Counted s (literal_of (literal_at cells i j)) r q →
        Counting s cells i (j + 1) q
    counting_next q l e =
        record {
          within = omega arith;
          met = rw add-one (omega (arith, e.met, h.met, row_count_lem row (met s.assignment) j l));
          «open» = rw add-one (omega (arith, e.«open», h.«open», row_count_lem row (is_open s) j l));
        }

    pub counting_end : length_at cells i ≤ j → r ≡ reading s (clause_at cells i)
    unfolding reading
    counting_end l =
        ap₂ {C = Reading} (λ (a b : ℕ). record { met = a; «open» = b })
        (omega (arith, h.met, row_counted row (met s.assignment) j l)) (omega (arith, h.«open», row_counted row (is_open s) j l))
