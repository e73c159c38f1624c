-- The header and the whole sheet: what each way out of their readers comes to in the definitions.
use Rattle.std.specs.Prelude.{◌≡◌, List, [], ℕ, ◌+◌, ◌-◌, ◌*◌, ◌%◌, ◌≤◌, ◌<◌, get_or, take, drop}
use Rattle.std.proofs.Math.Path.{refl}
use Rattle.std.proofs.Common.{sym, arith}
use Rattle.std.proofs.Math.ListN.{length}
use Rattle.words.specs.Bits.{width}
use Rattle.formula.specs.Formula.{Clause, Formula, clause_limit}
use Rattle.formula.specs.Machine.{cell_count, held, clause_at, Table, Rows}
use Rattle.formula.proofs.TableLaws.{held_in}
use Rattle.formula.specs.Sheet.{Result, accepted, refused, ◌>>=◌, words, take_number, take_clauses, take_header, take_formula, parse, BATCH_HALF, VARIABLES, half_limit, word_limit, byte_limit, RAGGED_LENGTH, SHORT_HEADER, ABOVE_LIMIT}
use Rattle.formula.proofs.SheetLaws.{words_part}
use Rattle.formula.proofs.ParseAccepted.{take_clauses_accepted}
use Rattle.formula.proofs.ParseEncode.{parse_whole}
use Rattle.formula.specs.Refusals.{sheet_long, length_uneven, header_short}
use Rattle.formula.proofs.ParseReason.{reason_refused}

-- ---- the header

module _ (ws : List ℕ) where
  abbrev first : Result ℕ
  first = take_number BATCH_HALF half_limit 0 (get_or ws 0 0)

  abbrev second : Result ℕ
  second = take_number BATCH_HALF half_limit 1 (get_or ws 1 0)

  abbrev third : Result ℕ
  third = take_number VARIABLES width 2 (get_or ws 2 0)

  pub stop_first : (x y : ℕ) → refused x y ≡ first → refused x y ≡ take_header ws
  unfolding take_header ◌>>=◌
  stop_first x y e = rw (← e) refl

  module _ (high : ℕ) (h : accepted high ≡ first) where
    pub stop_second : (x y : ℕ) → refused x y ≡ second → refused x y ≡ take_header ws
    unfolding take_header ◌>>=◌
    stop_second x y e = rw (← h, ← e) refl

    module _ (low : ℕ) (l : accepted low ≡ second) where
      pub stop_third : (x y : ℕ) → refused x y ≡ third → refused x y ≡ take_header ws
      unfolding take_header ◌>>=◌
      stop_third x y e = rw (← h, ← l, ← e) refl

      pub header_read : (n : ℕ) → accepted n ≡ third →
          accepted (record { batch = 65536 * high + low; n = n; clauses = [] }) ≡ take_header ws
      unfolding take_header ◌>>=◌
      header_read n e = rw (← h, ← l, ← e) refl

-- ---- the whole sheet

module _ (s : List ℕ) where
  pub too_long : byte_limit < length s → refused ABOVE_LIMIT word_limit ≡ parse s
  too_long h = sym (reason_refused (sheet_long h))

  module _ (fits : length s ≤ byte_limit) where
    pub uneven : (length s % 4 ≡ 0 → ⊥) → refused RAGGED_LENGTH 0 ≡ parse s
    uneven h = sym (reason_refused (length_uneven fits h))

    module _ (even : length s % 4 ≡ 0) where
      pub too_short : length s < 12 → refused SHORT_HEADER 0 ≡ parse s
      too_short h = sym (reason_refused (header_short even h))

      pub whole : 12 ≤ length s → parse s ≡ take_formula (words s)
      whole h = parse_whole (record { limit = fits; words = even; header = h })

module _ (s : List ℕ) (opened : parse s ≡ take_formula (words s)) where
  -- the header is refused
  pub header_stop : (x y : ℕ) → refused x y ≡ take_header (words s) → refused x y ≡ parse s
  unfolding take_formula ◌>>=◌
  header_stop x y e = rw (opened, ← e) refl

  module _ (f : Formula) (header : accepted f ≡ take_header (words s)) where
    abbrev rest : Result (List Clause)
    rest = take_clauses f.n clause_limit 3 (words (take (length s - 12) (drop 12 s)))

    -- a clause is refused
    pub clauses_stop : (x y : ℕ) → refused x y ≡ rest → refused x y ≡ parse s
    unfolding take_formula ◌>>=◌
    clauses_stop x y e = rw (opened, ← header, ← words_part, ← e) refl

    -- the sheet is accepted
    pub sheet_read : (cs : List Clause) → accepted cs ≡ rest →
        accepted (record { batch = f.batch; n = f.n; clauses = cs }) ≡ parse s
    unfolding take_formula ◌>>=◌
    sheet_read cs e = rw (opened, ← header, ← words_part, ← e) refl

    -- and the table holds its clauses
    pub table_read : (k : ℕ) (cells : List ℕ) → accepted (held k cells) ≡ rest → Rows k cells → Table f.n k cells
    table_read k cells e rows =
        let read = take_clauses_accepted f.n clause_limit 3 (words (take (length s - 12) (drop 12 s))) (held k cells) (sym e) in
        record {
          size = rows.size;
          room = rows.room;
          short = rows.short;
          each = λ i l. read.each (clause_at cells i) (held_in k cells i l);
        }

-- a table without a clause
pub table_none : (n : ℕ) {cells : List ℕ} → length cells ≡ cell_count → Table n 0 cells
table_none n e =
    record { size = e; room = omega arith; short = λ i l. absurd (omega arith); each = λ i l. absurd (omega arith) }
