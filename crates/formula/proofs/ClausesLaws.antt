-- One clause, and the loop over the clauses: its invariant, and what each way out comes to in the definitions.
use Rattle.std.specs.Prelude.{◌≡◌, Some, None, ℕ, suc, ◌+◌, ◌-◌, ◌*◌, ◌≤◌, ◌<◌, drop, set}
use Rattle.std.proofs.Math.Path.{refl, sym}
use Rattle.std.proofs.Common.{◌∙◌, eq-or-lt_of_le, add-one, drop_of_length-le, drop-cons}
use Rattle.std.proofs.Math.Logic.{⊎_elim}
use mathlib.Core.List.{List, [], ◌∷◌, map}
use native.Mathlib.Omega.{arith}
use Rattle.std.proofs.Math.ListN.{length, get_or, take}
use Rattle.std.proofs.Math.Seq.{take-set-le, get_or-set_same, drop-drop}
use Rattle.words.specs.Lists.{span}
use Rattle.formula.specs.Formula.{Clause, literal_of, length_limit, clause_limit}
use Rattle.formula.specs.Machine.{row_cells, cell_count, length_at, clause_at, held, Rows, word_taken}
use Rattle.formula.proofs.TableLaws.{take_kept, cell_kept, length_kept, held_more, rows_row, row_length}
use Rattle.formula.specs.Sheet.{Result, accepted, refused, ◌>>=◌, take_number, take_literals, take_clause, take_clauses, CLAUSE_LENGTH, WRONG_KIND, ABOVE_LIMIT}
use Rattle.formula.proofs.WordLaws.{word_other, word_value}
use Rattle.formula.proofs.ParseEncode.{take_clauses_none}
use Rattle.formula.proofs.ResultLaws.{prepend, prepend_nil, prepend_cons, prepend_end}

-- ---- one clause

module _ (n at w : ℕ) (ws : List ℕ) where
  -- its length is refused
  pub clause_stop : (x y : ℕ) → refused x y ≡ take_number CLAUSE_LENGTH length_limit (at + 3) w →
      refused x y ≡ take_clause n (at + 3) w ws
  unfolding take_clause ◌>>=◌
  clause_stop x y e = rw (← e) refl

  -- its length c is read: then the clause is what its literals are
  pub clause_is : (c : ℕ) → accepted c ≡ take_number CLAUSE_LENGTH length_limit (at + 3) w →
      (t : Result Clause) → t ≡ take_literals n c [] (at + 1 + 3) ws → t ≡ take_clause n (at + 3) w ws
  unfolding take_clause ◌>>=◌
  clause_is c e t l =
      let place : at + 3 + 1 ≡ at + 1 + 3 = omega arith in
      rw (← e, place) l

-- the row in which it stands then
module _ (k c : ℕ) (cells₀ cells : List ℕ) (room : row_cells * k < length cells₀)
    (kept : take (row_cells * k + 1) cells ≡ take (row_cells * k + 1) (set cells₀ (row_cells * k) c)) where
  pub row_length_is : length_at cells k ≡ c
  unfolding length_at
  row_length_is =
      cell_kept (row_cells * k + 1) (row_cells * k) cells (set cells₀ (row_cells * k) c) kept (omega arith)
      ∙ get_or-set_same cells₀ (row_cells * k) c 0 room

  pub row_clause_is : clause_at cells k ≡ map literal_of (take c (drop (row_cells * k + 1) cells))
  unfolding clause_at
  row_clause_is = rw row_length_is

  pub rows_kept : take (row_cells * k) cells ≡ take (row_cells * k) cells₀
  rows_kept =
      take_kept (row_cells * k + 1) (row_cells * k) cells (set cells₀ (row_cells * k) c) kept (omega arith)
      ∙ take-set-le (row_cells * k) cells₀ (row_cells * k) c (omega arith)

-- ---- the loop

module _ (n : ℕ) (ws : List ℕ) where
  abbrev all : Result (List Clause)
  all = take_clauses n clause_limit 3 ws

  -- k clauses are read, from the words below `at`, into these cells
  pub record ClausesSofar (cells : List ℕ) (at k : ℕ) : Type 0 where
    pub rows : Rows k cells
    pub same : all ≡ prepend (held k cells) (take_clauses n (clause_limit - k) (at + 3) (drop at ws))

  pub start : (cells : List ℕ) → length cells ≡ cell_count → ClausesSofar cells 0 0
  unfolding held span
  start cells e =
      record { rows = record { size = e; room = omega arith; short = λ i l. absurd (omega arith) }; same = rw prepend_nil }

  module _ (cells : List ℕ) (at k : ℕ) (h : ClausesSofar cells at k) where
    -- no word is left
    pub finish : length ws ≤ at → accepted (held k cells) ≡ all
    finish e = sym (h.same ∙ rw (drop_of_length-le ws e, take_clauses_none) (prepend_end (held k cells)))

    module _ (inside : at < length ws) where
      next : drop at ws ≡ get_or ws at 0 ∷ drop (at + 1) ws
      next = rw add-one (drop-cons ws at 0 inside)

      module _ (last : k ≡ clause_limit) where
        none : clause_limit - k ≡ 0
        none = omega arith

        -- one clause too many, and not of its kind,
        pub surplus_other : None ≡ word_taken CLAUSE_LENGTH (get_or ws at 0) → refused WRONG_KIND (at + 3) ≡ all
        unfolding take_clauses prepend ◌>>=◌
        surplus_other e = sym (h.same ∙ rw (none, next, ← word_other CLAUSE_LENGTH (at + 3) (get_or ws at 0) e))

        -- or of its kind
        pub surplus : (v : ℕ) → Some v ≡ word_taken CLAUSE_LENGTH (get_or ws at 0) → refused ABOVE_LIMIT (at + 3) ≡ all
        unfolding take_clauses prepend ◌>>=◌
        surplus v e = sym (h.same ∙ rw (none, next, ← word_value CLAUSE_LENGTH (at + 3) (get_or ws at 0) v e))

      module _ (room : k < clause_limit) where
        left : clause_limit - k ≡ suc (clause_limit - (k + 1))
        left = omega arith

        abbrev here : Result Clause
        here = take_clause n (at + 3) (get_or ws at 0) (drop (at + 1) ws)

        -- the next clause is refused
        pub stop : (x y : ℕ) → refused x y ≡ here → refused x y ≡ all
        unfolding take_clauses prepend ◌>>=◌
        stop x y e = sym (h.same ∙ rw (left, next, ← e))

        -- the next clause is read
        pub go_on : (c : ℕ) (cells' : List ℕ) → accepted (clause_at cells' k) ≡ here → length_at cells' k ≡ c → c ≤ length_limit →
            take (row_cells * k) cells' ≡ take (row_cells * k) cells → length cells' ≡ length cells →
            ClausesSofar cells' (at + (1 + c)) (k + 1)
        unfolding take_clauses ◌>>=◌
        go_on c cells' is long short kept e =
            let d = clause_at cells' k in
            let rows : Rows (k + 1) cells' = record {
              size = e ∙ h.rows.size;
              room = omega arith;
              short =
                  λ i b.
                  ⊎_elim
                  (λ (p : i ≡ k). rw (p, long) short)
                  (λ (p : i < k). rw (length_kept k cells' cells kept i p) (h.rows.short i p))
                  (eq-or-lt_of_le (omega arith));
            } in
            let size : length d ≡ c = row_length (rows_row rows k (omega arith)) ∙ long in
            let step : at + 1 + length d ≡ at + (1 + c) = omega arith in
            let place : at + 3 + 1 + length d ≡ at + (1 + c) + 3 = omega arith in
            let more = held_more k cells' cells d kept h.rows.short refl in
            record {
              rows = rows;
              same = h.same ∙ rw (left, next, ← is, drop-drop (length d) (at + 1) ws, step, place, more) (prepend_cons (held k cells) d _);
            }
