-- Laws of a row that is copied from one table to another.
use Rattle.std.specs.Prelude.{◌≡◌, List, ◌++◌, map, ℕ, ◌+◌, ◌*◌, ◌≤◌, ◌<◌, length, get_or, take, drop}
use Rattle.std.proofs.Common.{sym, ap, ◌∙◌, add-zero, arith, length-drop, drop_at, take-take, drop-drop, get_or-take, get_or-drop, length-take-le}
use borrow.Rule.Slice.PartMut.{put_mid}
use Rattle.std.proofs.Math.Seq.{paste}
use Rattle.std.proofs.lemmas.List.Edits.{length-paste}
use Rattle.std.proofs.lemmas.Slice.{put_mid-paste, take-put_mid, take-put_mid_below}
use Rattle.formula.specs.Formula.{literal_of, length_limit, clause_limit}
use Rattle.formula.specs.Machine.{row_cells, cell_count, length_at, clause_at, Row, RowCopied}
use Rattle.formula.proofs.TableLaws.{take_drop}

-- ---- the cells of a row say its clause

abbrev pub row_at : List ℕ → ℕ → List ℕ
row_at cells i = take row_cells (drop (row_cells * i) cells)

row_length : (cells : List ℕ) (i : ℕ) → get_or (row_at cells i) 0 0 ≡ length_at cells i
unfolding length_at
row_length cells i =
    get_or-take row_cells (drop (row_cells * i) cells) 0 0 (omega arith) ∙ get_or-drop (row_cells * i) cells 0 0 ∙ rw add-zero

row_clause : (cells : List ℕ) (i : ℕ) → length_at cells i ≤ length_limit →
    map literal_of (take (length_at cells i) (drop 1 (row_at cells i))) ≡ clause_at cells i
unfolding clause_at
row_clause cells i short =
    ap
    (map literal_of)
    (ap (take (length_at cells i)) (sym (take_drop length_limit 1 (drop (row_cells * i) cells)) ∙ ap (take length_limit) (drop-drop 1 (row_cells * i) cells))
    ∙ take-take (length_at cells i) length_limit _ short)

-- ---- the copy

-- Row i of a table in the place of row j of another: the row is the same, and so is its clause.
pub row_copied : (from : List ℕ) (i : ℕ) (cells₀ : List ℕ) (j : ℕ) → Row from i → j < clause_limit → length cells₀ ≡ cell_count →
    (k : ℕ) (ys : List ℕ) → k ≡ row_cells → ys ≡ row_at from i → RowCopied from i cells₀ j (put_mid (row_cells * j) k cells₀ ys)
row_copied from i cells₀ j row inside size k ys few is =
    let cells = put_mid (row_cells * j) k cells₀ ys in
    let left : row_cells ≤ length (drop (row_cells * i) from) = rw length-drop (omega (arith, row.size, row.inside)) in
    let long : length (row_at from i) ≡ row_cells = length-take-le row_cells (drop (row_cells * i) from) left in
    let before : row_cells * j ≤ length cells₀ = omega arith in
    let whole : cells ≡ paste cells₀ (row_cells * j) (row_at from i) row_cells =
    put_mid-paste (row_cells * j) k cells₀ ys (row_at from i) row_cells is (sym few) (sym long) in
    let written : take (row_cells * j + row_cells) cells ≡ take (row_cells * j) cells₀ ++ row_at from i =
    take-put_mid (row_cells * j) k cells₀ ys (row_cells * j + row_cells) (ap (λ (n : ℕ). row_cells * j + n) (sym (ap length is ∙ long))) before
    ∙ ap (λ (r : List ℕ). take (row_cells * j) cells₀ ++ r) is in
    let start : length (take (row_cells * j) cells₀) ≡ row_cells * j = length-take-le (row_cells * j) cells₀ before in
    let row_same : row_at cells j ≡ row_at from i =
    take_drop row_cells (row_cells * j) cells ∙ ap (drop (row_cells * j)) written ∙ drop_at (take (row_cells * j) cells₀) (row_at from i) _ start in
    let length_same : length_at cells j ≡ length_at from i =
    sym (row_length cells j) ∙ ap (λ (r : List ℕ). get_or r 0 0) row_same ∙ row_length from i in
    record {
      size = ap length whole ∙ length-paste cells₀ (row_cells * j) (row_at from i) row_cells (omega arith) (rw long (omega arith));
      kept = take-put_mid_below (row_cells * j) k cells₀ ys (row_cells * j) (omega arith) before;
      long = length_same;
      same =
          sym (row_clause cells j (rw length_same row.short))
          ∙ ap (λ (r : List ℕ). map literal_of (take (length_at cells j) (drop 1 r))) row_same
          ∙ ap (λ (n : ℕ). map literal_of (take n (drop 1 (row_at from i)))) length_same
          ∙ row_clause from i row.short;
    }
