-- Laws of the table: a row that was written, the rows before it, the clauses that the table then holds, clause by clause and
-- literal by literal.
use Rattle.std.specs.Prelude.{◌≡◌, refl, Bool, List, [], ◌∷◌, ◌++◌, ◌⊎◌, map, ℕ, zero, suc, ◌+◌, ◌*◌, ◌≤◌, ◌<◌, min, length}
use Rattle.std.proofs.Common.{sym, subst, inl, inr, eq-or-lt_of_le, ◌∙◌, ⊎_elim, suc-add, add-zero, add-suc, le_trans, add-one, drop_of_length-le, take-take}
use Rattle.std.proofs.Math.Path.{ap}
use mathlib.Core.List.Memᴰ
use Rattle.std.specs.List.{take-map}
use Rattle.std.proofs.lemmas.List.{map-append}
use Rattle.std.proofs.Math.Nat.{zero-add}
use native.Mathlib.Omega.{arith}
use native.Mathlib.Numerals.{unary_clauses}
use Rattle.std.proofs.Math.ListN.{get_or, take, drop, length-map, length-drop, get_or-map, get_or-eq_default}
use Rattle.std.proofs.Math.Seq.{take-nil, get_or-take, length-take-le, drop-cons, get_or-drop}
use Rattle.words.specs.Lists.{In, keep, count, span}
use Rattle.words.proofs.ListLaws.{in_span, span_in, length_span, get_or_span}
use Rattle.words.proofs.BitLaws.{digit}
use Rattle.words.proofs.CountLaws.{count_cons}
use Rattle.formula.specs.Formula.{Literal, Clause, literal_of, length_limit, clause_limit, WellFormedClause}
use Rattle.formula.proofs.ModelLaws.{Known}
use Rattle.formula.specs.Machine.{row_cells, length_at, literal_at, clause_at, held, Table, Row, Rows, RowCopied}

-- ---- parts of a list

pub take_drop : (m a : ℕ) (l : List ℕ) → take m (drop a l) ≡ drop a (take (a + m) l)
take_drop m zero l = rw zero-add
take_drop m (suc a) [] = take-nil m ∙ rw suc-add
take_drop m (suc a) (x ∷ l) = take_drop m a l ∙ rw suc-add

-- what the first b elements say of fewer, of a part of them, and of one of them
pub take_kept : (b a : ℕ) (l l₀ : List ℕ) → take b l ≡ take b l₀ → a ≤ b → take a l ≡ take a l₀
take_kept b a l l₀ e h = sym (take-take a b l h) ∙ ap (take a) e ∙ take-take a b l₀ h

part_kept : (b m a : ℕ) (l l₀ : List ℕ) → take b l ≡ take b l₀ → a + m ≤ b → take m (drop a l) ≡ take m (drop a l₀)
part_kept b m a l l₀ e h = take_drop m a l ∙ ap (drop a) (take_kept b (a + m) l l₀ e h) ∙ sym (take_drop m a l₀)

pub cell_kept : (b i : ℕ) (l l₀ : List ℕ) → take b l ≡ take b l₀ → i < b → get_or l i 0 ≡ get_or l₀ i 0
cell_kept b i l l₀ e h = sym (get_or-take b l i 0 h) ∙ ap (λ (r : List ℕ). get_or r i 0) e ∙ get_or-take b l₀ i 0 h

-- ---- rows

module _ (k : ℕ) (cells cells₀ : List ℕ) (kept : take (row_cells * k) cells ≡ take (row_cells * k) cells₀) where
  pub length_kept : (i : ℕ) → i < k → length_at cells i ≡ length_at cells₀ i
  unfolding length_at
  length_kept i h = cell_kept (row_cells * k) (row_cells * i) cells cells₀ kept (omega arith)

  pub clause_kept : (i : ℕ) → i < k → length_at cells₀ i ≤ length_limit → clause_at cells i ≡ clause_at cells₀ i
  unfolding clause_at
  clause_kept i h short =
      let part = part_kept (row_cells * k) (length_at cells₀ i) (row_cells * i + 1) cells cells₀ kept (omega arith) in
      rw (length_kept i h) (ap (map literal_of) part)

-- ---- the clauses held

span_snoc : (i n : ℕ) → span i (suc n) ≡ span i n ++ ((i + n) ∷ [])
unfolding span
span_snoc i zero = rw add-zero
span_snoc i (suc n) = ap (λ (r : List ℕ). i ∷ r) (span_snoc (suc i) n ∙ rw (suc-add, add-suc))

map_span : {A : Type 0} (f g : ℕ → A) (i n : ℕ) → ((j : ℕ) → j < i + n → f j ≡ g j) →
    map f (span i n) ≡ map g (span i n)
unfolding span
map_span f g i zero h = refl
map_span f g i (suc n) h = rw (h i (omega arith), map_span f g (suc i) n (λ j l. h j (omega arith)))

-- one row more
pub held_more : (k : ℕ) (cells cells₀ : List ℕ) (c : Clause) →
    take (row_cells * k) cells ≡ take (row_cells * k) cells₀ →
    ((i : ℕ) → i < k → length_at cells₀ i ≤ length_limit) →
    clause_at cells k ≡ c → held (k + 1) cells ≡ held k cells₀ ++ (c ∷ [])
unfolding held
held_more k cells cells₀ c kept short new =
    rw (
      add-one,
      span_snoc 0 k,
      zero-add,
      map-append (clause_at cells),
      new,
      map_span (clause_at cells) (clause_at cells₀) 0 k (λ i l. clause_kept k cells cells₀ kept i (omega arith) (short i (omega arith))),
    )

pub length_held : (k : ℕ) (cells : List ℕ) → length (held k cells) ≡ k
unfolding held
length_held k cells = length-map (span 0 k) (clause_at cells) ∙ length_span 0 k

map_in : {A : Type 0} (f : ℕ → A) (xs : List ℕ) (x : ℕ) → In x xs → In (f x) (map f xs)
map_in f [] x i = absurd (Memᴰ.not-nil i)
map_in f (y ∷ xs) x i =
    ⊎_elim (λ e. Memᴰ.head (ap f e)) (λ j. Memᴰ.tail (map_in f xs x j)) (Memᴰ.cases_cons i)

pub held_in : (k : ℕ) (cells : List ℕ) (i : ℕ) → i < k → In (clause_at cells i) (held k cells)
unfolding held
held_in k cells i h = map_in (clause_at cells) (span 0 k) i (in_span 0 k i (omega arith) (omega arith))

in_map : {A B : Type 0} (f : A → B) (xs : List A) (y : B) → In y (map f xs) → (x : A) × In x xs × (y ≡ f x)
in_map f [] y i = absurd (Memᴰ.not-nil i)
in_map f (x ∷ xs) y i =
    ⊎_elim
    (λ e. (x, Memᴰ.head refl, e))
    (λ j. let (z, i', e) = in_map f xs y j in (z, Memᴰ.tail i', e))
    (Memᴰ.cases_cons i)

pub in_held : (k : ℕ) (cells : List ℕ) (c : Clause) → In c (held k cells) → (i : ℕ) × (i < k) × (c ≡ clause_at cells i)
unfolding held
in_held k cells c j =
    let (i, h, e) = in_map (clause_at cells) (span 0 k) c j in
    let inside = span_in 0 k i h in
    (i, omega arith, e)

-- ---- clause by clause

module _ (k : ℕ) (cells : List ℕ) where
  pub held_cons : (i : ℕ) → i < k → drop i (held k cells) ≡ clause_at cells i ∷ drop (suc i) (held k cells)
  unfolding held
  held_cons i h =
      let at : get_or (span 0 k) i 0 ≡ i = get_or_span 0 k i 0 h ∙ zero-add i in
      let here = get_or-map (clause_at cells) (span 0 k) i 0 ∙ ap (clause_at cells) at in
      drop-cons (held k cells) i (clause_at cells 0) (rw (length_held k cells) h)
      ∙ ap (λ (c : Clause). c ∷ drop (suc i) (held k cells)) here

  pub held_end : (i : ℕ) → k ≤ i → drop i (held k cells) ≡ []
  held_end i h = drop_of_length-le (held k cells) {i = i} (rw (length_held k cells) h)

  pub held_at : (i : ℕ) → i < k → get_or (held k cells) i [] ≡ clause_at cells i
  held_at i h =
      ap (λ (j : ℕ). get_or (held k cells) j []) (sym (add-zero i))
      ∙ sym (get_or-drop i (held k cells) 0 [])
      ∙ ap (λ (cs : List Clause). get_or cs 0 []) (held_cons i h)

  pub held_past : (i : ℕ) → k ≤ i → get_or (held k cells) i [] ≡ []
  held_past i h = get_or-eq_default (held k cells) [] (rw (length_held k cells) h)

pub held_take : (k j : ℕ) (cells : List ℕ) → held (min k j) cells ≡ take j (held k cells)
unfolding held span
held_take k j cells = ap (map (clause_at cells)) (sym (span_take 0 k j)) ∙ sym (take-map (clause_at cells) j (span 0 k))
  where
    span_take : (i n m : ℕ) → take m (span i n) ≡ span i (min n m)
    span_take i zero zero = refl
    span_take i zero (suc m) = simp unary_clauses refl
    span_take i (suc n) zero = simp unary_clauses refl
    span_take i (suc n) (suc m) = simp unary_clauses (ap (λ (r : List ℕ). i ∷ r) (span_take (suc i) n m))

-- ---- rows that can be read

pub table_rows : {n k : ℕ} {cells : List ℕ} → Table n k cells → Rows k cells
table_rows t = record { size = t.size; room = t.room; short = t.short }

pub rows_row : {k : ℕ} {cells : List ℕ} → Rows k cells → (i : ℕ) → i < k → Row cells i
rows_row r i h = record { size = r.size; inside = omega (arith, r.room); short = r.short i h }

pub table_row : {n k : ℕ} {cells : List ℕ} → Table n k cells → (i : ℕ) → i < k → Row cells i
table_row t = rows_row (table_rows t)

-- ---- a clause, literal by literal

in_drop : {A : Type 0} (j : ℕ) (xs : List A) (x : A) → In x (drop j xs) → In x xs
in_drop zero xs x i = i
in_drop (suc j) [] x i = i
in_drop (suc j) (y ∷ xs) x i = Memᴰ.tail (in_drop j xs x i)

module _ {cells : List ℕ} {i : ℕ} (row : Row cells i) where
  pub row_length : length (clause_at cells i) ≡ length_at cells i
  unfolding clause_at
  row_length =
      length-map (take (length_at cells i) (drop (row_cells * i + 1) cells)) literal_of
      ∙ length-take-le (length_at cells i) (drop (row_cells * i + 1) cells) (rw length-drop (omega arith))

  pub row_cons : (j : ℕ) → j < length_at cells i →
      drop j (clause_at cells i) ≡ literal_of (literal_at cells i j) ∷ drop (suc j) (clause_at cells i)
  unfolding clause_at literal_at
  row_cons j h =
      let own = take (length_at cells i) (drop (row_cells * i + 1) cells) in
      let here : get_or own j 0 ≡ literal_at cells i j = get_or-take (length_at cells i) _ j 0 h ∙ get_or-drop (row_cells * i + 1) cells j 0 in
      drop-cons (clause_at cells i) j (literal_of 0) (rw row_length h)
      ∙ ap (λ (l : Literal). l ∷ drop (suc j) (clause_at cells i)) (get_or-map literal_of own j 0 ∙ ap literal_of here)

  pub row_end : (j : ℕ) → length_at cells i ≤ j → drop j (clause_at cells i) ≡ []
  row_end j h = drop_of_length-le (clause_at cells i) {i = j} (rw row_length h)

  pub row_in : (j : ℕ) → j < length_at cells i → In (literal_of (literal_at cells i j)) (clause_at cells i)
  row_in j h = in_drop j (clause_at cells i) _ (rw (row_cons j h) (Memᴰ.head refl))

  -- the literals that pass a test are counted one by one
  pub row_count_lem : (p : Literal → Bool) (j : ℕ) → j < length_at cells i →
      count p (drop j (clause_at cells i)) ≡ digit (p (literal_of (literal_at cells i j))) + count p (drop (suc j) (clause_at cells i))
  row_count_lem p j h = ap (count p) (row_cons j h) ∙ count_cons p _ _

  pub row_counted : (p : Literal → Bool) (j : ℕ) → length_at cells i ≤ j → count p (drop j (clause_at cells i)) ≡ 0
  unfolding count keep
  row_counted p j h = ap (count p) (row_end j h)

  -- a literal's cell is the word of a variable, 1 to n
  pub row_known : (n : ℕ) → WellFormedClause n (clause_at cells i) → (j : ℕ) → j < length_at cells i →
      (2 ≤ literal_at cells i j) × (literal_at cells i j < 2 * n + 2)
  unfolding literal_of
  row_known n f j h = let v = f.known (literal_of (literal_at cells i j)) (row_in j h) in (omega arith, omega arith)

pub clause_known : (n k : ℕ) (cells : List ℕ) → Table n k cells → (i : ℕ) → i < k → (j : ℕ) → j < length_at cells i →
    (2 ≤ literal_at cells i j) × (literal_at cells i j < 2 * n + 2)
clause_known n k cells table i inside = row_known (table_row table i inside) n (table.each i inside)

-- Where literals are over the variables 1 to n, each of their words is that of one.
pub words_known : {n : ℕ} {c : Clause} → WellFormedClause n c → (ws : List ℕ) → map literal_of ws ≡ c → (j : ℕ) → j < length ws →
    (2 ≤ get_or ws j 0) × (get_or ws j 0 < 2 * n + 2)
unfolding literal_of
words_known {n} f ws same = go ws (λ l i. f.known l (subst (In l) same i))
  where
    go : (ws : List ℕ) → ((l : Literal) → In l (map literal_of ws) → (1 ≤ l.variable) × (l.variable ≤ n)) → (j : ℕ) → j < length ws →
        (2 ≤ get_or ws j 0) × (get_or ws j 0 < 2 * n + 2)
    go [] h j l = absurd (omega arith)
    go (w ∷ ws) h zero l = let v = h (literal_of w) (Memᴰ.head refl) in (omega arith, omega arith)
    go (w ∷ ws) h (suc j) l = go ws (λ x i. h x (Memᴰ.tail i)) j (omega arith)

-- a table over n variables is one over more
pub table_wider : (n m k : ℕ) (cells : List ℕ) → n ≤ m → Table n k cells → Table m k cells
table_wider n m k cells l t = record { size = t.size; room = t.room; short = t.short; each = λ i h. wider (t.each i h) }
  where
    wider : {c : Clause} → WellFormedClause n c → WellFormedClause m c
    wider f = record { short = f.short; known = λ x j. ((f.known x j).0, le_trans (f.known x j).1 l); once = f.once }

-- the clauses of a table are over its variables
pub table_known : {n k : ℕ} {cells : List ℕ} → Table n k cells → Known n (held k cells)
unfolding Known
table_known {n} {k} {cells} t c i l j = let (u, h, e) = in_held k cells c i in (t.each u h).known l (rw e at j)

-- ---- fewer clauses, and one more

pub table_fewer : (n k j : ℕ) (cells : List ℕ) → j ≤ k → Table n k cells → Table n j cells
table_fewer n k j cells l t =
    record {
      size = t.size;
      room = omega (arith, t.room);
      short = λ i h. t.short i (omega arith);
      each = λ i h. t.each i (omega arith);
    }

-- a row of another table comes behind the clauses
pub table_more : (n m k j : ℕ) (cells₀ from cells : List ℕ) (i : ℕ) → Table n k cells₀ → Table m j from → m ≤ n → i < j → k < clause_limit →
    RowCopied from i cells₀ k cells → Table n (k + 1) cells
table_more n m k j cells₀ from cells i t f l inside room c =
    record {
      size = c.size ∙ t.size;
      room = omega arith;
      short = λ x h. by_place short_before short_new x (x_cases x h);
      each = λ x h. by_place each_before each_new x (x_cases x h);
    }
  where
    x_cases : (x : ℕ) → x < k + 1 → (x ≡ k) ⊎ (x < k)
    x_cases x h = eq-or-lt_of_le (omega arith)

    by_place : {P : ℕ → Type 0} → ((x : ℕ) → x < k → P x) → P k → (x : ℕ) → (x ≡ k) ⊎ (x < k) → P x
    by_place {P} before new x (inl e) = subst P (sym e) new
    by_place before new x (inr h) = before x h

    short_before : (x : ℕ) → x < k → length_at cells x ≤ length_limit
    short_before x h = rw (length_kept k cells cells₀ c.kept x h) (t.short x h)

    short_new : length_at cells k ≤ length_limit
    short_new = rw c.long (f.short i inside)

    each_before : (x : ℕ) → x < k → WellFormedClause n (clause_at cells x)
    each_before x h = rw (clause_kept k cells cells₀ c.kept x h (t.short x h)) (t.each x h)

    each_new : WellFormedClause n (clause_at cells k)
    each_new = rw c.same ((table_wider m n j from l f).each i inside)
