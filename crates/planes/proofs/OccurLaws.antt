-- The laws of the occurrence table: it is built clause by clause, and literal by literal; its rows and its sets stand apart.
use Rattle.std.specs.Prelude.{◌≡◌, Bool, true, false, ◌&&◌, ◌||◌, List, [], ◌∷◌, ◌++◌, map, eqb, ltb, length, get_or, take, set, replicate}
use Rattle.std.proofs.Math.Path.{refl}
use Rattle.std.proofs.Common.{sym, ap, ◌∙◌, add-one, arith, length-set, take_all, get_or-set_same, take-suc, eq-eqb, ne_eqb, eqb-true, lt-ltb, le-ltb, ltb-true, ltb-false, below_more}
use Rattle.std.proofs.Math.Bool.{and-true, and-false, or-false, or_assoc, and-or_distrib_right}
use Rattle.std.proofs.lemmas.List.{map-append}
use Prim.Native.Nat.{ℕ, zero, suc, ◌+◌, ◌-◌, ◌*◌, ◌/◌, ◌%◌, ◌^◌, ◌≤◌, ◌<◌}
use Rattle.std.proofs.Math.Seq.{get_or-set_other}
use Rattle.std.specs.Int.Bits.{bit_or, xor_zero_l}
use Rattle.std.proofs.lemmas.Nat.{or_shifted}
use Rattle.std.proofs.Math.Pow.{shl_exact}
use Rattle.std.proofs.lemmas.Bool.{eqb-false}
use Rattle.words.specs.Lists.{some}
use Rattle.words.proofs.ListLaws.{some_last}
use Rattle.words.specs.Bits.{bit, toggle, width}
use Rattle.words.proofs.BitLaws.{bit_zero, same_test, bit_power}
use Rattle.words.specs.Machine.{Set, set_of}
use Rattle.words.proofs.SetLaws.{low, high, halves}
use Rattle.formula.specs.Formula.{Clause, bit_of, names, literal_of}
use Rattle.formula.specs.Machine.{clause_at}
use Rattle.planes.specs.Machine.{lanes, row_words, lane_count, row_count, sets_from, occurrence_cells, lane, set_at, NamedBy, Occurs, Marked, SetStored}
use Rattle.formula.specs.Counts.{holds}
use Rattle.formula.proofs.SheetLaws.{names_snoc}
use Rattle.formula.proofs.ParseAccepted.{word_literal}
use Rattle.planes.proofs.LaneLaws.{bit-bit_or, one_shl}
use Rattle.formula.proofs.CountLaws.{is}

-- ---- one lane set

module _ (xs : List ℕ) (x i : ℕ) (row : x < row_count) (room : i < lane_count) (size : length xs ≡ occurrence_cells) where
  -- the row of x with lane i
  abbrev with_lane : List ℕ
  with_lane = set xs (x * row_words + i / lanes) (bit_or (get_or xs (x * row_words + i / lanes) 0) (2 ^ (i % lanes)))

  lane_set : (w u : ℕ) → w < row_count → u < lane_count → lane with_lane w u ≡ (lane xs w u || (eqb x w && eqb u i))
  unfolding lane
  lane_set w u l h = go (eqb (x * row_words + i / lanes) (w * row_words + u / lanes)) refl
    where
      -- the cell that changes, its word then, and the cell that is read
      a : ℕ
      a = x * row_words + i / lanes

      new : ℕ
      new = bit_or (get_or xs a 0) (2 ^ (i % lanes))

      at : ℕ
      at = w * row_words + u / lanes

      none : (b : Bool) → eqb x w ≡ b → (at ≡ a → ⊥) → (b && eqb u i) ≡ false
      none true e d = ne_eqb u i (λ q. d (omega (arith, eqb-true x w e)))
      none false e d = refl

      go : (b : Bool) → eqb a at ≡ b →
          bit (get_or with_lane at 0) (u % lanes) ≡ (bit (get_or xs at 0) (u % lanes) || (eqb x w && eqb u i))
      go true e =
          let same : a ≡ at = eqb-true a at e in
          let here : eqb (i % lanes) (u % lanes) ≡ eqb u i =
          same_test (i % lanes) (u % lanes) u i (λ q. omega arith) (λ q. omega arith) in
          rw (← same, get_or-set_same xs a new 0 (omega arith), bit-bit_or, bit_power, here, eq-eqb x w (omega arith))
      go false e =
          let apart : (at ≡ a → ⊥) = λ q. eqb-false a at e (sym q) in
          rw (get_or-set_other xs a at new 0 apart, none (eqb x w) refl apart) (sym (or-false (bit (get_or xs at 0) (u % lanes))))

-- ---- one cell set

module _ (xs : List ℕ) (a x : ℕ) where
  -- a cell of the rows is none of the sets,
  sets_aside : a < sets_from → (u : ℕ) → set_at (set xs a x) u ≡ set_at xs u
  unfolding set_at
  sets_aside l u =
      rw (get_or-set_other xs a (sets_from + 2 * u + 1) x 0 (λ e. omega arith), get_or-set_other xs a (sets_from + 2 * u) x 0 (λ e. omega arith))

  -- nor the other way.
  rows_aside : sets_from ≤ a → (w u : ℕ) → w < row_count → u < lane_count → lane (set xs a x) w u ≡ lane xs w u
  unfolding lane
  rows_aside l w u row room = rw (get_or-set_other xs a (w * row_words + u / lanes) x 0 (λ e. omega arith))

-- a set from its two words,
pub set_joined : (h l : ℕ) → h < 2 ^ 64 → l < 2 ^ 64 → bit_or (h * 2 ^ 64 % 2 ^ width) l ≡ h * 2 ^ 64 + l
set_joined h l p q = rw (shl_exact {a = h} 64 64 width p (omega arith)) (or_shifted h 64 l q)

-- and its two words
pub set_stored : (xs : List ℕ) (i : ℕ) (s : Set) → i < lane_count → length xs ≡ occurrence_cells →
    SetStored i (set_of s) xs (set (set xs (sets_from + 2 * i) (low s)) (sets_from + 2 * i + 1) (high s))
unfolding set_at
set_stored xs i s room size =
    let a : ℕ = sets_from + 2 * i in
    let ys = set xs a (low s) in
    record {
      here = rw (
        get_or-set_same ys (a + 1) (high s) 0 (simp length-set (omega arith)),
        get_or-set_other ys (a + 1) a (high s) 0 (λ e. omega arith),
        get_or-set_same xs a (low s) 0 (omega arith),
      ) (halves s);
      other = λ u d. rw (
        get_or-set_other ys (a + 1) (sets_from + 2 * u + 1) (high s) 0 (λ e. d (omega arith)),
        get_or-set_other xs a (sets_from + 2 * u + 1) (low s) 0 (λ e. omega arith),
        get_or-set_other ys (a + 1) (sets_from + 2 * u) (high s) 0 (λ e. omega arith),
        get_or-set_other xs a (sets_from + 2 * u) (low s) 0 (λ e. d (omega arith)),
      );
      rows = λ w u l h. rows_aside ys (a + 1) (high s) (omega arith) w u l h ∙ rows_aside xs a (low s) (omega arith) w u l h;
    }

-- ---- clause by clause

pub marked_none : (i : ℕ) (xs : List ℕ) → Marked i [] xs xs
unfolding holds some
marked_none i xs = record { each = λ w u l h. sym (or-false (lane xs w u)); sets = λ u. refl }

marked_more : (i x : ℕ) (c : Clause) (xs ys : List ℕ)
    (row : x < row_count) (room : i < lane_count) (size : length ys ≡ occurrence_cells) → Marked i c xs ys →
    Marked i (c ++ (literal_of x ∷ [])) xs (with_lane ys x i row room size)
unfolding holds
marked_more i x c xs ys row room size m =
    record {
      each = λ w u l h.
          lane_set ys x i row room size w u l h
          ∙ rw (m.each w u l h, some_last (is w) c (literal_of x), word_literal x)
          (joins (lane xs w u) (some (is w) c) (eqb x w) (eqb u i));
      sets = λ u. sets_aside ys (x * row_words + i / lanes) _ (omega arith) u ∙ m.sets u;
    }
  where
    joins : (b y z e : Bool) → ((b || (y && e)) || (z && e)) ≡ (b || ((y || z) && e))
    joins b y z e = or_assoc b (y && e) (z && e) ∙ ap (λ (t : Bool). b || t) (sym (and-or_distrib_right y z e))

pub zeros_at : (n a : ℕ) → ◌≡◌ {A = ℕ} (get_or (replicate n 0) a 0) 0
zeros_at zero a = refl
zeros_at (suc n) zero = refl
zeros_at (suc n) (suc a) = zeros_at n a

pub occurs_none : (n : ℕ) (cells : List ℕ) → Occurs 0 cells (replicate n 0)
unfolding lane
occurs_none n cells =
    record {
      each = λ w i l h. rw (zeros_at n (w * row_words + i / lanes), bit_zero (i % lanes), le-ltb i 0 (omega arith));
      sets = λ i v l. absurd (omega arith);
    }

pub occurs_more : (k m : ℕ) (cells xs ys zs : List ℕ) → Occurs k cells xs → Marked k (clause_at cells k) xs ys →
    NamedBy m (clause_at cells k) → SetStored k m ys zs → Occurs (k + 1) cells zs
occurs_more k m cells xs ys zs o marked named stored =
    record {
      each = λ w i l h.
          stored.rows w i l h ∙ marked.each w i l h ∙ rw (o.each w i l h) (go w i (ltb i k) refl (eqb i k) refl);
      sets = λ i v l h.
          below_more (λ i. bit (set_at zs i) v ≡ names (v + 1) (clause_at cells i)) k
          (λ i l. rw (stored.other i (λ e. omega arith), marked.sets i) (o.sets i v l h))
          (rw stored.here (named v h)) i l;
    }
  where
    here : ℕ → ℕ → Bool
    here w i = holds w (clause_at cells i)

    go : (w i : ℕ) (a : Bool) → ltb i k ≡ a → (b : Bool) → eqb i k ≡ b →
        ((a && here w i) || (here w k && b)) ≡ (ltb i (k + 1) && here w i)
    go w i true p true q = absurd (omega (arith, ltb-true i k p, eqb-true i k q))
    go w i true p false q =
        rw (and-false (here w k), or-false (here w i), lt-ltb i (k + 1) (omega (arith, ltb-true i k p)))
    go w i false p true q =
        let same : i ≡ k = eqb-true i k q in
        rw (and-true (here w k), lt-ltb i (k + 1) (omega arith)) (ap (here w) (sym same))
    go w i false p false q =
        let apart : (i ≡ k → ⊥) = eqb-false i k q in
        rw (and-false (here w k), le-ltb i (k + 1) (omega (arith, ltb-false i k p)))

-- ---- the literals of a clause

-- the first j literals of a clause, by their words
abbrev pub first_of : List ℕ → ℕ → Clause
first_of words j = map literal_of (take j words)

first_more : (words : List ℕ) (j : ℕ) → j < length words →
    first_of words (j + 1) ≡ first_of words j ++ (literal_of (get_or words j 0) ∷ [])
first_more words j l = rw (add-one j, take-suc words j 0 l, map-append literal_of)

-- all of them
pub first_all : (words : List ℕ) (j : ℕ) → length words ≤ j → first_of words j ≡ map literal_of words
first_all words j l = ap (map literal_of) (take_all j words l)

-- one turn of the machine's loop
pub mark_step : (words xs ys : List ℕ) (i j : ℕ) → i < lane_count → j < length words → get_or words j 0 < row_count →
    length ys ≡ occurrence_cells → Marked i (first_of words j) xs ys →
    let at = get_or words j 0 * row_words + i / lanes in
    Marked i (first_of words (j + 1)) xs (set ys at (bit_or (get_or ys at 0) (1 * 2 ^ (i % lanes) % 2 ^ lanes)))
mark_step words xs ys i j room within row size m =
    rw (first_more words j within, one_shl lanes (i % lanes) (omega arith))
    (marked_more i (get_or words j 0) (first_of words j) xs ys row room size m)

-- ---- the variables of a clause

pub named_none : (m : ℕ) → m ≡ 0 → NamedBy m []
unfolding names some
named_none m e v h = rw e (bit_zero v)

-- one turn of the machine's loop: `own` has the literal's variable
pub named_step : (words : List ℕ) (j m own m' : ℕ) → j < length words → 2 ≤ get_or words j 0 → NamedBy m (first_of words j) →
    own ≡ toggle 0 (bit_of (literal_of (get_or words j 0))) →
    ((v : ℕ) → v < width → bit m' v ≡ (bit m v || bit own v)) → NamedBy m' (first_of words (j + 1))
unfolding toggle literal_of bit_of
named_step words j m own m' within known named e joined v h =
    let x = get_or words j 0 in
    let here : eqb (x / 2 - 1) v ≡ eqb (x / 2) (v + 1) = same_test (x / 2 - 1) v (x / 2) (v + 1) (λ q. omega arith) (λ q. omega arith) in
    joined v h
    ∙ rw (first_more words j within, names_snoc (v + 1) (first_of words j), named v h, e, xor_zero_l (2 ^ (x / 2 - 1)), bit_power, here)
