-- The laws of counts: how a toggle moves the number of met literals of a clause.
use Rattle.std.specs.Prelude.{◌≡◌, ◌⊎◌, Bool, cond, ◌&&◌, ◌||◌, [], ◌∷◌, ℕ, ◌+◌, ◌-◌, ◌*◌, ◌/◌, ◌%◌, ◌≤◌, ◌<◌, eqb}
use Rattle.std.proofs.Math.Path.{refl, ap}
use Rattle.std.proofs.Common.{sym, ap₂, ◌∙◌, inl, inr, true≢false, zero-le, arith}
use Rattle.std.proofs.Math.Bool.{true, false, not, beq, and_comm, and-false, or-false}
use Rattle.std.proofs.lemmas.Bool.{false≢true}
use mathlib.Core.List.Memᴰ
use Rattle.std.specs.Int.Bits.{differ, xor_step, xor_zero_r}
use borrow.Author.Tests.{ne_eqb, eqb-true, eqb-false, not-true}
use Rattle.words.specs.Lists.{In, some, keep, count}
use Rattle.words.proofs.ListLaws.{and_left, and_right, refute, some_in, in_some}
use Rattle.words.specs.Bits.{bit, toggle}
use Rattle.words.proofs.BitLaws.{digit, by_parity, same_test, bit_zero, bit_toggle_same, bit_toggle_other}
use Rattle.words.proofs.CountLaws.{count_cons, count_le, count_moves, count_adds, count_same, count_none, count_zero, some_digit}
use Rattle.formula.specs.Formula.{Literal, Clause, WellFormedClause, met, is_opposite, bit_of, names, once, literal_word, literal_of}
use Rattle.formula.specs.Counts.{sign_count, holds, opposite, Steps}

-- ---- the literals of one variable

abbrev pub names? : ℕ → Literal → Bool
names? v l = eqb l.variable v

-- l has the word w
abbrev pub is : ℕ → Literal → Bool
is w l = eqb (literal_word l) w

-- a word names the sign and the variable
pub is_split : (w : ℕ) (l : Literal) → is w l ≡ (beq l.positive (eqb (w % 2) 0) && names? (w / 2) l)
unfolding literal_word
is_split w l = go l.positive
  where
    x : ℕ
    x = l.variable

    go : (s : Bool) → eqb (2 * x + cond s 0 1) w ≡ (beq s (eqb (w % 2) 0) && eqb x (w / 2))
    go true =
        by_parity (λ d. eqb (2 * x + 0) w ≡ (beq true (eqb d 0) && eqb x (w / 2))) w
        (λ e. same_test (2 * x + 0) w x (w / 2) (λ q. omega arith) (λ q. omega arith))
        (λ e. ne_eqb (2 * x + 0) w (λ q. omega arith))
    go false =
        by_parity (λ d. eqb (2 * x + 1) w ≡ (beq false (eqb d 0) && eqb x (w / 2))) w
        (λ e. ne_eqb (2 * x + 1) w (λ q. omega arith))
        (λ e. same_test (2 * x + 1) w x (w / 2) (λ q. omega arith) (λ q. omega arith))

-- a variable stands in a clause at most once: the literals behind one that names it do not
once_rest : (v : ℕ) (l : Literal) (c : Clause) → once (l ∷ c) ≡ true → names? v l ≡ true → some (names? v) c ≡ false
unfolding once names
once_rest v l c o e =
    ap (λ (x : ℕ). some (names? x) c) (sym (eqb-true l.variable v e))
    ∙ not-true (names l.variable c) (and_left (not (names l.variable c)) (once c) o)

once_le : (v : ℕ) (c : Clause) → once c ≡ true → count (names? v) c ≤ 1
unfolding once count keep
once_le v [] o = zero-le
once_le v (l ∷ c) o =
    rw (count_cons (names? v) l c) (go (once_le v c (and_right (not (names l.variable c)) (once c) o)) (names? v l) refl)
  where
    go : count (names? v) c ≤ 1 → (b : Bool) → names? v l ≡ b → digit b + count (names? v) c ≤ 1
    go below true e = omega (arith, count_zero (names? v) c (once_rest v l c o e))
    go below false e = omega arith

-- so that a test of the literals that name it is a test of the one
pub named_once : (v : ℕ) (p : Literal → Bool) (c : Clause) → once c ≡ true → (l : Literal) → In l c → names? v l ≡ true →
    some (λ x. names? v x && p x) c ≡ p l
unfolding once some
named_once v p [] o l i e = absurd (Memᴰ.not-nil i)
named_once v p (y ∷ c) o l i e =
    go (λ j. named_once v p c (and_right (not (names y.variable c)) (once c) o) l j e) (names? v y) refl (Memᴰ.cases_cons i)
  where
    alone : names? v y ≡ true → some (λ x. names? v x && p x) c ≡ false
    alone q =
        refute _ (λ s.
        let (x, j, t) = some_in _ c s in
        false≢true (sym (once_rest v y c o q) ∙ in_some (names? v) c x j (and_left (names? v x) (p x) t)))

    go : (In l c → some (λ x. names? v x && p x) c ≡ p l) → (b : Bool) → names? v y ≡ b → (l ≡ y) ⊎ In l c →
        ((b && p y) || some (λ x. names? v x && p x) c) ≡ p l
    go below true q (inl h) = rw (alone q, h) (or-false (p y))
    go below true q (inr j) = absurd (false≢true (sym (once_rest v y c o q) ∙ in_some (names? v) c l j e))
    go below false q (inl h) = absurd (false≢true (sym q ∙ sym (ap (names? v) h) ∙ e))
    go below false q (inr j) = below j

-- ---- the toggle of one variable

opposite_is : (w : ℕ) → opposite w ≡ w / 2 * 2 + (1 - w % 2)
opposite_is w =
    let last : differ (w % 2) 1 ≡ 1 - w % 2 = by_parity (λ d. differ d 1 ≡ 1 - d) w (λ e. refl) (λ e. refl) in
    xor_step w 1 ∙ ap₂ (λ (x y : ℕ). x * 2 + y) (xor_zero_r (w / 2)) last

-- the words of the literals of n variables are below 2 n + 2, and so are their opposites
pub opposite_lt : (n w : ℕ) → w < 2 * n + 2 → opposite w < 2 * n + 2
opposite_lt n w h = omega (arith, opposite_is w)

opposite_split : (w : ℕ) (l : Literal) → is (opposite w) l ≡ (not (beq l.positive (eqb (w % 2) 0)) && names? (w / 2) l)
opposite_split w l =
    let half : opposite w / 2 ≡ w / 2 = omega (arith, opposite_is w) in
    let odd : opposite w % 2 ≡ 1 - w % 2 = omega (arith, opposite_is w) in
    is_split (opposite w) l ∙ rw (half, odd) (ap (λ (b : Bool). b && names? (w / 2) l) (go l.positive))
  where
    go : (s : Bool) → beq s (eqb (1 - w % 2) 0) ≡ not (beq s (eqb (w % 2) 0))
    go true = by_parity (λ d. beq true (eqb (1 - d) 0) ≡ not (beq true (eqb d 0))) w (λ e. refl) (λ e. refl)
    go false = by_parity (λ d. beq false (eqb (1 - d) 0) ≡ not (beq false (eqb d 0))) w (λ e. refl) (λ e. refl)

-- the word of the opposite
is_opposite_lem : (w : ℕ) (l : Literal) → is (opposite w) l ≡ is_opposite (literal_of w) l
unfolding is_opposite literal_of
is_opposite_lem w l = opposite_split w l ∙ and_comm (not (beq l.positive (eqb (w % 2) 0))) (names? (w / 2) l)

pub holds_opposite : (w : ℕ) (c : Clause) → holds (opposite w) c ≡ some (is_opposite (literal_of w)) c
unfolding holds
holds_opposite w c = λ i. some (λ l. is_opposite_lem w l i) c

-- Opposite literals have one variable, and an assignment meets just one of them.
module _ (l x : Literal) (e : is_opposite l x ≡ true) where
  pub opposite_bit : bit_of x ≡ bit_of l
  unfolding is_opposite bit_of
  opposite_bit =
      ap (λ (v : ℕ). v - 1) (eqb-true x.variable l.variable (and_left _ (not (beq x.positive l.positive)) e))

  pub opposite_met : (m : ℕ) → met m x ≡ not (met m l)
  unfolding is_opposite met
  opposite_met m =
      rw opposite_bit (go (bit m (bit_of l)) l.positive x.positive
      (and_right (eqb x.variable l.variable) (not (beq x.positive l.positive)) e))
    where
      go : (b p q : Bool) → not (beq q p) ≡ true → beq b q ≡ not (beq b p)
      go b true true h = absurd (false≢true h)
      go true true false h = refl
      go false true false h = refl
      go true false true h = refl
      go false false true h = refl
      go b false false h = absurd (false≢true h)

-- a clause holds a literal or its opposite as often as it names the variable
named_count : (w : ℕ) (c : Clause) → count (names? (w / 2)) c ≡ count (is w) c + count (is (opposite w)) c
named_count w c =
    count_adds (is w) (names? (w / 2)) (is (opposite w)) c
    (λ l i. rw (opposite_split w l, is_split w l) (go (beq l.positive (eqb (w % 2) 0)) (names? (w / 2) l)))
  where
    go : (s b : Bool) → digit b ≡ digit (s && b) + digit (not s && b)
    go true b = omega arith
    go false b = omega arith

pub both_count : (w : ℕ) (c : Clause) → once c ≡ true → count (is w) c + count (is (opposite w)) c ≤ 1
both_count w c o = omega (arith, named_count w c, once_le (w / 2) c o)

-- A literal beside the one with the word w. Of the same variable:
module _ (w : ℕ) (l : Literal) where
  module _ (e : names? (w / 2) l ≡ true) where
    pub same_bit : bit_of l ≡ bit_of (literal_of w)
    unfolding bit_of literal_of
    same_bit = ap (λ (v : ℕ). v - 1) (eqb-true l.variable (w / 2) e)

    same_opposite : is (opposite w) l ≡ not (is w l)
    same_opposite = opposite_split w l ∙ rw (is_split w l, e) (go (beq l.positive (eqb (w % 2) 0)))
      where
        go : (s : Bool) → (not s && true) ≡ not (s && true)
        go true = refl
        go false = refl

    -- where that one is not met, it is that one exactly if it is not met,
    pub same_is : (m : ℕ) → met m (literal_of w) ≡ false → is w l ≡ not (met m l)
    unfolding met literal_of
    same_is m u = is_split w l ∙ rw (e, same_bit) (go (bit m (bit_of (literal_of w))) l.positive (eqb (w % 2) 0) u)
      where
        go : (b p t : Bool) → beq b t ≡ false → (beq p t && true) ≡ not (beq b p)
        go true p true d = absurd (true≢false d)
        go true true false d = refl
        go true false false d = refl
        go false true true d = refl
        go false false true d = refl
        go false p false d = absurd (true≢false d)

    -- and the toggle turns it;
    pub same_met : (m : ℕ) → met (toggle m (bit_of (literal_of w))) l ≡ not (met m l)
    unfolding met
    same_met m = rw (same_bit, bit_toggle_same m (bit_of (literal_of w))) (go (bit m (bit_of (literal_of w))) l.positive)
      where
        go : (b p : Bool) → beq (not b) p ≡ not (beq b p)
        go true true = refl
        go true false = refl
        go false true = refl
        go false false = refl

  -- of another variable: the toggle leaves it.
  module _ (e : names? (w / 2) l ≡ false) where
    pub other_is : is w l ≡ false
    other_is = is_split w l ∙ rw e (and-false (beq l.positive (eqb (w % 2) 0)))

    other_opposite : is (opposite w) l ≡ false
    other_opposite = opposite_split w l ∙ rw e (and-false (not (beq l.positive (eqb (w % 2) 0))))

    module _ (h : 2 ≤ w) (k : 1 ≤ l.variable) (m : ℕ) where
      pub other_bit : bit (toggle m (bit_of (literal_of w))) (bit_of l) ≡ bit m (bit_of l)
      unfolding bit_of literal_of
      other_bit = bit_toggle_other m (w / 2 - 1) (l.variable - 1) (λ q. eqb-false l.variable (w / 2) e (omega arith))

      pub other_met : met (toggle m (bit_of (literal_of w))) l ≡ met m l
      unfolding met
      other_met = rw other_bit

-- One literal: met after the toggle, or the opposite of w, as often as met before, or w.
pub literal_toggles : (w m : ℕ) (l : Literal) → 2 ≤ w → 1 ≤ l.variable → met m (literal_of w) ≡ false →
    digit (met (toggle m (bit_of (literal_of w))) l) + digit (is (opposite w) l) ≡ digit (met m l) + digit (is w l)
literal_toggles w m l h k u = go (names? (w / 2) l) refl
  where
    turned : (x : Bool) → digit (not x) + digit (not (not x)) ≡ digit x + digit (not x)
    turned true = refl
    turned false = refl

    go : (b : Bool) → names? (w / 2) l ≡ b →
        digit (met (toggle m (bit_of (literal_of w))) l) + digit (is (opposite w) l) ≡ digit (met m l) + digit (is w l)
    go true e = rw (same_met w l e m, same_opposite w l e, same_is w l e m u) (turned (met m l))
    go false e = rw (other_met w l e h k m, other_opposite w l e, other_is w l e)

-- at most one of a literal and its opposite stands in a clause, and at most once
pub holds_digit : {n : ℕ} (w : ℕ) (c : Clause) → WellFormedClause n c → digit (holds w c) ≡ count (is w) c
unfolding holds
holds_digit w c f = some_digit (is w) c (omega (arith, both_count w c f.once))

-- A clause names the variable of a word exactly if it holds the literal or its opposite.
pub names_digit : {n : ℕ} (w : ℕ) (c : Clause) → WellFormedClause n c →
    digit (names (w / 2) c) ≡ digit (holds w c) + digit (holds (opposite w) c)
unfolding names
names_digit w c f =
    omega (
      arith,
      some_digit (names? (w / 2)) c (once_le (w / 2) c f.once),
      named_count w c,
      holds_digit w c f,
      holds_digit (opposite w) c f,
    )

-- A number that counts the literals which pass a test moves with two words, if each literal does.
pub count_steps : {n : ℕ} (up down : ℕ) (c : Clause) → WellFormedClause n c → count (is up) c + count (is down) c ≤ 1 →
    (p q : Literal → Bool) → ((l : Literal) → In l c → digit (q l) + digit (is down l) ≡ digit (p l) + digit (is up l)) →
    Steps up down (count p) (count q) c
count_steps up down c f apart p q each =
    let moves = count_moves p q (is up) (is down) c each in
    record {
      sum = omega (arith, holds_digit up c f, holds_digit down c f, moves);
      apart = omega (arith, apart, holds_digit up c f, holds_digit down c f);
      small = omega (arith, count_le q c, f.short);
    }

-- The number of met literals moves so at the toggle of a variable: one up where the clause holds the literal that was not met, and one
-- down where it holds its opposite.
pub met_steps : {n : ℕ} (w : ℕ) → 2 ≤ w → (c : Clause) → WellFormedClause n c → (m : ℕ) → met m (literal_of w) ≡ false →
    Steps w (opposite w) (count (met m)) (count (met (toggle m (bit_of (literal_of w))))) c
met_steps w h c f m u =
    count_steps w (opposite w) c f (both_count w c f.once) _ _ (λ l i. literal_toggles w m l h (f.known l i).0 u)

-- the word 0 stands for no literal
pub none_is : (l : Literal) → 1 ≤ l.variable → is 0 l ≡ false
unfolding literal_word
none_is l h = go l.positive
  where
    go : (b : Bool) → eqb (2 * l.variable + cond b 0 1) 0 ≡ false
    go true = ne_eqb (2 * l.variable + 0) 0 (λ e. omega arith)
    go false = ne_eqb (2 * l.variable + 1) 0 (λ e. omega arith)

pub none_count : {n : ℕ} (c : Clause) → WellFormedClause n c → count (is 0) c ≡ 0
none_count c f = count_same (is 0) (λ l. false) c (λ l i. none_is l (f.known l i).0) ∙ count_none c

-- a clause has at most eight literals of a sign
pub sign_small : {n : ℕ} (b : Bool) (c : Clause) → WellFormedClause n c → sign_count b c < 16
unfolding sign_count
sign_small b c f = omega (arith, count_le (λ l. beq l.positive b) c, f.short)

-- under the assignment 0 the negative literals are met
pub zero_met : (c : Clause) → sign_count false c ≡ count (met 0) c
unfolding sign_count met
zero_met c = count_same _ _ c (λ l i. sym (rw (bit_zero (bit_of l)) (go l.positive)))
  where
    go : (p : Bool) → beq false p ≡ beq p false
    go true = refl
    go false = refl
