-- Laws of clauses as sets: what the tests mean by membership alone; that further clauses take models away and bring none;
-- and that having the same clauses is an equivalence and keeps the models.
use Rattle.std.specs.Prelude.{◌≡◌, refl, ◌↔◌, ◌⊎◌, Bool, true, false, not, List, [], ◌∷◌, map, ℕ, ◌≤◌, ◌<◌, eqb, length}
use Rattle.std.proofs.Common.{sym, ap, ◌∙◌, inl, inr, true≢false, arith, eq-eqb, eqb-true}
use Rattle.std.specs.Bool.{beq}
use Rattle.std.specs.List.{list_any, list_all}
use mathlib.Core.List.Memᴰ
use Rattle.std.proofs.lemmas.Bool.{not-true}
use Rattle.words.specs.Lists.{In, some, every, keep}
use Rattle.words.proofs.ListLaws.{every_in, in_every, some_in, in_some, in_keep, length_keep, and_left, and_right, and_both, refute, beq_true, both_ways}
use Rattle.formula.specs.Formula.{Literal, Clause, met, some_met, all_true, names, once, literal_word, literal_of}
use Rattle.formula.proofs.ParseAccepted.{word_literal}
use Rattle.formula.specs.Sets.{same_literal, within, same_set, stands, same_clauses}

-- ---- literals and clauses

same_literal_eq : (a b : Literal) → same_literal a b ≡ true → a ≡ b
unfolding same_literal
same_literal_eq a b e =
    let variables = eqb a.variable b.variable in
    let signs = beq a.positive b.positive in
    let p : a.variable ≡ b.variable = eqb-true _ _ (and_left variables signs e) in
    let q : a.positive ≡ b.positive = beq_true _ _ (and_right variables signs e) in
    λ i. record { variable = p i; positive = q i }

beq_same : (a : Bool) → beq a a ≡ true
beq_same true = refl
beq_same false = refl

same_literal_same : (l : Literal) → same_literal l l ≡ true
unfolding same_literal
same_literal_same l = and_both (eqb l.variable l.variable) _ (eq-eqb l.variable l.variable refl) (beq_same l.positive)

-- Two words stand for the same literal if they are equal, and only then.
pub same_literal_words : (v w : ℕ) → same_literal (literal_of v) (literal_of w) ≡ eqb v w
same_literal_words v w =
    both_ways (same_literal (literal_of v) (literal_of w)) (eqb v w)
    (λ e. eq-eqb v w (sym (word_literal v) ∙ ap literal_word (same_literal_eq (literal_of v) (literal_of w) e) ∙ word_literal w))
    (λ e. rw (eqb-true v w e) (same_literal_same (literal_of w)))

-- A clause is within another if each literal of it stands there, and only then.
within_means : (c d : Clause) → (within c d ≡ true) ↔ ((l : Literal) → In l c → In l d)
unfolding within
within_means c d = (
  λ e l i.
      let (k, j, s) = some_in (same_literal l) d (every_in (λ l'. some (same_literal l') d) c e l i) in
      rw (same_literal_eq l k s) j,
  λ h. in_every (λ l. some (same_literal l) d) c (λ l i. in_some (same_literal l) d l (h l i) (same_literal_same l)),
)

-- Two clauses are the same set if they have the same literals, and only then.
pub same_set_means : (c d : Clause) → (same_set c d ≡ true) ↔ ((l : Literal) → In l c ↔ In l d)
unfolding same_set
same_set_means c d = (
  λ e l. ((within_means c d).0 (and_left (within c d) (within d c) e) l, (within_means d c).0 (and_right (within c d) (within d c) e) l),
  λ h. and_both (within c d) (within d c) ((within_means c d).1 (λ l. (h l).0)) ((within_means d c).1 (λ l. (h l).1)),
)

-- what fails a test is not kept
keep_drops : {A : Type 0} (p : A → Bool) (xs : List A) (x : A) → In x xs → p x ≡ false → length (keep p xs) < length xs
unfolding keep
keep_drops p [] x i e = absurd (Memᴰ.not-nil i)
keep_drops p (y ∷ xs) x i e = go (keep_drops p xs x) (p y) refl (Memᴰ.cases_cons i)
  where
    go : (In x xs → p x ≡ false → length (keep p xs) < length xs) → (b : Bool) → p y ≡ b → (x ≡ y) ⊎ In x xs →
        length (keep p (y ∷ xs)) < length (y ∷ xs)
    go rest true h (inl same) = absurd (true≢false (sym h ∙ ap p (sym same) ∙ e))
    go rest true h (inr j) = rw h (let l = rest j e in omega arith)
    go rest false h k = rw h (let l = length_keep p xs in omega arith)

-- A clause that names no variable twice is no longer than one that has all its literals.
pub within_length : (c d : Clause) → once c ≡ true → ((l : Literal) → In l c → In l d) → length c ≤ length d
unfolding once names
within_length [] d o h = omega arith
within_length (l ∷ c) d o h =
    let others : Literal → Bool = λ x. not (eqb x.variable l.variable) in
    let new : names l.variable c ≡ false = not-true _ (and_left (not (names l.variable c)) (once c) o) in
    let rest = within_length c (keep others d) (and_right (not (names l.variable c)) (once c) o)
    (λ x i. in_keep others d x (h x (Memᴰ.tail i)) (ap not (differs x i new))) in
    let fewer = keep_drops others d l (h l (Memᴰ.head refl)) (ap not (eq-eqb l.variable l.variable refl)) in
    omega arith
  where
    differs : (x : Literal) → In x c → names l.variable c ≡ false → eqb x.variable l.variable ≡ false
    differs x i new = refute _ (λ e. true≢false (sym (in_some (λ y. eqb y.variable l.variable) c x i e) ∙ new))

-- ---- one list of clauses standing in another

-- Each clause of cs has the same literals as some clause of ds.
abbrev pub SameIn : List Clause → List Clause → Type 0
SameIn cs ds = (c : Clause) → In c cs → (d : Clause) × In d ds × ((l : Literal) → In l c ↔ In l d)

-- One list of clauses stands in another if each clause of it has the same literals as some clause there, and only then.
pub stands_means : (cs ds : List Clause) → (stands cs ds ≡ true) ↔ SameIn cs ds
unfolding stands
stands_means cs ds = (
  λ e c i. let (d, j, s) = some_in (same_set c) ds (every_in (λ c'. some (same_set c') ds) cs e c i) in (d, j, (same_set_means c d).0 s),
  λ h.
      in_every (λ c. some (same_set c) ds) cs
      (λ c i. let (d, j, s) = h c i in in_some (same_set c) ds d j ((same_set_means c d).1 s)),
)

pub stands_refl : (cs : List Clause) → stands cs cs ≡ true
stands_refl cs = (stands_means cs cs).1 (λ c i. (c, i, λ l. (λ j. j, λ j. j)))

-- A model of ds is a model of every list of clauses that stands in ds.
pub stands_model : (cs ds : List Clause) → stands cs ds ≡ true → (m : ℕ) → all_true m ds ≡ true → all_true m cs ≡ true
unfolding all_true some_met
stands_model cs ds e m model =
    in_every (some_met m) cs
    (λ c i.
    let (d, j, same) = (stands_means cs ds).0 e c i in
    let (l, k, h) = some_in (met m) d (every_in (some_met m) ds model d j) in
    in_some (met m) c l ((same l).1 k) h)

-- ---- the same clauses

pub same_clauses_stands : (cs ds : List Clause) → (same_clauses cs ds ≡ true) ↔ ((stands cs ds ≡ true) × (stands ds cs ≡ true))
unfolding same_clauses
same_clauses_stands cs ds = (
  λ e. (and_left (stands cs ds) (stands ds cs) e, and_right (stands cs ds) (stands ds cs) e),
  λ h. and_both (stands cs ds) (stands ds cs) h.0 h.1,
)

pub same_clauses_means : (cs ds : List Clause) → (same_clauses cs ds ≡ true) ↔ (SameIn cs ds × SameIn ds cs)
same_clauses_means cs ds = (
  λ e. let h = (same_clauses_stands cs ds).0 e in ((stands_means cs ds).0 h.0, (stands_means ds cs).0 h.1),
  λ h. (same_clauses_stands cs ds).1 ((stands_means cs ds).1 h.0, (stands_means ds cs).1 h.1),
)

-- Order and repetition do not count.
pub same_clauses_order : (cs ds : List Clause) → ((c : Clause) → In c cs ↔ In c ds) → same_clauses cs ds ≡ true
same_clauses_order cs ds h =
    (same_clauses_means cs ds).1 (λ c i. (c, (h c).0 i, λ l. (λ j. j, λ j. j)), λ c i. (c, (h c).1 i, λ l. (λ j. j, λ j. j)))

pub same_clauses_refl : (cs : List Clause) → same_clauses cs cs ≡ true
same_clauses_refl cs = same_clauses_order cs cs (λ c. (λ i. i, λ i. i))

pub same_clauses_sym : (cs ds : List Clause) → same_clauses cs ds ≡ true → same_clauses ds cs ≡ true
same_clauses_sym cs ds e = let h = (same_clauses_stands cs ds).0 e in (same_clauses_stands ds cs).1 (h.1, h.0)

same_trans : (bs cs ds : List Clause) → SameIn bs cs → SameIn cs ds → SameIn bs ds
same_trans bs cs ds h g b i =
    let (c, j, s) = h b i in
    let (d, k, t) = g c j in
    (d, k, λ l. (λ m. (t l).0 ((s l).0 m), λ m. (s l).1 ((t l).1 m)))

pub same_clauses_trans : (bs cs ds : List Clause) →
    same_clauses bs cs ≡ true → same_clauses cs ds ≡ true → same_clauses bs ds ≡ true
same_clauses_trans bs cs ds e f =
    let h = (same_clauses_means bs cs).0 e in
    let g = (same_clauses_means cs ds).0 f in
    (same_clauses_means bs ds).1 (same_trans bs cs ds h.0 g.0, same_trans ds cs bs g.1 h.1)

pub same_clauses_models : (cs ds : List Clause) → same_clauses cs ds ≡ true → (m : ℕ) → all_true m cs ≡ all_true m ds
same_clauses_models cs ds e m =
    let h = (same_clauses_stands cs ds).0 e in
    both_ways (all_true m cs) (all_true m ds) (stands_model ds cs h.1 m) (stands_model cs ds h.0 m)

-- ---- by words

eqb_swap : (a b : ℕ) → eqb a b ≡ eqb b a
eqb_swap a b = both_ways (eqb a b) (eqb b a) (λ e. eq-eqb b a (sym (eqb-true a b e))) (λ e. eq-eqb a b (sym (eqb-true b a e)))

-- A word stands in a list of words just where its literal stands among theirs,
pub any_stands : (w : ℕ) (vs : List ℕ) → list_any (λ v. eqb v w) vs ≡ some (same_literal (literal_of w)) (map literal_of vs)
unfolding some
any_stands w [] = refl
any_stands w (v ∷ vs) = rw (same_literal_words w v, eqb_swap w v, any_stands w vs) refl

-- and all of one stand in another just where the clause is within the other.
pub words_within : (ws : List ℕ) (d : Clause) → list_all (λ w. some (same_literal (literal_of w)) d) ws ≡ within (map literal_of ws) d
unfolding within every
words_within [] d = refl
words_within (w ∷ ws) d = rw (words_within ws d) refl
