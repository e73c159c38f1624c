-- Every well-formed formula's encoding is accepted with that formula. The laws on the way say more: words that are in order are
-- read, and then the reading goes on with the words ws behind them. So a refusal there is the refusal of the whole (ParseReason.antt).
use Rattle.std.specs.Prelude.{◌≡◌, refl, Bool, true, false, cond, not, List, [], ◌∷◌, ◌++◌, ℕ, zero, suc, ◌+◌, ◌-◌, ◌*◌, ◌/◌, ◌%◌, ◌^◌, ◌≤◌, ◌<◌, eqb, length}
use Rattle.std.proofs.Common.{sym, ◌∙◌, append-nil, append_assoc, zero-le, add-zero, add-suc, zero-add, sub-add_cancel, arith, length-append, drop_at, eq-eqb, ne_eqb, le-ltb}
use Rattle.std.proofs.lemmas.Bool.{false≢true, not-true}
use mathlib.Core.List.Memᴰ
use Rattle.std.proofs.lemmas.List.{length-map}
use Rattle.words.specs.Lists.{In, some}
use Rattle.words.proofs.ListLaws.{in_some, and_left, and_right}
use Rattle.words.specs.Bits.{width}
use Rattle.formula.specs.Formula.{Literal, Clause, Formula, names, once, length_limit, clause_limit, WellFormedClause, WellFormed, literal_word, literal_of}
use Rattle.formula.specs.Sheet.{accepted, ◌>>=◌, ◌>>◌, refuse_when, words, word, take_number, take_literal, take_literals, take_clause, take_clauses, take_header, take_formula, parse, literal_words, clause_words, formula_words, bytes, encode, CLAUSE_LENGTH, BATCH_HALF, VARIABLES, LITERAL, half_limit, byte_limit}
use Rattle.formula.specs.Refusals.{Sized}
use Rattle.formula.proofs.SheetLaws.{words_bytes, length_bytes, take_word_word, bind_pure, bind_assoc, names_snoc, all_nil, all_cons, all_append}

-- ---- one word

take_number_word : (k limit p v : ℕ) → limit < 2 ^ 30 → v ≤ limit → take_number k limit p (word k v) ≡ accepted v
unfolding take_number ◌>>=◌ ◌>>◌ refuse_when
take_number_word k limit p v small h = rw (take_word_word k p v (omega arith), le-ltb limit v h)

-- a half of the batch number
pub take_half : (p v : ℕ) → v ≤ half_limit → take_number BATCH_HALF half_limit p (word BATCH_HALF v) ≡ accepted v
take_half p v h = take_number_word BATCH_HALF half_limit p v (omega arith) h

pub half_literal : (l : Literal) → literal_word l / 2 ≡ l.variable
unfolding literal_word
half_literal l = go l.positive
  where
    go : (b : Bool) → (2 * l.variable + cond b 0 1) / 2 ≡ l.variable
    go true = omega arith
    go false = omega arith

sign_literal : (l : Literal) → eqb (literal_word l % 2) 0 ≡ l.positive
unfolding literal_word
sign_literal l = go l.positive
  where
    go : (b : Bool) → eqb ((2 * l.variable + cond b 0 1) % 2) 0 ≡ b
    go true = eq-eqb ((2 * l.variable + 0) % 2) 0 (omega arith)
    go false = ne_eqb ((2 * l.variable + 1) % 2) 0 (omega arith)

pub literal_word_lem : (l : Literal) → literal_of (literal_word l) ≡ l
unfolding literal_of
literal_word_lem l = λ i. record { variable = half_literal l i; positive = sign_literal l i }

literal_small : (n : ℕ) (l : Literal) → n ≤ width → l.variable ≤ n → literal_word l < 2 ^ 30
literal_small n l small h = omega (arith, half_literal l)

take_literal_word : (n : ℕ) (before : Clause) (p : ℕ) (l : Literal) → n ≤ width →
    (1 ≤ l.variable) × (l.variable ≤ n) → names l.variable before ≡ false →
    take_literal n before p (word LITERAL (literal_word l)) ≡ accepted l
unfolding take_literal ◌>>=◌ ◌>>◌ refuse_when
take_literal_word n before p l small known new =
    rw (
      take_word_word LITERAL p (literal_word l) (literal_small n l small known.1),
      half_literal l,
      ne_eqb l.variable 0 (omega arith),
      le-ltb n l.variable known.1,
      new,
      literal_word_lem l,
    )

-- ---- a clause

-- a literal of the rest differs from the first
apart : (l : Literal) (c : Clause) → names l.variable c ≡ false → (m : Literal) → In m c →
    eqb l.variable m.variable ≡ false
unfolding names
apart l c e m i =
    ne_eqb l.variable m.variable
    (λ h. false≢true (sym e ∙ in_some (λ x. eqb x.variable l.variable) c m i (eq-eqb m.variable l.variable (sym h))))

pub length_literal_words : (c : Clause) → length (literal_words c) ≡ length c
unfolding literal_words
length_literal_words c = length-map c _

-- the literals c, and then m more
take_literals_words : (n m : ℕ) (c before : Clause) (p : ℕ) (ws : List ℕ) → n ≤ width →
    ((l : Literal) → In l c → (1 ≤ l.variable) × (l.variable ≤ n)) →
    ((l : Literal) → In l c → names l.variable before ≡ false) → once c ≡ true →
    take_literals n (m + length c) before p (literal_words c ++ ws)
    ≡ (take_literals n m (before ++ c) (p + length c) ws >>= λ d. accepted (c ++ d))
unfolding take_literals literal_words ◌>>=◌ once
take_literals_words n m [] before p ws small known new o = simp (add-zero, append-nil, bind_pure)
take_literals_words n m (l ∷ c) before p ws small known new o =
    let differ : names l.variable c ≡ false = not-true _ (and_left (not (names l.variable c)) (once c) o) in
    let new' : (m : Literal) → In m c → names m.variable (before ++ (l ∷ [])) ≡ false =
    λ m i. rw (names_snoc m.variable before l, new m (Memᴰ.tail i), apart l c differ m i) in
    let here : p + 1 + length c ≡ p + suc (length c) = omega arith in
    rw (
      add-suc m (length c),
      take_literal_word n before p l small (known l (Memᴰ.head refl)) (new l (Memᴰ.head refl)),
      take_literals_words n m c (before ++ (l ∷ [])) (p + 1) ws small (λ m i. known m (Memᴰ.tail i)) new'
          (and_right (not (names l.variable c)) (once c) o),
      bind_assoc,
      append_assoc,
      here,
    )

-- a clause of k literals, of which c are the first
pub take_clause_words : (n k m : ℕ) (c : Clause) (p : ℕ) (ws : List ℕ) → n ≤ width → WellFormedClause n c →
    k ≤ length_limit → m + length c ≡ k →
    take_clause n p (word CLAUSE_LENGTH k) (literal_words c ++ ws)
    ≡ (take_literals n m c (p + 1 + length c) ws >>= λ d. accepted (c ++ d))
unfolding take_clause ◌>>=◌ names some
take_clause_words n k m c p ws small h short count =
    rw (take_number_word CLAUSE_LENGTH length_limit p k (omega arith) short)
    (rw count at (take_literals_words n m c [] (p + 1) ws small h.known (λ l i. refl) h.once))

-- all of a clause
take_clause_whole : (n : ℕ) (c : Clause) (p : ℕ) (ws : List ℕ) → n ≤ width → WellFormedClause n c →
    take_clause n p (word CLAUSE_LENGTH (length c)) (literal_words c ++ ws) ≡ accepted c
unfolding take_literals ◌>>=◌
take_clause_whole n c p ws small h = rw append-nil at (take_clause_words n (length c) 0 c p ws small h h.short (zero-add _))

-- ---- the clauses

-- the clauses cs, and then as many as there is room for
take_clauses_words : (n room p : ℕ) (cs : List Clause) (ws : List ℕ) → n ≤ width →
    ((c : Clause) → In c cs → WellFormedClause n c) →
    take_clauses n (room + length cs) p (clause_words cs ++ ws)
    ≡ (take_clauses n room (p + length (clause_words cs)) ws >>= λ ds. accepted (cs ++ ds))
unfolding take_clauses clause_words ◌>>=◌
take_clauses_words n room p [] ws small each = simp (add-zero, bind_pure)
take_clauses_words n room p (c ∷ cs) ws small each =
    let here : p + 1 + length c + length (clause_words cs) ≡ p + suc (length (literal_words c ++ clause_words cs)) =
    rw (length-append, length_literal_words) (omega arith) in
    rw (
      add-suc room (length cs),
      append_assoc (literal_words c) (clause_words cs) ws,
      take_clause_whole n c p (clause_words cs ++ ws) small (each c (Memᴰ.head refl)),
      drop_at (literal_words c) (clause_words cs ++ ws) (length c) (length_literal_words c),
      take_clauses_words n room (p + 1 + length c) cs ws small (λ d i. each d (Memᴰ.tail i)),
      bind_assoc,
      here,
    )

length_clause_words : (n : ℕ) (cs : List Clause) → ((c : Clause) → In c cs → WellFormedClause n c) →
    length (clause_words cs) ≤ (1 + length_limit) * length cs
unfolding clause_words
length_clause_words n [] each = zero-le
length_clause_words n (c ∷ cs) each =
    let below = length_clause_words n cs (λ d i. each d (Memᴰ.tail i)) in
    rw (length-append (literal_words c) (clause_words cs), length_literal_words c) (omega (arith, (each c (Memᴰ.head refl)).short))

-- ---- each word has 32 bits

word_lt : (k v : ℕ) → k < 4 → v < 2 ^ 30 → word k v < 2 ^ 32
unfolding word
word_lt k v h l = omega arith

abbrev Below : ℕ → Type 0
Below w = w < 2 ^ 32

literal_words_lt : (n : ℕ) (c : Clause) → n ≤ width →
    ((l : Literal) → In l c → (1 ≤ l.variable) × (l.variable ≤ n)) → (w : ℕ) → In w (literal_words c) → Below w
unfolding literal_words
literal_words_lt n [] small known = all_nil Below
literal_words_lt n (l ∷ c) small known =
    let first = word_lt LITERAL (literal_word l) (omega arith) (literal_small n l small (known l (Memᴰ.head refl)).1) in
    all_cons Below first (literal_words_lt n c small (λ m k. known m (Memᴰ.tail k)))

clause_words_lt : (n : ℕ) (cs : List Clause) → n ≤ width → ((c : Clause) → In c cs → WellFormedClause n c) →
    (w : ℕ) → In w (clause_words cs) → Below w
unfolding clause_words
clause_words_lt n [] small each = all_nil Below
clause_words_lt n (c ∷ cs) small each =
    let h = each c (Memᴰ.head refl) in
    let first = word_lt CLAUSE_LENGTH (length c) (omega arith) (omega (arith, h.short)) in
    let rest = clause_words_lt n cs small (λ d k. each d (Memᴰ.tail k)) in
    all_cons Below first (all_append Below (literal_words c) (literal_words_lt n c small h.known) rest)

formula_words_lt : (f : Formula) → WellFormed f → (w : ℕ) → In w (formula_words f) → Below w
unfolding formula_words
formula_words_lt f h =
    all_cons Below (word_lt BATCH_HALF (f.batch / 65536) (omega arith) (omega arith))
    (all_cons Below (word_lt BATCH_HALF (f.batch % 65536) (omega arith) (omega arith))
    (all_cons Below (word_lt VARIABLES f.n (omega arith) (omega arith)) (clause_words_lt f.n f.clauses h.variables h.each)))

-- ---- the whole sheet

length_formula_words : (f : Formula) → length (formula_words f) ≡ 3 + length (clause_words f.clauses)
unfolding formula_words
length_formula_words f = omega arith

-- a formula, and then further clauses
pub take_formula_words : (f : Formula) (ws : List ℕ) → WellFormed f →
    take_formula (formula_words f ++ ws)
    ≡ (take_clauses f.n (clause_limit - length f.clauses) (length (formula_words f)) ws >>= λ ds.
    accepted (record { batch = f.batch; n = f.n; clauses = f.clauses ++ ds }))
unfolding take_formula take_header formula_words ◌>>=◌
take_formula_words f ws h =
    let whole : 65536 * (f.batch / 65536) + f.batch % 65536 ≡ f.batch = omega arith in
    let left : ℕ = clause_limit - length f.clauses in
    rw (
      take_half 0 (f.batch / 65536) (omega arith),
      take_half 1 (f.batch % 65536) (omega arith),
      take_number_word VARIABLES width 2 f.n (omega arith) h.variables,
      rw (sub-add_cancel h.clauses) at (take_clauses_words f.n left 3 f.clauses ws h.variables h.each),
      bind_assoc,
      ← length_formula_words f,
      whole,
    )

-- no word left, no clause
pub take_clauses_none : (n room p : ℕ) → take_clauses n room p [] ≡ accepted []
unfolding take_clauses
take_clauses_none n zero p = refl
take_clauses_none n (suc room) p = refl

-- A sheet whose length is in order is read word by word.
pub parse_whole : {s : List ℕ} → Sized s → parse s ≡ take_formula (words s)
unfolding parse ◌>>◌ refuse_when
parse_whole {s} h = rw (le-ltb byte_limit (length s) h.limit, eq-eqb (length s % 4) 0 h.words, le-ltb (length s) 12 h.header)

pub parse_encode : (f : Formula) → WellFormed f → parse (encode f) ≡ accepted f
unfolding encode ◌>>=◌
parse_encode f h =
    let size : length (bytes (formula_words f)) ≡ 4 * length (formula_words f) = length_bytes (formula_words f) in
    let count : length (formula_words f) ≡ 3 + length (clause_words f.clauses) = length_formula_words f in
    let most = length_clause_words f.n f.clauses h.each in
    let read = rw (append-nil, take_clauses_none, append-nil) at (take_formula_words f [] h) in
    parse_whole (record { limit = omega (arith, h.clauses); words = omega arith; header = omega arith })
    ∙ rw (words_bytes (formula_words f) (formula_words_lt f h)) read
