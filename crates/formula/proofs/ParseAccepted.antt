-- Whatever is accepted is the encoding of its formula, which is well formed.
use Rattle.std.specs.Prelude.{◌≡◌, refl, Bool, true, false, cond, not, List, [], ◌∷◌, ◌++◌, ℕ, zero, suc, ◌+◌, ◌*◌, ◌/◌, ◌%◌, ◌≤◌, ◌<◌, eqb, length, get_or, drop}
use Rattle.std.proofs.Common.{sym, ap, ap₂, ◌∙◌, subst, zero-le, arith, ltb-false, eqb-true}
use Rattle.std.proofs.lemmas.Bool.{false≢true, eqb-false, not-false}
use Rattle.words.specs.Lists.{In, some}
use Rattle.words.proofs.ListLaws.{some_in, and_both}
use Rattle.formula.specs.Formula.{Literal, Clause, Formula, names, once, length_limit, clause_limit, WellFormedClause, WellFormed, literal_word, literal_of}
use Rattle.formula.specs.Sheet.{accepted, words, word, take_word, take_number, take_literal, take_literals, take_clause, take_clauses, take_header, take_formula, parse, literal_words, clause_words, formula_words, bytes, encode, CLAUSE_LENGTH, LITERAL}
use Rattle.formula.proofs.SheetLaws.{clash, known, bind_accepted, when_accepted, bytes_words, length_words, take_word_accepted, word_kind_value, names_snoc, neither, differ_sym, all_nil, all_cons}

-- ---- one word

spelt : (k p w v : ℕ) → take_word k p w ≡ accepted v → w ≡ word k v
spelt k p w v e = let h = take_word_accepted k p w v e in sym (word_kind_value w) ∙ ap₂ word h.0 h.1

pub take_number_accepted : (k limit p w v : ℕ) → take_number k limit p w ≡ accepted v → (w ≡ word k v) × (v ≤ limit)
unfolding take_number
take_number_accepted k limit p w v e =
    bind_accepted _ _ e (λ x q r. when_accepted _ _ _ _ r (λ t s.
    let same : x ≡ v = cc in
    (spelt k p w x q ∙ ap (word k) same, omega (arith, ltb-false limit x t))))

pub word_literal : (v : ℕ) → literal_word (literal_of v) ≡ v
unfolding literal_word literal_of
word_literal v = go (eqb (v % 2) 0) refl
  where
    go : (b : Bool) → eqb (v % 2) 0 ≡ b → 2 * (v / 2) + cond b 0 1 ≡ v
    go true e = omega (arith, eqb-true (v % 2) 0 e)
    go false e = omega (arith, eqb-false (v % 2) 0 e)

-- what an accepted literal is
pub record LiteralRead (n : ℕ) (before : Clause) (w : ℕ) (l : Literal) : Type 0 where
  pub word : w ≡ word LITERAL (literal_word l)
  pub known : (1 ≤ l.variable) × (l.variable ≤ n)
  pub new : names l.variable before ≡ false

pub take_literal_accepted : (n : ℕ) (before : Clause) (p w : ℕ) (l : Literal) → take_literal n before p w ≡ accepted l →
    LiteralRead n before w l
unfolding take_literal literal_of
take_literal_accepted n before p w l e =
    bind_accepted _ _ e (λ v q r. when_accepted _ _ _ _ r (λ t r'. when_accepted _ _ _ _ r' (λ t' s.
    let same : literal_of v ≡ l = cc in
    let half : v / 2 ≡ l.variable = ap (λ (m : Literal). m.variable) same in
    record {
      word = spelt LITERAL p w v q ∙ ap (word LITERAL) (sym (word_literal v) ∙ ap literal_word same);
      known = rw half at (known n (v / 2) t);
      new = rw half at t';
    })))

-- ---- a clause

-- what c accepted literals are
pub record LiteralsRead (n c : ℕ) (before : Clause) (ws : List ℕ) (ls : Clause) : Type 0 where
  pub count : length ls ≡ c
  pub words : ws ≡ literal_words ls ++ drop c ws
  pub known : (l : Literal) → In l ls → (1 ≤ l.variable) × (l.variable ≤ n)
  pub new : (l : Literal) → In l ls → names l.variable before ≡ false
  pub once : once ls ≡ true

-- a variable that differs from those of the clause
not_named : (v : ℕ) (c : Clause) → ((l : Literal) → In l c → eqb l.variable v ≡ false) → names v c ≡ false
unfolding names
not_named v c h = go (some (λ l. eqb l.variable v) c) refl
  where
    go : (b : Bool) → some (λ l. eqb l.variable v) c ≡ b → b ≡ false
    go false e = refl
    go true e = let m = some_in (λ l. eqb l.variable v) c e in absurd (false≢true (sym (h m.0 m.1) ∙ m.2))

literals_none : (n : ℕ) (before : Clause) (ws : List ℕ) → LiteralsRead n 0 before ws []
unfolding literal_words once
literals_none n before ws = record { count = refl; words = refl; known = all_nil _; new = all_nil _; once = refl }

literals_more : (n c : ℕ) (before : Clause) (w : ℕ) (ws : List ℕ) (l : Literal) (ls : Clause) → LiteralRead n before w l →
    LiteralsRead n c (before ++ (l ∷ [])) ws ls → LiteralsRead n (suc c) before (w ∷ ws) (l ∷ ls)
unfolding literal_words once
literals_more n c before w ws l ls a b =
    let apart : (m : Literal) → In m ls → (names m.variable before ≡ false) × (eqb l.variable m.variable ≡ false) =
    λ m i. neither _ _ (rw names_snoc at (b.new m i)) in
    let differ = not_named l.variable ls (λ m i. differ_sym l.variable m.variable (apart m i).1) in
    record {
      count = ap suc b.count;
      words = λ i. a.word i ∷ b.words i;
      known = all_cons (λ m. (1 ≤ m.variable) × (m.variable ≤ n)) a.known b.known;
      new = all_cons (λ m. names m.variable before ≡ false) a.new (λ m i. (apart m i).0);
      once = and_both (not (names l.variable ls)) _ (ap not differ) b.once;
    }

pub take_literals_accepted : (n c : ℕ) (before : Clause) (p : ℕ) (ws : List ℕ) (ls : Clause) →
    take_literals n c before p ws ≡ accepted ls → LiteralsRead n c before ws ls
unfolding take_literals
take_literals_accepted n zero before p ws ls e = subst (LiteralsRead n 0 before ws) (cc) (literals_none n before ws)
take_literals_accepted n (suc c) before p [] ls e = clash e refl
take_literals_accepted n (suc c) before p (w ∷ ws) ls e =
    bind_accepted _ _ e (λ l q r. bind_accepted _ _ r (λ ms q' r'.
    let read = take_literal_accepted n before p w l q in
    let rest = take_literals_accepted n c (before ++ (l ∷ [])) (p + 1) ws ms q' in
    subst (LiteralsRead n (suc c) before (w ∷ ws)) (cc) (literals_more n c before w ws l ms read rest)))

-- what an accepted clause is
pub record ClauseRead (n w : ℕ) (ws : List ℕ) (c : Clause) : Type 0 where
  pub word : w ≡ word CLAUSE_LENGTH (length c)
  pub words : ws ≡ literal_words c ++ drop (length c) ws
  pub formed : WellFormedClause n c

pub take_clause_accepted : (n p w : ℕ) (ws : List ℕ) (c : Clause) → take_clause n p w ws ≡ accepted c → ClauseRead n w ws c
unfolding take_clause
take_clause_accepted n p w ws c e =
    bind_accepted _ _ e (λ k q r.
    let a = take_number_accepted CLAUSE_LENGTH length_limit p w k q in
    let b = take_literals_accepted n k [] (p + 1) ws c r in
    record {
      word = a.0 ∙ ap (word CLAUSE_LENGTH) (sym b.count);
      words = rw b.count b.words;
      formed = record { short = omega (arith, a.1, b.count); known = b.known; once = b.once };
    })

-- ---- the clauses

pub record ClausesRead (n room : ℕ) (ws : List ℕ) (cs : List Clause) : Type 0 where
  pub words : clause_words cs ≡ ws
  pub fits : length cs ≤ room
  pub each : (c : Clause) → In c cs → WellFormedClause n c

clauses_none : (n room : ℕ) → ClausesRead n room [] []
unfolding clause_words
clauses_none n room = record { words = refl; fits = zero-le; each = all_nil _ }

pub take_clauses_accepted : (n room p : ℕ) (ws : List ℕ) (cs : List Clause) → take_clauses n room p ws ≡ accepted cs →
    ClausesRead n room ws cs
unfolding take_clauses clause_words
take_clauses_accepted n zero p [] cs e = subst (ClausesRead n 0 []) (cc) (clauses_none n 0)
take_clauses_accepted n (suc room) p [] cs e = subst (ClausesRead n (suc room) []) (cc) (clauses_none n (suc room))
take_clauses_accepted n zero p (w ∷ ws) cs e = bind_accepted _ _ e (λ v q r. clash r refl)
take_clauses_accepted n (suc room) p (w ∷ ws) cs e =
    bind_accepted _ _ e (λ c q r. bind_accepted _ _ r (λ ds q' r'.
    let read = take_clause_accepted n p w ws c q in
    let rest = take_clauses_accepted n room (p + 1 + length c) (drop (length c) ws) ds q' in
    subst (ClausesRead n (suc room) (w ∷ ws)) (cc) (clauses_more c ds read rest)))
  where
    clauses_more : (c : Clause) (ds : List Clause) → ClauseRead n w ws c → ClausesRead n room (drop (length c) ws) ds →
        ClausesRead n (suc room) (w ∷ ws) (c ∷ ds)
    clauses_more c ds a b =
        record {
          words = ap₂ ◌∷◌ (sym a.word) (ap (λ (r : List ℕ). literal_words c ++ r) b.words ∙ sym a.words);
          fits = omega (arith, b.fits);
          each = all_cons (WellFormedClause n) a.formed b.each;
        }

-- ---- the whole sheet

-- the first three words and the rest
pub three : (ws : List ℕ) → 3 ≤ length ws → get_or ws 0 0 ∷ get_or ws 1 0 ∷ get_or ws 2 0 ∷ drop 3 ws ≡ ws
three [] h = absurd (omega arith)
three (a ∷ []) h = absurd (omega arith)
three (a ∷ b ∷ []) h = absurd (omega arith)
three (a ∷ b ∷ c ∷ ws) h = refl

-- what an accepted header is
pub record HeaderRead (ws : List ℕ) (f : Formula) : Type 0 where
  pub words : formula_words f ≡ get_or ws 0 0 ∷ get_or ws 1 0 ∷ get_or ws 2 0 ∷ []
  pub formed : WellFormed f
  pub none : f.clauses ≡ []

pub take_header_accepted : (ws : List ℕ) (f : Formula) → take_header ws ≡ accepted f → HeaderRead ws f
unfolding take_header formula_words clause_words
take_header_accepted ws f e =
    bind_accepted _ _ e (λ high q r. bind_accepted _ _ r (λ low q' r'. bind_accepted _ _ r' (λ n q'' r''.
    let a = take_number_accepted _ _ _ _ _ q in
    let b = take_number_accepted _ _ _ _ _ q' in
    let c = take_number_accepted _ _ _ _ _ q'' in
    let top : (65536 * high + low) / 65536 ≡ high = omega (arith, b.1) in
    let rest : (65536 * high + low) % 65536 ≡ low = omega (arith, b.1) in
    let same : ◌≡◌ {A = Formula} (record { batch = 65536 * high + low; n = n; clauses = [] }) f = cc in
    subst (HeaderRead ws) same
    (record {
      words = rw (top, rest, a.0, b.0, c.0);
      formed = record { batch = omega (arith, a.1, b.1); variables = c.1; clauses = zero-le; each = all_nil _ };
      none = refl;
    }))))

-- a header with its clauses
pub header_clauses : (f : Formula) (cs : List Clause) → f.clauses ≡ [] →
    formula_words (record { batch = f.batch; n = f.n; clauses = cs }) ≡ formula_words f ++ clause_words cs
unfolding formula_words clause_words
header_clauses f cs none = rw none

pub record FormulaRead (ws : List ℕ) (f : Formula) : Type 0 where
  pub words : 3 ≤ length ws → formula_words f ≡ ws
  pub formed : WellFormed f

pub take_formula_accepted : (ws : List ℕ) (f : Formula) → take_formula ws ≡ accepted f → FormulaRead ws f
unfolding take_formula
take_formula_accepted ws f e =
    bind_accepted _ _ e (λ h q r. bind_accepted _ _ r (λ cs q' r'.
    let a = take_header_accepted ws h q in
    let b = take_clauses_accepted h.n clause_limit 3 (drop 3 ws) cs q' in
    let same : ◌≡◌ {A = Formula} (record { batch = h.batch; n = h.n; clauses = cs }) f = cc in
    subst (FormulaRead ws) same
    (record {
      words = λ l. rw (header_clauses h cs a.none, a.words, b.words) (three ws l);
      formed = record { batch = a.formed.batch; variables = a.formed.variables; clauses = b.fits; each = b.each };
    })))

-- the length of an accepted sheet is in order, and its words are the formula's
sheet_read : (s : List ℕ) (f : Formula) → parse s ≡ accepted f →
    (length s % 4 ≡ 0) × (12 ≤ length s) × FormulaRead (words s) f
unfolding parse
sheet_read s f e =
    when_accepted _ _ _ _ e (λ a e₁. when_accepted _ _ _ _ e₁ (λ b e₂. when_accepted _ _ _ _ e₂ (λ c e₃.
    (eqb-true _ _ (not-false _ b), ltb-false (length s) 12 c, take_formula_accepted (words s) f e₃))))

pub parse_well_formed : (s : List ℕ) (f : Formula) → parse s ≡ accepted f → WellFormed f
parse_well_formed s f e = (sheet_read s f e).2.formed

pub parse_accepted : (s : List ℕ) (f : Formula) → ((b : ℕ) → In b s → b < 256) → parse s ≡ accepted f →
    (encode f ≡ s) × WellFormed f
unfolding encode
parse_accepted s f small e =
    let (even, header, read) = sheet_read s f e in
    let back : formula_words f ≡ words s = read.words (omega (arith, length_words s)) in
    (ap bytes back ∙ bytes_words s even small, read.formed)
