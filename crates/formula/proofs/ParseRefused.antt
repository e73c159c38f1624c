-- Every refusal is one of the rows of the table: its number, its place and its reason (Refusals.antt).
use Rattle.std.specs.Prelude.{◌≡◌, true, false, not, eqb, ltb, drop}
use Rattle.std.proofs.Math.Path.{refl, sym, ap, subst₂}
use Rattle.std.proofs.Common.{◌∙◌, zero-add, arith, ltb-true, ltb-false, eqb-true}
use Rattle.std.proofs.Math.Logic.{inl, inr, ⊎_elim}
use mathlib.Core.List.{List, [], ◌∷◌, ◌++◌, append_assoc, append-nil}
use Prim.Native.Nat.{ℕ, zero, suc, ◌+◌, ◌/◌, ◌≤◌, ◌<◌, zero-le}
use Rattle.std.proofs.Math.ListN.{length, length-append}
use Rattle.std.proofs.lemmas.Bool.{eqb-false, not-false, not-true}
use Rattle.words.specs.Lists.{some}
use Rattle.words.proofs.ListLaws.{or_cases, and_left, and_right, and_both}
use Rattle.words.specs.Bits.{width}
use Rattle.formula.specs.Formula.{Literal, Clause, Formula, names, once, length_limit, clause_limit, WellFormedClause, WellFormed, literal_word}
use Rattle.formula.specs.Sheet.{refused, words, word, take_word, take_number, take_literal, take_literals, take_clause, take_clauses, take_header, take_formula, parse, literal_words, clause_words, formula_words, CLAUSE_LENGTH, LITERAL, half_limit, byte_limit}
use Rattle.formula.proofs.ParseEncode.{length_literal_words}
use Rattle.formula.proofs.ParseAccepted.{LiteralRead, take_number_accepted, take_literal_accepted, take_clause_accepted, take_header_accepted, three}
use Rattle.formula.proofs.SheetLaws.{clash, known, names_snoc, all_nil, all_cons, all_append, bind_refused, when_refused, neither, differ_sym, length_words, take_word_accepted}
use Rattle.formula.specs.Refusals.{Due, literal, kind_due, Above, Next, first_half, second_half, third_word, a_clause, a_literal, Sized, At, Reason, length_uneven, header_short, kind_wrong, clause_cut, value_above, sheet_long, variable_unknown, variable_repeated}

module _ {s : List ℕ} {p w : ℕ} where
  word_refused : {due : Due} {x y : ℕ} → At s p w due → take_word (kind_due due) p w ≡ refused x y → Reason s x y
  unfolding take_word
  word_refused at e =
      when_refused _ _ _ _ e
      (λ t a b. subst₂ (Reason s) a b (kind_wrong at (eqb-false _ _ (not-true _ t))))
      (λ t q. clash refl q)

  number_refused : {due : Due} {x y : ℕ} (limit : ℕ) → ((v : ℕ) → limit < v → Above due v) → At s p w due →
      take_number (kind_due due) limit p w ≡ refused x y → Reason s x y
  unfolding take_number
  number_refused limit above at e =
      bind_refused _ _ e (λ q. word_refused at q) (λ v q r. when_refused _ _ _ _ r
      (λ t a b.
      let (right, same) = take_word_accepted _ _ _ _ q in
      subst₂ (Reason s) a b (value_above at right (above _ (rw same (ltb-true limit v t)))))
      (λ t c. clash refl c))

  literal_refused : {n : ℕ} {before : Clause} {x y : ℕ} → At s p w (literal n before) →
      take_literal n before p w ≡ refused x y → Reason s x y
  unfolding take_literal
  literal_refused {n} {before} at e =
      bind_refused _ _ e (λ q. word_refused at q) (λ v q r.
      let (right, same) = take_word_accepted _ _ _ _ q in
      when_refused _ _ _ _ r
      (λ t a b.
      let which = ⊎_elim (λ h. inl (eqb-true _ _ h)) (λ h. inr (ltb-true _ _ h)) (or_cases (eqb (v / 2) 0) (ltb n (v / 2)) t) in
      subst₂ (Reason s) a b (variable_unknown at right (rw same which)))
      (λ t r'. when_refused _ _ _ _ r'
      (λ t' a b. subst₂ (Reason s) a b (variable_repeated at right (rw same (known n (v / 2) t)) (rw same t')))
      (λ t' c. clash refl c)))

-- ---- one literal more, one clause more

literal_words_snoc : (c : Clause) (l : Literal) →
    literal_words (c ++ (l ∷ [])) ≡ literal_words c ++ (word LITERAL (literal_word l) ∷ [])
unfolding literal_words
literal_words_snoc [] l = refl
literal_words_snoc (m ∷ c) l = ap (λ (r : List ℕ). word LITERAL (literal_word m) ∷ r) (literal_words_snoc c l)

once_snoc : (c : Clause) (l : Literal) → once c ≡ true → names l.variable c ≡ false → once (c ++ (l ∷ [])) ≡ true
unfolding once names some
once_snoc [] l o new = refl
once_snoc (m ∷ c) l o new =
    let tests = neither (eqb m.variable l.variable) (names l.variable c) new in
    let old : names m.variable c ≡ false = not-true _ (and_left (not (names m.variable c)) (once c) o) in
    let other : eqb l.variable m.variable ≡ false = differ_sym m.variable l.variable tests.0 in
    let first : names m.variable (c ++ (l ∷ [])) ≡ false = rw (names_snoc m.variable c l, old, other) in
    and_both _ _ (ap not first) (once_snoc c l (and_right (not (names m.variable c)) (once c) o) tests.1)

clause_snoc : (n : ℕ) (c : Clause) (w : ℕ) (l : Literal) → WellFormedClause n c → length c < length_limit →
    LiteralRead n c w l → WellFormedClause n (c ++ (l ∷ []))
clause_snoc n c w l h room read =
    record {
      short = rw length-append (omega arith);
      known = all_append _ c h.known (all_cons _ read.known (all_nil _));
      once = once_snoc c l h.once read.new;
    }

clause_words_snoc : (cs : List Clause) (c : Clause) →
    clause_words (cs ++ (c ∷ [])) ≡ clause_words cs ++ (word CLAUSE_LENGTH (length c) ∷ literal_words c)
unfolding clause_words
clause_words_snoc [] c = ap (λ (r : List ℕ). word CLAUSE_LENGTH (length c) ∷ r) (append-nil (literal_words c))
clause_words_snoc (d ∷ cs) c = rw (clause_words_snoc cs c, append_assoc)

-- the formula with one clause more
more : Formula → Clause → Formula
more f c = record { batch = f.batch; n = f.n; clauses = f.clauses ++ (c ∷ []) }

more_words : (f : Formula) (c : Clause) →
    formula_words (more f c) ≡ formula_words f ++ (word CLAUSE_LENGTH (length c) ∷ literal_words c)
unfolding formula_words more
more_words f c = rw (clause_words_snoc f.clauses c)

more_formed : (f : Formula) (c : Clause) → WellFormed f → length f.clauses < clause_limit →
    WellFormedClause f.n c → WellFormed (more f c)
unfolding more
more_formed f c h room new =
    record {
      batch = h.batch;
      variables = h.variables;
      clauses = rw length-append (omega arith);
      each = all_append _ f.clauses h.each (all_cons _ new (all_nil _));
    }

-- ---- word by word

-- the word at a place, where all words before it are in order
at_word : {s : List ℕ} → Sized s → {sofar : List ℕ} {due : Due} {p w : ℕ} (ws : List ℕ) →
    words s ≡ sofar ++ (w ∷ ws) → p ≡ length sofar → Next sofar due → At s p w due
at_word sized ws split index next =
    record { sized = sized; before = _; after = ws; split = split; index = index; next = next }

-- the words so far and the words to come, after some of these were read
advance : (s sofar mid rest : List ℕ) (p q : ℕ) → words s ≡ sofar ++ (mid ++ rest) →
    p ≡ length sofar → q ≡ p + length mid → (words s ≡ (sofar ++ mid) ++ rest) × (q ≡ length (sofar ++ mid))
advance s sofar mid rest p q split index step = (rw append_assoc split, rw length-append (omega arith))

module _ (s : List ℕ) (sized : Sized s) (f : Formula) (formed : WellFormed f) (room : length f.clauses < clause_limit)
    (c : ℕ) (short : c ≤ length_limit) where
  literals_refused : (m : ℕ) (ls : Clause) (p : ℕ) (sofar ws : List ℕ) (x y : ℕ) →
      WellFormedClause f.n ls → length ls + m ≡ c →
      sofar ≡ formula_words f ++ (word CLAUSE_LENGTH c ∷ literal_words ls) → words s ≡ sofar ++ ws → p ≡ length sofar →
      take_literals f.n m ls p ws ≡ refused x y → Reason s x y
  unfolding take_literals
  literals_refused zero ls p sofar ws x y good left spelt split index e = clash refl e
  literals_refused (suc m) ls p sofar [] x y good left spelt split index e =
      let all : words s ≡ sofar = split ∙ append-nil sofar in
      let here : length (words s) ≡ y = ap length all ∙ sym index ∙ cc in
      subst₂ (Reason s) (cc) here (clause_cut sized (a_literal f formed room c short ls good (omega arith) (all ∙ spelt)))
  literals_refused (suc m) ls p sofar (w ∷ ws) x y good left spelt split index e =
      let next = a_literal f formed room c short ls good (omega arith) spelt in
      bind_refused _ _ e
      (λ q. literal_refused (at_word sized ws split index next) q)
      (λ l q r. bind_refused _ _ r
      (λ q'.
      let read = take_literal_accepted f.n ls p w l q in
      let (split', index') = advance s sofar (w ∷ []) ws p (p + 1) split index refl in
      literals_refused m (ls ++ (l ∷ [])) (p + 1) (sofar ++ (w ∷ [])) ws x y
      (clause_snoc f.n ls w l good (omega arith) read) (rw length-append (omega arith))
      (rw (literal_words_snoc ls l, spelt, read.word, append_assoc)) split' index' q')
      (λ ms q' r'. clash refl r'))

-- no literal yet
clause_empty : (n : ℕ) → WellFormedClause n []
unfolding once
clause_empty n = record { short = zero-le; known = all_nil _; once = refl }

module _ (s : List ℕ) (sized : Sized s) where
  clauses_refused : (room : ℕ) (f : Formula) (p : ℕ) (ws : List ℕ) (x y : ℕ) → WellFormed f →
      length f.clauses + room ≡ clause_limit → words s ≡ formula_words f ++ ws → p ≡ length (formula_words f) →
      take_clauses f.n room p ws ≡ refused x y → Reason s x y
  unfolding take_clauses take_clause literal_words more
  clauses_refused zero f p [] x y formed left split index e = clash refl e
  clauses_refused (suc room) f p [] x y formed left split index e = clash refl e
  clauses_refused zero f p (w ∷ ws) x y formed left split index e =
      let at = at_word sized ws split index (a_clause f formed refl) in
      bind_refused _ _ e (λ q. word_refused at q)
      (λ v q r. subst₂ (Reason s) (cc) (cc) (value_above at (take_word_accepted _ _ _ _ q).0 (inr (omega arith))))
  clauses_refused (suc room) f p (w ∷ ws) x y formed left split index e =
      let at = at_word sized ws split index (a_clause f formed refl) in
      bind_refused _ _ e
      (λ q. bind_refused _ _ q (λ q'. number_refused length_limit (λ v h. inl h) at q')
      (λ c q' r.
      let read = take_number_accepted _ _ _ _ _ q' in
      let (split', index') = advance s (formula_words f) (w ∷ []) ws p (p + 1) split index refl in
      literals_refused s sized f formed (omega arith) c read.1 c [] (p + 1) (formula_words f ++ (w ∷ [])) ws x y
      (clause_empty f.n) (zero-add c) (rw read.0) split' index' r))
      (λ c q r. bind_refused _ _ r
      (λ q'.
      let read = take_clause_accepted f.n p w ws c q in
      let whole = split ∙ ap (λ (r : List ℕ). formula_words f ++ (w ∷ r)) read.words in
      let (split', index') = advance s (formula_words f) (w ∷ literal_words c) (drop (length c) ws) p (p + 1 + length c) whole index
      (omega (arith, length_literal_words c)) in
      let spelt : formula_words (more f c) ≡ formula_words f ++ (w ∷ literal_words c) = more_words f c ∙ rw read.word in
      clauses_refused room (more f c) (p + 1 + length c) (drop (length c) ws) x y
      (more_formed f c formed (omega arith) read.formed) (rw length-append (omega arith))
      (rw spelt split') (rw spelt index') q')
      (λ cs q' r'. clash refl r'))

  formula_refused : (x y : ℕ) → take_formula (words s) ≡ refused x y → Reason s x y
  unfolding take_formula take_header
  formula_refused x y e =
      let split = sym (three (words s) (omega (arith, length_words s, sized.header))) in
      bind_refused _ _ e (λ q. bind_refused _ _ q
      (λ q₀. number_refused half_limit (λ v h. h) (at_word sized {sofar = []} _ split refl (first_half refl)) q₀)
      (λ high q₀ r₀. let (w₀, l₀) = take_number_accepted _ _ _ _ _ q₀ in bind_refused _ _ r₀
      (λ q₁. number_refused half_limit (λ v h. h) (at_word sized {sofar = _ ∷ []} _ split refl (second_half high l₀ (rw w₀))) q₁)
      (λ low q₁ r₁. let (w₁, l₁) = take_number_accepted _ _ _ _ _ q₁ in bind_refused _ _ r₁
      (λ q₂.
      let next = third_word high low l₀ l₁ (rw (w₀, w₁)) in
      number_refused width (λ v h. h) (at_word sized {sofar = _ ∷ _ ∷ []} _ split refl next) q₂)
      (λ n q₂ r₂. clash refl r₂))))
      (λ f q r. let h = take_header_accepted (words s) f q in bind_refused _ _ r
      (λ q'.
      clauses_refused clause_limit f 3 (drop 3 (words s)) x y h.formed
      (rw h.none) (rw h.words split) (rw h.words) q')
      (λ cs q' r'. clash refl r'))

pub parse_refused : (s : List ℕ) (number place : ℕ) → parse s ≡ refused number place → Reason s number place
unfolding parse
parse_refused s number place e =
    when_refused _ _ _ _ e
    (λ t a b. subst₂ (Reason s) a b (sheet_long (ltb-true byte_limit (length s) t)))
    (λ t e₁.
    let limit = ltb-false byte_limit (length s) t in
    when_refused _ _ _ _ e₁
    (λ t₁ a b. subst₂ (Reason s) a b (length_uneven limit (eqb-false _ _ (not-true _ t₁))))
    (λ t₁ e₂.
    let even = eqb-true _ _ (not-false _ t₁) in
    when_refused _ _ _ _ e₂
    (λ t₂ a b. subst₂ (Reason s) a b (header_short even (ltb-true (length s) 12 t₂)))
    (λ t₂ e₃. formula_refused s (record { limit = limit; words = even; header = ltb-false (length s) 12 t₂ }) number place e₃)))

-- A refusal's number is 1 to 7.
pub reason_number : {s : List ℕ} {number place : ℕ} → Reason s number place → (1 ≤ number) × (number ≤ 7)
reason_number (length_uneven _ _) = omega arith
reason_number (header_short _ _) = omega arith
reason_number (kind_wrong _ _) = omega arith
reason_number (clause_cut _ _) = omega arith
reason_number (value_above _ _ _) = omega arith
reason_number (sheet_long _) = omega arith
reason_number (variable_unknown _ _ _) = omega arith
reason_number (variable_repeated _ _ _ _) = omega arith
