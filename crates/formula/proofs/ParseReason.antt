-- The converse of ParseRefused.antt: where there is a Reason, the sheet is refused, with that number and that place. So a sheet is
-- accepted exactly if there is none.
use Rattle.std.specs.Prelude.{◌≡◌, refl, ◌↔◌, List, [], ◌∷◌, ◌++◌, ℕ, zero, suc, ◌+◌, ◌-◌, ◌/◌, eqb, length, get_or}
use Rattle.std.proofs.Common.{◌∙◌, inl, inr, ⊎_elim, append_assoc, append-nil, arith, length-append, eq-eqb, ne_eqb, lt-ltb, le-ltb}
use Rattle.words.proofs.ListLaws.{or_left, or_right}
use Rattle.words.specs.Bits.{width}
use Rattle.formula.specs.Formula.{Formula, length_limit, clause_limit}
use Rattle.formula.specs.Sheet.{Result, accepted, refused, ◌>>=◌, ◌>>◌, refuse_when, value, word, take_word, half_limit, byte_limit, take_number, take_literal, take_literals, take_clause, take_clauses, take_header, take_formula, parse, literal_words, formula_words, BATCH_HALF, VARIABLES, CLAUSE_LENGTH, LITERAL, ABOVE_LIMIT}
use Rattle.formula.proofs.SheetLaws.{clash, take_word_right, take_word_wrong}
use Rattle.formula.proofs.ParseEncode.{length_literal_words, take_half, take_clause_words, take_formula_words, parse_whole}
use Rattle.formula.proofs.ParseRefused.{parse_refused}
use Rattle.formula.specs.Refusals.{Due, batch_half, variables, clause_length, literal, kind_due, Above, Next, first_half, second_half, third_word, a_clause, a_literal, At, Reason, length_uneven, header_short, kind_wrong, clause_cut, value_above, sheet_long, variable_unknown, variable_repeated}

-- The reading of what is due at place p, where the words ws are left, ends in a refusal: with any n, and with any number of literals
-- that are still to come.
abbrev Stops : Due → (p : ℕ) → List ℕ → (x y : ℕ) → Type 0
Stops batch_half p ws x y = take_number BATCH_HALF half_limit p (get_or ws 0 0) ≡ refused x y
Stops variables p ws x y = take_number VARIABLES width p (get_or ws 0 0) ≡ refused x y
Stops (clause_length k) p ws x y = (n : ℕ) → take_clauses n (clause_limit - k) p ws ≡ refused x y
Stops (literal n before) p ws x y = (m : ℕ) → take_literals n (suc m) before p ws ≡ refused x y

-- Behind words that are in order, that refusal is the whole reading's.
formula_stops : {sofar : List ℕ} {due : Due} (ws : List ℕ) {x y : ℕ} → Next sofar due → Stops due (length sofar) ws x y →
    take_formula (sofar ++ ws) ≡ refused x y
unfolding take_formula take_header take_clauses ◌>>=◌
formula_stops ws (first_half e) = rw e (λ stop. rw stop)
formula_stops ws (second_half high h e) = rw e (λ stop. rw (take_half 0 high h, stop))
formula_stops ws (third_word high low h l e) = rw e (λ stop. rw (take_half 0 high h, take_half 1 low l, stop))
formula_stops ws (a_clause f h e) = rw e (λ stop. rw (take_formula_words f ws h, stop f.n))
formula_stops ws (a_literal f h room c short ls good more e) =
    let begun : List ℕ = word CLAUSE_LENGTH c ∷ literal_words ls in
    let p : ℕ = length (formula_words f) in
    let m : ℕ = c - suc (length ls) in
    let left : clause_limit - length f.clauses ≡ suc (clause_limit - 1 - length f.clauses) = omega arith in
    let here : length (formula_words f ++ begun) ≡ p + 1 + length ls = rw (length-append, length_literal_words) (omega arith) in
    rw e (λ stop. rw (
      append_assoc (formula_words f) begun ws,
      take_formula_words f (begun ++ ws) h,
      left,
      take_clause_words f.n c (suc m) ls p ws h.variables good short (omega arith),
      rw here at (stop m),
    ))

-- ---- one word

-- a word of another kind
word_stops : (due : Due) (p w : ℕ) (ws : List ℕ) {x y : ℕ} → take_word (kind_due due) p w ≡ refused x y →
    Stops due p (w ∷ ws) x y
unfolding take_number take_literals take_literal take_clauses take_clause ◌>>=◌
word_stops batch_half p w ws e = rw e
word_stops variables p w ws e = rw e
word_stops (literal n before) p w ws e = λ m. rw e
word_stops (clause_length k) p w ws {x} {y} e = λ n. go n (clause_limit - k)
  where
    go : (n room : ℕ) → take_clauses n room p (w ∷ ws) ≡ refused x y
    go n zero = rw e
    go n (suc room) = rw e

-- a value above its limit
above_stops : (due : Due) (p w : ℕ) (ws : List ℕ) {v : ℕ} → take_word (kind_due due) p w ≡ accepted v → Above due v →
    Stops due p (w ∷ ws) ABOVE_LIMIT p
unfolding take_number take_clauses take_clause ◌>>=◌ ◌>>◌ refuse_when
above_stops batch_half p w ws {v} e h = rw (e, lt-ltb half_limit v h)
above_stops variables p w ws {v} e h = rw (e, lt-ltb width v h)
above_stops (literal n before) p w ws e h = absurd h
above_stops (clause_length k) p w ws {v} e h = λ n. go n (clause_limit - k) refl h
  where
    go : (n room : ℕ) → clause_limit - k ≡ room → Above (clause_length k) v →
        take_clauses n room p (w ∷ ws) ≡ refused ABOVE_LIMIT p
    go n zero left above = rw e
    go n (suc room) left (inl above) = rw (e, lt-ltb length_limit v above)
    go n (suc room) left (inr above) = absurd (omega arith)

-- ---- the whole sheet

at_stops : {s : List ℕ} {p w x y : ℕ} {due : Due} (at : At s p w due) → Stops due p (w ∷ at.after) x y → parse s ≡ refused x y
at_stops at stop = parse_whole at.sized ∙ rw at.split (formula_stops (_ ∷ at.after) at.next (rw at.index at stop))

pub reason_refused : {s : List ℕ} {number place : ℕ} → Reason s number place → parse s ≡ refused number place
unfolding parse take_literals take_literal ◌>>=◌ ◌>>◌ refuse_when
reason_refused {s} (sheet_long h) = rw (lt-ltb byte_limit (length s) h)
reason_refused {s} (length_uneven h e) = rw (le-ltb byte_limit (length s) h, ne_eqb _ _ e)
reason_refused {s} (header_short e h) = rw (le-ltb byte_limit (length s) (omega arith), eq-eqb _ _ e, lt-ltb (length s) 12 h)
reason_refused (clause_cut whole next) = parse_whole whole ∙ rw append-nil at (formula_stops [] next (λ m. refl))
reason_refused (kind_wrong {place} {w} {due} at h) = at_stops at (word_stops due place w _ (take_word_wrong _ place w h))
reason_refused (value_above {place} {w} {due} at e h) = at_stops at (above_stops due place w _ (take_word_right _ place w e) h)
reason_refused (variable_unknown {place} {w} {n} at e h) =
    let v : ℕ = value w / 2 in
    let unknown = ⊎_elim (λ z. or_left _ _ (eq-eqb v 0 z)) (λ a. or_right (eqb v 0) _ (lt-ltb n v a)) h in
    at_stops at (λ m. rw (take_word_right LITERAL place w e, unknown))
reason_refused (variable_repeated {place} {w} {n} at e h r) =
    at_stops at (λ m. rw (take_word_right LITERAL place w e, ne_eqb (value w / 2) 0 (omega arith), le-ltb n (value w / 2) h.1, r))

pub accepted_exactly : (s : List ℕ) →
    ((f : Formula) × (parse s ≡ accepted f)) ↔ ((number place : ℕ) → Reason s number place → ⊥)
accepted_exactly s = (λ read number place why. clash read.1 (reason_refused why), λ none. go none (parse s) refl)
  where
    go : ((number place : ℕ) → Reason s number place → ⊥) → (r : Result Formula) → parse s ≡ r →
        (f : Formula) × (parse s ≡ accepted f)
    go none (accepted f) e = (f, e)
    go none (refused x y) e = absurd (none x y (parse_refused s x y e))
