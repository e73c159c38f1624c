-- Laws of the formulas that are searched, whichever way.
use Rattle.std.specs.Prelude.{◌≡◌, refl, Bool, false, not, List, [], ◌∷◌, ℕ, ◌≤◌, eqb, length}
use Rattle.std.proofs.Common.{sym, ◌∙◌, zero-le, le_refl, arith, eq-eqb}
use Rattle.std.proofs.lemmas.Bool.{false≢true, not-true}
use mathlib.Core.List.Memᴰ
use Rattle.words.specs.Lists.{In, some}
use Rattle.words.proofs.ListLaws.{and_left, in_some, refute}
use Rattle.formula.specs.Formula.{Literal, Clause, Formula, WellFormedClause, WellFormed, met, some_met, names, once}

-- the empty clause is never true
pub empty_never : (m : ℕ) → some_met m [] ≡ false
unfolding some_met some
empty_never m = refl

-- every literal is over the variables 1 to n
unfoldable pub Known : ℕ → List Clause → Type 0
Known n cs = (c : Clause) → In c cs → (l : Literal) → In l c → (1 ≤ l.variable) × (l.variable ≤ n)

-- A formula that a sheet can hold is so.
pub well_formed_known : (f : Formula) → WellFormed f → Known f.n f.clauses
unfolding Known
well_formed_known f h c i l j = (h.each c i).known l j

-- in a false clause no literal is met
pub clause_unmet : (m : ℕ) (c : Clause) → some_met m c ≡ false → (l : Literal) → In l c → met m l ≡ false
unfolding some_met
clause_unmet m c e l i = refute (met m l) (λ q. false≢true (sym e ∙ in_some (met m) c l i q))

-- over one variable a clause has at most one literal
pub one_variable : {n : ℕ} (c : Clause) → WellFormedClause n c → n ≤ 1 → length c ≤ 1
unfolding once names
one_variable [] f h = zero-le
one_variable (l ∷ []) f h = le_refl 1
one_variable (l ∷ l' ∷ c) f h =
    let a = f.known l (Memᴰ.head refl) in
    let b = f.known l' (Memᴰ.tail (Memᴰ.head refl)) in
    let same : Literal → Bool = λ x. eqb x.variable l.variable in
    let apart = not-true _ (and_left (not (names l.variable (l' ∷ c))) (once (l' ∷ c)) f.once) in
    absurd (false≢true (sym apart ∙ in_some same (l' ∷ c) l' (Memᴰ.head refl) (eq-eqb l'.variable l.variable (omega arith))))
