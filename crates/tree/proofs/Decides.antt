-- What an engine promises is that it decides; demand 2, larger budgets and further clauses follow from that alone, for every engine.
use Rattle.std.specs.Prelude.{◌≡◌, ◌⊎◌, ◌↔◌, true, List, ℕ, ◌^◌, ◌≤◌, ◌<◌}
use Rattle.std.proofs.Math.Path.{refl, ap}
use Rattle.std.proofs.Common.{sym, ◌∙◌, inl, inr, ⊎_elim, le_trans}
use Rattle.words.proofs.ListLaws.{apart}
use Rattle.formula.specs.Formula.{Clause, all_true, Satisfiable}
use Rattle.formula.specs.Sets.{stands}
use Rattle.formula.proofs.SetLaws.{stands_model}
use Rattle.tree.specs.Explore.{Outcome, found, calls}
use Rattle.tree.specs.Budget.{Answer, clear, spent, whole, answer}
use Rattle.tree.proofs.BudgetLaws.{count_of, assignment_of, answer_whole, answer_spent, answer_is, count_whole, clear_found, none_none, spent_calls}
use Rattle.tree.proofs.TreeLaws.{Finds}

-- What is found is a model, and where there is a model something is found.
pub record Decides (n : ℕ) (cs : List Clause) (o : Outcome) : Type 0 where
  pub sound : (m c : ℕ) → o ≡ found m c → (m < 2 ^ n) × (all_true m cs ≡ true)
  pub complete : Satisfiable n cs → Finds o

-- ---- the answer within a budget

abbrev pub IsClear : Answer → Type 0
IsClear a = (m : ℕ) × (c : ℕ) × (a ≡ clear m c)

abbrev pub IsNone : Answer → Type 0
IsNone a = (c : ℕ) × (a ≡ Answer.none c)

abbrev pub IsSpent : Answer → Type 0
IsSpent a = (c : ℕ) × (a ≡ spent c)

-- Demand 2, of an answer a within the budget A where so many calls are needed.
pub record Correct (n : ℕ) (cs : List Clause) (needed A : ℕ) (a : Answer) : Type 0 where
  -- within the budget, clear exactly where some assignment meets every clause,
  pub clear : needed ≤ A → IsClear a ↔ Satisfiable n cs
  -- and the answer's assignment is one;
  pub model : IsClear a → (assignment_of a < 2 ^ n) × (all_true (assignment_of a) cs ≡ true)
  -- within the budget, none exactly where no assignment does;
  pub none : needed ≤ A → IsNone a ↔ (Satisfiable n cs → ⊥)
  -- within the budget the count is the calls needed;
  pub count : needed ≤ A → count_of a ≡ needed
  -- spent exactly where more calls are needed than the budget has,
  pub spent : IsSpent a ↔ (A < needed)
  -- with the budget as count and no assignment.
  pub full : IsSpent a → (count_of a ≡ A) × (assignment_of a ≡ 0)

module _ (n : ℕ) (cs : List Clause) (o : Outcome) (decides : Decides n cs o) where
  -- an outcome without an assignment: no assignment meets every clause
  pub none_unsat : (c : ℕ) → o ≡ Outcome.none c → Satisfiable n cs → ⊥
  none_unsat c e s = let (m, d, g) = decides.complete s in apart (cc)

  sat_clear : Satisfiable n cs → IsClear (whole o)
  unfolding whole
  sat_clear s = let (m, c, e) = decides.complete s in (m, c, rw e)

  unsat_none : (p : Outcome) → o ≡ p → (Satisfiable n cs → ⊥) → IsNone (whole p)
  unfolding whole Satisfiable
  unsat_none (found m c) e h = let g = decides.sound m c e in absurd (h (m, g.0, g.1))
  unsat_none (Outcome.none c) e h = (c, refl)

  clear_model : (A m c : ℕ) → answer A o ≡ clear m c → (m < 2 ^ n) × (all_true m cs ≡ true)
  clear_model A m c e = decides.sound m c (clear_found A o m c e)

  -- Demand 2.
  pub answer_correct : (A : ℕ) → Correct n cs (calls o) A (answer A o)
  unfolding Satisfiable assignment_of count_of
  answer_correct A =
      record {
        clear =
            λ l. (
              λ (m, c, e). let g = clear_model A m c e in (m, g.0, g.1),
              λ s. rw (answer_whole A o l) (sat_clear s),
            );
        model = λ (m, c, e). rw e (clear_model A m c e);
        none = λ l. (λ (c, e) s. none_unsat c (none_none A o c e) s, λ h. rw (answer_whole A o l) (unsat_none o refl h));
        count = λ l. ap count_of (answer_whole A o l) ∙ count_whole o;
        spent = (λ (c, e). (spent_calls A o c e).0, λ h. (A, answer_spent A o h));
        full = λ (c, e). rw e ((spent_calls A o c e).1, refl);
      }

-- Demand 3, the budget: an answer that is not spent is the same under every larger budget.
pub answer_stays : (o : Outcome) (A B : ℕ) → A ≤ B → (IsSpent (answer A o) → ⊥) → answer B o ≡ answer A o
answer_stays o A B l h =
    ⊎_elim
    (λ w. answer_whole B o (le_trans w.0 l) ∙ w.1)
    (λ w. absurd (h (A, sym w.1)))
    (answer_is A o (answer A o) refl)

-- an answer is one of the three
answer_cases : (a : Answer) → IsClear a ⊎ (IsNone a ⊎ IsSpent a)
answer_cases (clear m c) = inl (m, c, refl)
answer_cases (Answer.none c) = inr (inl (c, refl))
answer_cases (spent c) = inr (inr (c, refl))

-- Demand 3, further clauses: after a none, a search of clauses in which the first ones all stand is never clear, and is none where
-- it is not spent.
pub further_none : (n : ℕ) (cs ds : List Clause) (o p : Outcome) → Decides n cs o → Decides n ds p →
    stands cs ds ≡ true → (A B : ℕ) → IsNone (answer A o) →
    (IsClear (answer B p) → ⊥) × ((IsSpent (answer B p) → ⊥) → IsNone (answer B p))
further_none n cs ds o p first second e A B (c, none) = (
  never,
  λ h. ⊎_elim (λ w. absurd (never w)) (λ w. ⊎_elim (λ d. d) (λ d. absurd (h d)) w) (answer_cases (answer B p)),
)
  where
    never : IsClear (answer B p) → ⊥
    never (m, d, g) =
        let h = clear_model n ds p second B m d g in
        let model : Satisfiable n cs = unfold Satisfiable in (m, h.0, stands_model cs ds e m h.1) in
        none_unsat n cs o first c (none_none A o c none) model
