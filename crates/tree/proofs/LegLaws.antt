-- The laws of legs: the two that a loop cites, and what a leg tells of its searches, from which all else follows.
use Rattle.std.specs.Prelude.{◌≡◌}
use Rattle.std.proofs.Math.Path.{refl, ap}
use Rattle.std.proofs.Common.{sym, ◌∙◌, subst, ⊎_elim, le_refl, le_trans, add-zero, sub-eq-zero_of_le, eq-or-lt_of_le, add-one}
use Prim.Native.Nat.{ℕ, zero, suc, ◌+◌, ◌-◌, ◌≤◌, ◌<◌}
use native.Mathlib.Omega.{arith}
use Rattle.words.proofs.ListLaws.{apart}
use Rattle.tree.specs.Explore.{Outcome, found, calls, plus, after}
use Rattle.tree.specs.Budget.{Answer, clear, spent, whole, answer}
use Rattle.tree.specs.Budget.{settle}
use Rattle.tree.proofs.BudgetLaws.{rest, rest_end, rest_step, answer_whole, answer_spent, clear_found, none_none, spent_calls, count_of, answer_count, plus_plus}
use Rattle.tree.proofs.TreeLaws.{Finds, calls_plus, after_least}
use Rattle.tree.specs.Legs.{Progress, progress, turn, leg_over, leg, cut}

-- the leg from search i on, where c calls are counted before
unfoldable pub leg_from : (ℕ → Outcome) → (A E c i : ℕ) → Progress
leg_from s A E c i = leg_over s A E (E - i) c i

module _ (s : ℕ → Outcome) (A E : ℕ) where
  pub leg_from_lem : (i : ℕ) → leg s A E i ≡ leg_from s A E 0 i
  unfolding leg leg_from
  leg_from_lem i = refl

  -- None are left, or search i comes first.
  pub leg_ends : (c i : ℕ) → E ≤ i → leg_from s A E c i ≡ progress (Answer.none c) E
  unfolding leg_from leg_over
  leg_ends c i h = rw (sub-eq-zero_of_le h)

  pub leg_goes_on : (c i : ℕ) → i < E → leg_from s A E c i ≡ turn E i c (settle A c (s i)) (λ d. leg_from s A E d (i + 1))
  unfolding leg_from settle
  leg_goes_on c i h =
      let e : E - i ≡ suc (E - (i + 1)) = omega arith in
      rw e (unfold leg_over in refl)

-- ---- what a leg tells

-- nothing is found from i up to j
abbrev pub Nothing : (ℕ → Outcome) → (i j : ℕ) → Type 0
Nothing s i j = (x : ℕ) → i ≤ x → x < j → Finds (s x) → ⊥

-- What a leg from i on says of the searches from i on, where c calls are counted before it: clear and none are what all of them give; and where it
-- is spent at j, those before j found nothing, search j does not fit, and the searches from j on, with the leg's calls, give what all give.
pub data Told (s : ℕ → Outcome) (A E c i : ℕ) : Progress → Type 0 where
  told_clear : (m d : ℕ) → d ≤ A → plus c (rest s E i) ≡ found m d → Told s A E c i (progress (clear m d) E)
  told_none : (d : ℕ) → d ≤ A → plus c (rest s E i) ≡ Outcome.none d → Nothing s i E → Told s A E c i (progress (Answer.none d) E)
  told_spent : (d j : ℕ) → i ≤ j → j < E → d ≤ A → A < d + calls (s j) → Nothing s i j →
      plus c (rest s E i) ≡ plus d (rest s E j) → Told s A E c i (progress (spent d) j)

-- A search that found nothing comes before what a leg tells of those after it.
told_before : {s : ℕ → Outcome} {A E c i d : ℕ} {p : Progress} → i < E → s i ≡ Outcome.none d → Told s A E (c + d) (i + 1) p → Told s A E c i p
told_before {s} {A} {E} {c} {i} {d} l e t = go t
  where
    all : plus c (rest s E i) ≡ plus (c + d) (rest s E (i + 1))
    all = rw (rest_step s E i l, e) (unfold after in plus_plus c d (rest s E (i + 1)))

    also : (j : ℕ) → Nothing s (i + 1) j → Nothing s i j
    also j h x l' b f =
        ⊎_elim (λ q. let none = ap s (sym q) ∙ e in apart (cc f.2)) (λ q. h x (rw add-one q) b f) (eq-or-lt_of_le l')

    go : {p : Progress} → Told s A E (c + d) (i + 1) p → Told s A E c i p
    go (told_clear m d' small g) = told_clear m d' small (all ∙ g)
    go (told_none d' small g h) = told_none d' small (all ∙ g) (also E h)
    go (told_spent d' j l' b small over h g) = told_spent d' j (omega arith) b small over (also j h) (all ∙ g)

-- what an outcome with c calls more tells of it
found_after : (c : ℕ) (o p : Outcome) (m d : ℕ) → plus c o ≡ found m d → plus c (after o p) ≡ found m d
unfolding plus after
found_after c (found m' d') p m d e = e
found_after c (Outcome.none d') p m d e = apart (cc)

plus_none : (c : ℕ) (o : Outcome) (d : ℕ) → plus c o ≡ Outcome.none d → (e : ℕ) × (o ≡ Outcome.none e) × (d ≡ c + e)
unfolding plus
plus_none c (found m d') d e = apart (cc)
plus_none c (Outcome.none d') d e = (d', refl, cc)

module _ (s : ℕ → Outcome) (A E : ℕ) where
  over_told : (k c i : ℕ) → c ≤ A → i + k ≡ E → Told s A E c i (leg_over s A E k c i)
  unfolding leg_over turn plus count_of
  over_told zero c i l e =
      told_none c l (ap (plus c) (rest_end s E i (omega arith)) ∙ ap Outcome.none (add-zero c)) (λ x l' b f. omega arith)
  over_told (suc k) c i l e = go (answer A (plus c (s i))) refl (λ d small. over_told k d (i + 1) small (omega arith))
    where
      inside : i < E
      inside = omega arith

      -- after d calls, the searches after this one
      go : (a : Answer) → answer A (plus c (s i)) ≡ a → ((d : ℕ) → d ≤ A → Told s A E d (i + 1) (leg_over s A E k d (i + 1))) →
          Told s A E c i (turn E i c a (λ d. leg_over s A E k d (i + 1)))
      go (clear m d) h onward =
          told_clear m d (answer_count A _ _ h) (rw (rest_step s E i inside) (found_after c (s i) _ m d (clear_found A _ m d h)))
      go (Answer.none d) h onward =
          let (d', f, g) = plus_none c (s i) d (none_none A _ d h) in
          told_before inside f (subst (λ (x : ℕ). Told s A E x (i + 1) (leg_over s A E k d (i + 1))) g (onward d (answer_count A _ _ h)))
      go (spent d) h onward =
          told_spent c i (le_refl i) inside l (rw calls_plus at (spent_calls A _ d h).0) (λ x l' b f. omega arith) refl

  -- A leg tells this.
  pub leg_told : (c i : ℕ) → c ≤ A → i ≤ E → Told s A E c i (leg_from s A E c i)
  unfolding leg_from
  leg_told c i l h = over_told (E - i) c i l (omega arith)

-- ---- one leg for all

-- The answer of all searches from i on is that of a leg from i on.
pub leg_answer : (s : ℕ → Outcome) (A E c i : ℕ) → c ≤ A → i ≤ E → settle A c (rest s E i) ≡ cut A (leg_from s A E c i).answer
unfolding settle cut calls whole
leg_answer s A E c i l h = go (leg_told s A E c i l h)
  where
    go : {p : Progress} → Told s A E c i p → answer A (plus c (rest s E i)) ≡ cut A p.answer
    go (told_clear m d small g) = rw g (answer_whole A (found m d) small)
    go (told_none d small g h') = rw g (answer_whole A (Outcome.none d) small)
    go (told_spent d j l' b small over h' g) =
        let first = after_least (s j) (rest s E (j + 1)) in
        rw g (answer_spent A _ (rw (calls_plus, rest_step s E j b) (omega arith)))

-- ---- larger budgets

-- A leg that is not spent is the same under every larger budget.
pub leg_stays : (s : ℕ → Outcome) (A B E c i : ℕ) → c ≤ A → A ≤ B → i ≤ E → ((d : ℕ) → (leg_from s A E c i).answer ≡ spent d → ⊥) →
    leg_from s B E c i ≡ leg_from s A E c i
unfolding calls
leg_stays s A B E c i l h inside not = go _ _ (leg_told s A E c i l inside) (leg_told s B E c i (le_trans l h) inside) not
  where
    -- what all searches give is counted by them
    over : (d : ℕ) (j : ℕ) (o : Outcome) → plus c (rest s E i) ≡ o → calls o ≤ A → j < E → B < d + calls (s j) →
        plus c (rest s E i) ≡ plus d (rest s E j) → ⊥
    over d j o e small b much g =
        let all : calls o ≡ d + calls (rest s E j) = ap calls (sym e ∙ g) ∙ calls_plus d _ in
        let first = after_least (s j) (rest s E (j + 1)) in
        omega (arith, ap calls (rest_step s E j b))

    go : (p q : Progress) → Told s A E c i p → Told s B E c i q → ((d : ℕ) → p.answer ≡ spent d → ⊥) → q ≡ p
    go p q (told_clear m d small g) (told_clear m' d' small' g') n = let e = sym g ∙ g' in cc
    go p q (told_clear m d small g) (told_none d' small' g' h') n = apart (cc)
    go p q (told_clear m d small g) (told_spent d' j l' b small' over' h' g') n = absurd (over d' j _ g small b over' g')
    go p q (told_none d small g h') (told_clear m' d' small' g') n = apart (cc)
    go p q (told_none d small g h') (told_none d' small' g' h'') n = let e = sym g ∙ g' in cc
    go p q (told_none d small g h') (told_spent d' j l' b small' over' h'' g') n = absurd (over d' j _ g small b over' g')
    go p q (told_spent d j l' b small over' h' g) t n = absurd (n d refl)

-- ---- a leg gets on

-- Where the budget is enough for the next search, a leg that is spent is past it.
pub leg_moves : (s : ℕ → Outcome) (A E i : ℕ) → i < E → calls (s i) ≤ A → (p : Progress) → Told s A E 0 i p → (d : ℕ) → p.answer ≡ spent d → i < p.next
leg_moves s A E i inside enough p t d e = go t e
  where
    go : {p : Progress} → Told s A E 0 i p → p.answer ≡ spent d → i < p.next
    go (told_clear m d' small g) e' = apart (cc)
    go (told_none d' small g h) e' = apart (cc)
    go (told_spent d' j l b small over h g) e' =
        let nothing : 0 + calls (rest s E i) ≡ d' + calls (rest s E j) = sym (calls_plus 0 _) ∙ ap calls g ∙ calls_plus d' _ in
        ⊎_elim (λ q. absurd (omega (arith, ap (λ (x : ℕ). calls (s x)) q, ap (λ (x : ℕ). calls (rest s E x)) q))) (λ q. q) (eq-or-lt_of_le l)
