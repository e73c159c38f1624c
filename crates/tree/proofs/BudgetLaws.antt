-- The answer within a budget, step by step: the laws for a search that counts its calls from c on and stops at the budget A.
use Rattle.std.specs.Prelude.{◌≡◌, ◌⊎◌, Bool, List, [], ◌∷◌}
use Rattle.std.proofs.Math.Path.{refl, sym, ap}
use Rattle.std.proofs.Common.{◌∙◌, add-zero, add_assoc, sub-eq-zero_of_le, add-one, arith}
use Rattle.std.proofs.Math.Logic.{inl, inr, ⊎_elim}
use Rattle.std.proofs.Math.Bool.{true, false, cond}
use Prim.Native.Nat.{ℕ, zero, suc, ◌+◌, ◌-◌, ◌≤◌, ◌<◌}
use Rattle.std.proofs.Math.Numerals.{sub-one}
use Rattle.std.proofs.Math.Dec.{leb}
use types.Run.{OneOf}
use borrow.Author.Tests.{leb-true, leb-false, le-leb, lt-leb}
use Rattle.words.specs.Lists.{span}
use Rattle.words.proofs.ListLaws.{apart}
use Rattle.tree.specs.Explore.{Outcome, found, calls, plus, after, try, call, Tree, explore}
use Rattle.tree.specs.Budget.{Answer, clear, spent, whole, answer, settle}
use Rattle.tree.specs.declared.Found.{Found}
use Rattle.tree.specs.declared.Found.TheVariants.{Clear, None, Spent}
use Rattle.tree.specs.Machine.{answer_in}
use Rattle.tree.proofs.TreeLaws.{calls_plus, plus_zero, explore_some}

-- ---- an answer by its parts

-- the count of an answer, and its assignment: without one it reads as 0
unfoldable pub count_of : Answer → ℕ
count_of (clear m c) = c
count_of (Answer.none c) = c
count_of (spent c) = c

unfoldable pub assignment_of : Answer → ℕ
assignment_of (clear m c) = m
assignment_of (Answer.none c) = 0
assignment_of (spent c) = 0

-- ---- the answer of an outcome

module _ (A : ℕ) (o : Outcome) where
  pub answer_whole : calls o ≤ A → answer A o ≡ whole o
  unfolding answer
  answer_whole h = rw (le-leb (calls o) A h)

  pub answer_spent : A < calls o → answer A o ≡ spent A
  unfolding answer
  answer_spent h = rw (lt-leb (calls o) A h)

  -- every answer is one of the two
  pub answer_is : (a : Answer) → answer A o ≡ a → ((calls o ≤ A) × (whole o ≡ a)) ⊎ ((A < calls o) × (spent A ≡ a))
  unfolding answer
  answer_is a e = go (leb (calls o) A) refl e
    where
      go : (b : Bool) → leb (calls o) A ≡ b → cond b (whole o) (spent A) ≡ a →
          ((calls o ≤ A) × (whole o ≡ a)) ⊎ ((A < calls o) × (spent A ≡ a))
      go true h e' = inl (leb-true (calls o) A h, e')
      go false h e' = inr (leb-false (calls o) A h, e')

pub count_whole : (o : Outcome) → count_of (whole o) ≡ calls o
unfolding count_of whole calls
count_whole (found m c) = refl
count_whole (Outcome.none c) = refl

-- no answer counts more than the budget
pub answer_count : (A : ℕ) (o : Outcome) (a : Answer) → answer A o ≡ a → count_of a ≤ A
unfolding count_of
answer_count A o a e =
    ⊎_elim
    (λ w. omega (arith, ap count_of w.1, count_whole o))
    (λ w. omega (arith, ap count_of w.1))
    (answer_is A o a e)

whole_clear : (o : Outcome) (m c : ℕ) → whole o ≡ clear m c → o ≡ found m c
unfolding whole
whole_clear (found m' c') m c e = cc
whole_clear (Outcome.none c') m c e = apart (cc)

whole_none : (o : Outcome) (c : ℕ) → whole o ≡ Answer.none c → o ≡ Outcome.none c
unfolding whole
whole_none (found m' c') c e = apart (cc)
whole_none (Outcome.none c') c e = cc

whole_never : (o : Outcome) (c : ℕ) → whole o ≡ spent c → ⊥
unfolding whole
whole_never (found m' c') c e = apart (cc)
whole_never (Outcome.none c') c e = apart (cc)

-- What each answer tells of the outcome.
module _ (A : ℕ) (o : Outcome) where
  pub clear_found : (m c : ℕ) → answer A o ≡ clear m c → o ≡ found m c
  clear_found m c e = ⊎_elim (λ h. whole_clear o m c h.1) (λ h. apart (cc h.1)) (answer_is A o (clear m c) e)

  pub none_none : (c : ℕ) → answer A o ≡ Answer.none c → o ≡ Outcome.none c
  none_none c e = ⊎_elim (λ h. whole_none o c h.1) (λ h. apart (cc h.1)) (answer_is A o (Answer.none c) e)

  pub spent_calls : (c : ℕ) → answer A o ≡ spent c → (A < calls o) × (c ≡ A)
  spent_calls c e = ⊎_elim (λ h. absurd (whole_never o c h.1)) (λ h. (h.0, cc h.1)) (answer_is A o (spent c) e)

-- ---- a search that has counted c calls before

-- ---- one after the other

-- An answer, and after none what follows from its calls on.
abbrev pub onward : Answer → (ℕ → Answer) → Answer
onward (clear m c) next = clear m c
onward (Answer.none c) next = next c
onward (spent c) next = spent c

pub plus_plus : (c d : ℕ) (o : Outcome) → plus c (plus d o) ≡ plus (c + d) o
unfolding plus
plus_plus c d (found m e) = ap (found m) (sym (add_assoc c d e))
plus_plus c d (Outcome.none e) = ap Outcome.none (sym (add_assoc c d e))

pub settle_none : (A c : ℕ) → c ≤ A → settle A c (Outcome.none 0) ≡ Answer.none c
unfolding settle plus whole calls
settle_none A c h = answer_whole A (Outcome.none (c + 0)) (omega arith) ∙ ap Answer.none (add-zero c)

-- with nothing counted before
pub settle_start : (A : ℕ) (o : Outcome) → settle A 0 o ≡ answer A o
unfolding settle
settle_start A o = ap (answer A) (plus_zero o)

module _ (A c : ℕ) where
  -- after d calls more
  pub settle_plus : (d : ℕ) (o : Outcome) → settle A c (plus d o) ≡ settle A (c + d) o
  unfolding settle
  settle_plus d o = ap (answer A) (plus_plus c d o)

  -- more calls than are left
  pub settle_spent : (o : Outcome) → A < c + calls o → settle A c o ≡ spent A
  unfolding settle
  settle_spent o h = answer_spent A (plus c o) (rw calls_plus h)

  -- none counts all calls, within the budget
  pub settle_is_none : (o : Outcome) (d : ℕ) → settle A c o ≡ Answer.none d → (d ≡ c + calls o) × (d ≤ A)
  unfolding settle count_of
  settle_is_none o d e =
      ⊎_elim
      (λ h. let n : calls (plus c o) ≡ d = sym (count_whole (plus c o)) ∙ ap count_of h.1 in omega (arith, calls_plus c o))
      (λ h. apart (cc h.1))
      (answer_is A (plus c o) (Answer.none d) e)

  -- An outcome after another goes on from the first answer where that is none, and otherwise is that answer.
  pub settle_after : (o p : Outcome) → settle A c (after o p) ≡ onward (settle A c o) (λ d. settle A d p)
  unfolding settle after answer plus whole calls
  settle_after (found m d) p = go (leb (c + d) A)
    where
      go : (b : Bool) → cond b (clear m (c + d)) (spent A) ≡ onward (cond b (clear m (c + d)) (spent A)) (λ e. settle A e p)
      go true = refl
      go false = refl
  settle_after (Outcome.none d) p = go (leb (c + d) A) refl
    where
      go : (b : Bool) → leb (c + d) A ≡ b →
          settle A c (plus d p) ≡ onward (cond b (Answer.none (c + d)) (spent A)) (λ e. settle A e p)
      go true h = settle_plus d p
      go false h = settle_spent (plus d p) (omega (arith, leb-false (c + d) A h, calls_plus d p))

  -- ---- what a call tries, in order

  pub settle_nil : {X : Type 0} (s : X → Outcome) → c ≤ A → settle A c (try s []) ≡ Answer.none c
  unfolding try
  settle_nil s h = settle_none A c h

  pub settle_cons : {X : Type 0} (s : X → Outcome) (x : X) (xs : List X) →
      settle A c (try s (x ∷ xs)) ≡ onward (settle A c (s x)) (λ d. settle A d (try s xs))
  unfolding try
  settle_cons s x xs = settle_after (s x) (try s xs)

  -- ---- one call

  call_false : (b : Bool) (m : ℕ) (o : Outcome) → b ≡ false → settle A c (call b m o) ≡ settle A (c + 1) o
  unfolding call
  call_false b m o e = rw e (settle_plus 1 o)

  call_true : (b : Bool) (m : ℕ) (o : Outcome) → b ≡ true → c < A → settle A c (call b m o) ≡ clear m (c + 1)
  unfolding call settle plus whole calls
  call_true b m o e h = rw e (answer_whole A (found m (c + 1)) (omega arith))

  module _ {X L : Type 0} (t : Tree X L) (x : X) where
    -- With no call left a call is spent;
    pub call_spent : (r : ℕ) → A ≤ c → settle A c (explore t r x) ≡ spent A
    call_spent r h = settle_spent (explore t r x) (omega (arith, explore_some t r x))

    -- at its goal it is clear;
    pub call_clear : (r : ℕ) → c < A → t.goal x ≡ true → settle A c (explore t r x) ≡ clear (t.out x) (c + 1)
    unfolding explore
    call_clear zero h g = call_true (t.goal x) (t.out x) _ g h
    call_clear (suc r) h g = call_true (t.goal x) (t.out x) _ g h

    -- with no move left it is none;
    pub call_none : (r : ℕ) → r ≡ 0 → c < A → t.goal x ≡ false → settle A c (explore t r x) ≡ Answer.none (c + 1)
    unfolding explore
    call_none zero z h g = call_false (t.goal x) (t.out x) _ g ∙ settle_none A (c + 1) (omega arith)
    call_none (suc r) z h g = absurd (omega arith)

    -- and otherwise it is what its moves give, from one call more on.
    pub call_moves : (r : ℕ) → 0 < r → t.goal x ≡ false →
        settle A c (explore t r x) ≡ settle A (c + 1) (try (λ l. explore t (r - 1) (t.move x l)) (t.moves x))
    unfolding explore
    call_moves zero h g = absurd (omega arith)
    call_moves (suc r) h g = rw sub-one (call_false (t.goal x) (t.out x) _ g)

-- ---- the machine's answer, and what follows after none

pub onward_none : (r : Found) (next : ℕ → Answer) (made : ℕ) → r ≡ None made → onward (answer_in r) next ≡ next made
unfolding answer_in
onward_none r next made e = rw e

pub onward_stops : (r : Found) (next : ℕ → Answer) → ((made : ℕ) → r ≡ None made → ⊥) →
    onward (answer_in r) next ≡ answer_in r
unfolding answer_in
onward_stops (Clear a d) next h = refl
onward_stops (None d) next h = absurd (h d refl)
onward_stops (Spent d) next h = refl

-- an answer with the tag of clear or of spent is not none, whose tag is 1
pub tag_none : (tag : Found → ℕ) → ((made : ℕ) → tag (None made) ≡ 1) → (r : Found) → OneOf (0 ∷ 2 ∷ []) (tag r) →
    (made : ℕ) → r ≡ None made → ⊥
tag_none tag one r other made e =
    let none : OneOf (0 ∷ 2 ∷ []) 1 = rw (ap tag e ∙ one made) at other in
    ⊎_elim (λ (z : 1 ≡ 0). omega arith) (λ (z : 1 ≡ 2). omega arith) none

-- none counts the calls, within the budget
pub none_made : (r : Found) (A c made : ℕ) (o : Outcome) → answer_in r ≡ settle A c o → r ≡ None made →
    (made ≡ c + calls o) × (made ≤ A)
unfolding answer_in
none_made r A c made o e f = settle_is_none A c o made (sym e ∙ ap answer_in f)

-- ---- searches by their number

-- the searches from i up to the end E
unfoldable pub rest : (ℕ → Outcome) → ℕ → ℕ → Outcome
rest s E i = try s (span i (E - i))

-- None are left, or search i comes first.
pub rest_end : (s : ℕ → Outcome) (E i : ℕ) → E ≤ i → rest s E i ≡ Outcome.none 0
unfolding rest span try
rest_end s E i h = rw (sub-eq-zero_of_le h)

pub rest_step : (s : ℕ → Outcome) (E i : ℕ) → i < E → rest s E i ≡ after (s i) (rest s E (i + 1))
unfolding rest
rest_step s E i h =
    let e : E - i ≡ suc (E - (i + 1)) = omega arith in
    rw (e, add-one i) (unfold span try in refl)
