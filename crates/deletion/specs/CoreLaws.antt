-- Laws of deletion: what is kept is a core, under every larger budget the same one, and with enough of a budget nothing is spent.
use Rattle.std.specs.Prelude.{◌≡◌, ◌⊎◌, Bool, not, eqb}
use Rattle.std.proofs.Math.Path.{refl, ap, subst}
use Rattle.std.proofs.Common.{sym, ◌∙◌, ⊎_elim, suc-add, add-zero, add-suc, le_trans, mul-le-mul_left, arith}
use Rattle.std.proofs.Math.Logic.{inl, inr}
use Rattle.std.proofs.Math.Bool.{true, false}
use mathlib.Core.List.Memᴰ
use mathlib.Core.List.{List, [], ◌∷◌, ◌++◌, map, append-nil}
use Prim.Native.Nat.{ℕ, zero, suc, ◌+◌, ◌*◌, ◌^◌, ◌≤◌, ◌<◌}
use Rattle.std.proofs.Math.Nat.{zero-add}
use Rattle.std.proofs.Math.Dec.{ltb}
use Rattle.std.proofs.Math.ListN.{length, get_or, length-map, get_or-map, get_or-eq_default}
use Rattle.std.proofs.Math.Seq.{ext_get_or}
use borrow.Author.Tests.{ltb-true, ltb-false, eqb-false, not-true}
use Rattle.words.specs.Lists.{In, keep, span}
use Rattle.words.proofs.ListLaws.{apart, every_in, in_every, keep_in, in_span, length_span, get_or_span}
use Rattle.formula.specs.Formula.{Clause, Formula, WellFormed, some_met, all_true, Satisfiable}
use Rattle.code.specs.Code.{code}
use Rattle.tree.specs.Explore.{Outcome, powers}
use Rattle.tree.proofs.TreeLaws.{powers_more}
use Rattle.tree.specs.Budget.{Answer, clear, spent, answer}
use Rattle.tree.proofs.BudgetLaws.{clear_found, none_none, spent_calls}
use Rattle.tree.proofs.Decides.{IsClear, IsNone, IsSpent, none_unsat, answer_stays}
use Rattle.search.specs.Run.{Plan, blocks, centre_count, summed_radius, longest}
use Rattle.search.proofs.RunLaws.{longest_in, longest_reached}
use Rattle.decision.specs.Answers.{outcome, answered, Decision, judged, method_of}
use Rattle.decision.specs.DemandLaws.{outcome_decides, outcome_bounded}
use Rattle.deletion.specs.Core.{pick, only, Core, ended, core, by_verdict, sift, deletion}

-- ---- numbers of clauses

-- The numbers rise, from `low` on, and are below k: so none stands twice.
pub data Rising (k : ℕ) : ℕ → List ℕ → Type 0 where
  no_more : {low : ℕ} → Rising k low []
  next : {low i : ℕ} {numbers : List ℕ} → low ≤ i → i < k → Rising k (suc i) numbers → Rising k low (i ∷ numbers)

-- all numbers but one
unfoldable pub without : ℕ → List ℕ → List ℕ
without i numbers = keep (λ j. not (eqb j i)) numbers

pub rising_in : {k low : ℕ} {numbers : List ℕ} → Rising k low numbers → (i : ℕ) → In i numbers → (low ≤ i) × (i < k)
rising_in no_more i h = absurd (Memᴰ.not-nil h)
rising_in (next {i = j} l b r) i h =
    ⊎_elim (λ e. (omega arith, omega arith)) (λ h'. let later = rising_in r i h' in (omega arith, later.1)) (Memᴰ.cases_cons h)

pub rising_lower : {k low low' : ℕ} {numbers : List ℕ} → low' ≤ low → Rising k low numbers → Rising k low' numbers
rising_lower h no_more = no_more
rising_lower h (next l b r) = next (le_trans h l) b r

-- there are no more of them than there is room for
pub rising_few : {k low : ℕ} {numbers : List ℕ} → low ≤ k → Rising k low numbers → low + length numbers ≤ k
rising_few h no_more = omega arith
rising_few h (next l b r) = let later = rising_few b r in omega arith

pub rising_length : {k : ℕ} {numbers : List ℕ} → Rising k 0 numbers → length numbers ≤ k
rising_length r = let few = rising_few (omega arith) r in omega arith

-- all numbers below those
pub rising_span : {k : ℕ} {numbers : List ℕ} (i n : ℕ) → i + n ≤ k → Rising k (i + n) numbers → Rising k i (span i n ++ numbers)
unfolding span
rising_span {k} {numbers} i zero h r = subst (λ (x : ℕ). Rising k x numbers) (add-zero i) r
rising_span {k} {numbers} i (suc n) h r =
    let below = subst (λ (x : ℕ). Rising k x numbers) (add-suc i n ∙ sym (suc-add i n)) r in
    next {low = i} {i = i} (omega arith) (omega arith) (rising_span (suc i) n (omega arith) below)

-- one of them stands behind the others
span_last : (i n : ℕ) (numbers : List ℕ) → span i (suc n) ++ numbers ≡ span i n ++ ((i + n) ∷ numbers)
unfolding span
span_last i zero numbers = rw add-zero
span_last i (suc n) numbers = ap (λ (r : List ℕ). i ∷ r) (span_last (suc i) n numbers ∙ rw (suc-add, add-suc))

-- ---- the clauses with these numbers

pub in_get_or : {A : Type 0} (xs : List A) (i : ℕ) (d : A) → i < length xs → In (get_or xs i d) xs
in_get_or [] i d h = absurd (omega arith)
in_get_or (x ∷ xs) zero d h = Memᴰ.head refl
in_get_or (x ∷ xs) (suc i) d h = Memᴰ.tail (in_get_or xs i d (omega arith))

module _ (cs : List Clause) where
  at : ℕ → Clause
  at i = get_or cs i []

  -- all of them are all clauses
  pub pick_all : pick cs (span 0 (length cs)) ≡ cs
  unfolding pick at
  pick_all =
      let numbers = span 0 (length cs) in
      let size : length (map at numbers) ≡ length cs = length-map numbers at ∙ length_span 0 (length cs) in
      ext_get_or [] (map at numbers) cs size (λ i h.
      let past : at (length cs) ≡ [] = get_or-eq_default cs [] (omega arith) in
      let inside : i < length cs = rw size at h in
      ap (λ (d : Clause). get_or (map at numbers) i d) (sym past)
      ∙ get_or-map at numbers i (length cs)
      ∙ ap at (get_or_span 0 (length cs) i (length cs) inside ∙ zero-add i))

  pub pick_length : (numbers : List ℕ) → length (pick cs numbers) ≡ length numbers
  unfolding pick
  pick_length numbers = length-map numbers _

  -- each is a clause of the list
  pub pick_in : {low : ℕ} {numbers : List ℕ} → Rising (length cs) low numbers → (c : Clause) → In c (pick cs numbers) → In c cs
  unfolding pick
  pick_in {numbers = numbers} r c h =
      let (i, j, e) = Memᴰ.of_map _ numbers h in
      subst (λ (x : Clause). In x cs) e (in_get_or cs i [] (rising_in r i j).1)

  -- an assignment meets them all exactly where it meets each
  pub pick_met : (m : ℕ) (numbers : List ℕ) → all_true m (pick cs numbers) ≡ true → (i : ℕ) → In i numbers → some_met m (get_or cs i []) ≡ true
  unfolding pick all_true
  pick_met m numbers e i h = every_in (some_met m) _ e _ (Memᴰ.map _ h)

  pub met_pick : (m : ℕ) (numbers : List ℕ) → ((i : ℕ) → In i numbers → some_met m (get_or cs i []) ≡ true) → all_true m (pick cs numbers) ≡ true
  unfolding pick all_true
  met_pick m numbers h =
      in_every (some_met m) _ (λ c j. let (i, j', e) = Memᴰ.of_map _ numbers j in subst (λ (x : Clause). some_met m x ≡ true) e (h i j'))

  -- none is longer than the longest of the list
  pick_longest : {low : ℕ} {numbers : List ℕ} → Rising (length cs) low numbers → longest (pick cs numbers) ≤ longest cs
  pick_longest {numbers = numbers} r =
      ⊎_elim
      (λ e. omega arith)
      (λ (c, i, e). subst (λ (x : ℕ). x ≤ longest cs) e (longest_in cs c (pick_in r c i)))
      (longest_reached (pick cs numbers))

-- a part of a formula that a sheet can hold is one too
pub only_formed : (f : Formula) → WellFormed f → {numbers : List ℕ} → Rising (length f.clauses) 0 numbers → WellFormed (only f numbers)
only_formed f formed {numbers} r =
    record {
      batch = formed.batch;
      variables = formed.variables;
      clauses = rw (pick_length f.clauses numbers) (le_trans (rising_length r) formed.clauses);
      each = λ c i. formed.each c (pick_in f.clauses r c i);
    }

-- the formula of all clauses
pub only_all : (f : Formula) → only f (span 0 (length f.clauses)) ≡ f
only_all f i = record { batch = f.batch; n = f.n; clauses = pick_all f.clauses i }

-- ---- what deletion comes to

module _ (p : Plan) (A : ℕ) (f : Formula) where
  -- the answer of a run of the clauses with these numbers
  abbrev pub run_of : List ℕ → Answer
  run_of numbers = answer A (outcome p (only f numbers))

  -- A core: its clauses alone get none, and without any one of them the others have a model.
  pub record IsCore (kept : List ℕ) : Type 0 where
    pub part : Rising (length f.clauses) 0 kept
    pub none : IsNone (run_of kept)
    pub needed : (i : ℕ) → In i kept → Satisfiable f.n (pick f.clauses (without i kept))

  -- the clauses are gone through to the end, or a run is spent
  pub data Sifted : Core → Type 0 where
    to_core : {kept : List ℕ} → IsCore kept → Sifted (core f kept)
    to_spent : {numbers : List ℕ} → Rising (length f.clauses) 0 numbers → IsSpent (run_of numbers) → Sifted (ended (judged p A (only f numbers)))

  -- an assignment meets every clause below number i, and every later one that is kept
  record Spares (i : ℕ) (later : List ℕ) : Type 0 where
    model : ℕ
    below : model < 2 ^ f.n
    meets : (x : ℕ) → (x < i) ⊎ (In x later × (i < x)) → some_met model (get_or f.clauses x []) ≡ true

  -- Before clause i − 1 is tried: the clauses below i and those kept get none, and each clause that is kept is needed.
  record Going (i : ℕ) (later : List ℕ) : Type 0 where
    rising : Rising (length f.clauses) i later
    inside : i ≤ length f.clauses
    none : IsNone (run_of (span 0 i ++ later))
    needed : (j : ℕ) → In j later → Spares j later

  -- what is run without clause i is a part of the formula
  rest_part : {i : ℕ} {later : List ℕ} → Going (suc i) later → Rising (length f.clauses) 0 (span 0 i ++ later)
  rest_part {i} {later} g =
      rising_span 0 i (omega (arith, g.inside)) (rising_lower (omega arith) g.rising)

  -- at the end what is kept is a core
  going_core : {kept : List ℕ} → Going 0 kept → IsCore kept
  unfolding span without Satisfiable
  going_core {kept} g = record { part = g.rising; none = g.none; needed = λ i h. ((g.needed i h).model, (g.needed i h).below, spared i (g.needed i h)) }
    where
      sides : (i j : ℕ) (b : Bool) → ltb j i ≡ b → (j ≡ i → ⊥) → (j < i) ⊎ (i < j)
      sides i j true e h = inl (ltb-true j i e)
      sides i j false e h = let l = ltb-false j i e in inr (omega arith)

      spared : (i : ℕ) (s : Spares i kept) → all_true s.model (pick f.clauses (without i kept)) ≡ true
      spared i s =
          met_pick f.clauses s.model (without i kept) (λ j k.
          let (k', other) = keep_in _ kept j k in
          s.meets j (⊎_elim inl (λ l. inr (k', l)) (sides i j (ltb j i) refl (eqb-false j i (not-true _ other)))))

  -- a clause that is left out, and one that is kept
  going_on : {i : ℕ} {later : List ℕ} → Going (suc i) later → IsNone (run_of (span 0 i ++ later)) → Going i later
  going_on g e = record { rising = rising_lower (omega arith) g.rising; inside = omega (arith, g.inside); none = e; needed = g.needed }

  going_kept : WellFormed f → {i : ℕ} {later : List ℕ} → Going (suc i) later → IsClear (run_of (span 0 i ++ later)) → Going i (i ∷ later)
  going_kept formed {i} {later} g (m, c, e) =
      record {
        rising = next {low = i} {i = i} (omega arith) g.inside g.rising;
        inside = omega (arith, g.inside);
        none = subst (λ (numbers : List ℕ). IsNone (run_of numbers)) (span_last 0 i later ∙ rw zero-add) g.none;
        needed = λ j h. ⊎_elim (λ same. subst (λ (x : ℕ). Spares x (i ∷ later)) (sym same) own) (λ h'. older j h' (g.needed j h')) (Memᴰ.cases_cons h);
      }
    where
      rest : List ℕ
      rest = span 0 i ++ later

      own : Spares i (i ∷ later)
      own =
          let sound = (outcome_decides p (only f rest) (only_formed f formed (rest_part g))).sound m c (clear_found A _ m c e) in
          record {
            model = m;
            below = sound.0;
            meets =
                λ x w.
                pick_met f.clauses m rest sound.1 x
                (⊎_elim
                (λ l. Memᴰ.append_left later (in_span 0 i x (omega arith) (omega arith)))
                (λ (h, l). Memᴰ.append_right (span 0 i) (⊎_elim (λ same. absurd (omega arith)) (λ h'. h') (Memᴰ.cases_cons h)))
                w);
          }

      older : (j : ℕ) → In j later → Spares j later → Spares j (i ∷ later)
      older j h s =
          record {
            model = s.model;
            below = s.below;
            meets =
                λ x w.
                s.meets x
                (⊎_elim
                inl
                (λ (h', l). inr (⊎_elim (λ same. absurd (omega (arith, (rising_in g.rising j h).0))) (λ k. k) (Memᴰ.cases_cons h'), l))
                w);
          }

  sift_comes : WellFormed f → (i : ℕ) (later : List ℕ) → Going i later → Sifted (sift p A f i later)
  unfolding sift judged
  sift_comes formed zero later g = to_core (going_core g)
  sift_comes formed (suc i) later g = go (λ l h. sift_comes formed i l h) (run_of (span 0 i ++ later)) refl
    where
      go : ((l : List ℕ) → Going i l → Sifted (sift p A f i l)) → (a : Answer) → run_of (span 0 i ++ later) ≡ a →
          Sifted (by_verdict (answered a) (sift p A f i later) (sift p A f i (i ∷ later)) (ended (judged p A (only f (span 0 i ++ later)))))
      go more (Answer.none c) e = unfold by_verdict in more later (going_on g (c, e))
      go more (clear m c) e = unfold by_verdict in more (i ∷ later) (going_kept formed g (m, c, e))
      go more (spent c) e =
          unfold by_verdict in to_spent (rest_part g) (c, e)

  -- all clauses get none: the start
  going_start : IsNone (answer A (outcome p f)) → Going (length f.clauses) []
  going_start e =
      record {
        rising = no_more;
        inside = omega arith;
        none =
            subst
            (λ (g : Formula). IsNone (answer A (outcome p g)))
            (sym (ap (only f) (append-nil (span 0 (length f.clauses))) ∙ only_all f))
            e;
        needed = λ j h. absurd (Memᴰ.not-nil h);
      }

  -- What deletion comes to: what the run of all clauses gave where that is no none, and otherwise a core, or what a run of some of them gave that is spent.
  pub data Deleted : Core → Type 0 where
    run_clear : IsClear (answer A (outcome p f)) → Deleted (ended (judged p A f))
    run_spent : IsSpent (answer A (outcome p f)) → Deleted (ended (judged p A f))
    sifted : {c : Core} → IsNone (answer A (outcome p f)) → Sifted c → Deleted c

  pub deletion_comes : WellFormed f → Deleted (deletion p A f)
  unfolding deletion judged
  deletion_comes formed = go (answer A (outcome p f)) refl
    where
      go : (a : Answer) → answer A (outcome p f) ≡ a →
          Deleted (by_verdict (answered a) (sift p A f (length f.clauses) []) (ended (judged p A f)) (ended (judged p A f)))
      go (Answer.none c) e = unfold by_verdict in sifted (c, e) (sift_comes formed _ [] (going_start (c, e)))
      go (clear m c) e = unfold by_verdict in run_clear (m, c, e)
      go (spent c) e = unfold by_verdict in run_spent (c, e)

  -- together the clauses of a core have no model
  pub core_unsat : WellFormed f → {kept : List ℕ} → IsCore kept → Satisfiable f.n (pick f.clauses kept) → ⊥
  core_unsat formed h =
      let (c, e) = h.none in
      none_unsat f.n _ _ (outcome_decides p (only f _) (only_formed f formed h.part)) c (none_none A _ c e)

  -- Where the budget is at least M × (1 + k + … + k^R) no run of clauses of the formula is spent.
  pub never_spent : WellFormed f →
      centre_count (blocks code p f.n) * powers (longest f.clauses) (summed_radius (blocks code p f.n)) ≤ A →
      {numbers : List ℕ} → Rising (length f.clauses) 0 numbers → IsSpent (run_of numbers) → ⊥
  never_spent formed enough {numbers} r (c, e) =
      let few = outcome_bounded p (only f numbers) (only_formed f formed r) in
      let most = powers_more (summed_radius (blocks code p f.n)) (pick_longest f.clauses r) in
      let bound = mul-le-mul_left (centre_count (blocks code p f.n)) most in
      omega (arith, (spent_calls A _ c e).0, le_trans few (le_trans bound enough))

-- ---- larger budgets

-- a decision that says none
abbrev pub SaysNone : Core → Type 0
SaysNone c = (k : ℕ) × (c.decision.verdict ≡ answered (Answer.none k))

module _ (p : Plan) (A B : ℕ) (f : Formula) (more : A ≤ B) where
  -- an answer that is not spent
  stays : (o : Outcome) (a b : Answer) → ((c : ℕ) → a ≡ spent c → ⊥) → answer A o ≡ a → answer B o ≡ b → b ≡ a
  stays o a b h e e' = sym e' ∙ answer_stays o A B more (λ (c, s). h c (sym e ∙ s)) ∙ e

  sift_stays : (i : ℕ) (later : List ℕ) → SaysNone (sift p A f i later) → sift p B f i later ≡ sift p A f i later
  unfolding sift judged
  sift_stays zero later h = refl
  sift_stays (suc i) later h = go (λ l k. sift_stays i l k) (answer A (outcome p rest)) (answer B (outcome p rest)) refl refl h
    where
      rest : Formula
      rest = only f (span 0 i ++ later)

      upon : ℕ → Answer → Core
      upon C a = by_verdict (answered a) (sift p C f i later) (sift p C f i (i ∷ later)) (ended (record { batch = f.batch; method = method_of rest; verdict = answered a }))

      go : ((l : List ℕ) → SaysNone (sift p A f i l) → sift p B f i l ≡ sift p A f i l) → (a b : Answer) → answer A (outcome p rest) ≡ a →
          answer B (outcome p rest) ≡ b → SaysNone (upon A a) → upon B b ≡ upon A a
      go below (Answer.none c) b e e' g = unfold by_verdict in rw (stays _ _ b (λ d s. apart (cc)) e e') (below later g)
      go below (clear m c) b e e' g = unfold by_verdict in rw (stays _ _ b (λ d s. apart (cc)) e e') (below (i ∷ later) g)
      go below (spent c) b e e' (k, g) = unfold by_verdict ended in apart (cc)

  -- A none stays the same under every larger budget, and so do the clauses kept.
  pub deletion_stays : SaysNone (deletion p A f) → deletion p B f ≡ deletion p A f
  unfolding deletion judged
  deletion_stays h = go (answer A (outcome p f)) (answer B (outcome p f)) refl refl h
    where
      upon : ℕ → Answer → Core
      upon C a =
          let whole : Decision = record { batch = f.batch; method = method_of f; verdict = answered a } in
          by_verdict (answered a) (sift p C f (length f.clauses) []) (ended whole) (ended whole)

      go : (a b : Answer) → answer A (outcome p f) ≡ a → answer B (outcome p f) ≡ b → SaysNone (upon A a) → upon B b ≡ upon A a
      go (Answer.none c) b e e' g = unfold by_verdict in rw (stays _ _ b (λ d s. apart (cc)) e e') (sift_stays (length f.clauses) [] g)
      go (clear m c) b e e' (k, g) = unfold by_verdict ended in apart (cc)
      go (spent c) b e e' (k, g) = unfold by_verdict ended in apart (cc)
