-- The laws of a call's choice: which literals are tried, and which clause is taken, by the variables that are forced.
use Rattle.std.specs.Prelude.{◌≡◌, Bool, ◌&&◌, ℕ, ◌+◌, ◌≤◌, ◌<◌, eqb, ltb, Option, Some, None, MatchOption, unwrap_or}
use Rattle.std.specs.Option.{option_or}
use Rattle.std.proofs.Math.Path.{refl, sym, ap}
use Rattle.std.proofs.Common.{◌∙◌, eq-or-lt_of_le, arith}
use Rattle.std.proofs.Math.Logic.{⊎_elim}
use Rattle.std.proofs.Math.Bool.{true, false, not, and-true, and-false, true≢false, not-not}
use mathlib.Core.List.{List, []}
use Rattle.std.proofs.Math.Dec.{leb}
use borrow.Author.Tests.{eq-eqb, eqb-true, ltb-true, ltb-false, not-true, not-false}
use Rattle.words.specs.Lists.{In, some}
use Rattle.words.proofs.ListLaws.{some_in, in_some, first_none, or_left, or_right, both_ways, refute}
use Rattle.words.specs.Bits.{bit, width}
use Rattle.words.specs.Machine.{Meets}
use Rattle.formula.specs.Formula.{Literal, Clause, bit_of, names}
use Rattle.formula.specs.Machine.{held, clause_at}
use Rattle.formula.proofs.HeldLaws.{held_none, held_first}
use Rattle.planes.specs.declared.Kind.TheVariants.{Zero, Few}
use Rattle.planes.specs.Machine.{First, FirstFound, set_at, test_of, wanted}
use Rattle.ball.specs.Ball.{State, is_flipped, reading, is_true, restricted, meets_s, has_lone_opposite, meets_l, is_tried, select, skip}
use Rattle.ball.proofs.ReadingLaws.{true_met, false_unmet, short_reading, short_false, lone_false, left_in, in_left, flipped_lone}
use Rattle.ball.proofs.RuleLaws.{preferred, preferred_false}
use Rattle.ball.proofs.ForcedLaws.{bit_variable, bit_of_lem, bit_known}
use Rattle.ball.specs.Machine.{Ready, Standing, is_spared, FirstFalse, Selected}

-- the two numbers of clause i
abbrev pub met_in : State → Clause → ℕ
met_in s c = (reading s c).met

abbrev pub open_in : State → Clause → ℕ
open_in s c = (reading s c).«open»

module _ {k : ℕ} {cells occ : List ℕ} {s : State} {b : ℕ} (ready : Ready k cells occ) (stand : Standing k cells s b) where
  abbrev cs : List Clause
  cs = held k cells

  -- a literal of a false clause, and its variable
  module _ (i : ℕ) (inside : i < k) (failing : is_true s (clause_at cells i) ≡ false) (l : Literal) (h : In l (clause_at cells i)) where
    known : (1 ≤ l.variable) × (l.variable ≤ width)
    known = (ready.table.each i inside).known l h

    lone_forced : is_flipped s l ≡ false → bit b (bit_of l) ≡ has_lone_opposite cs s l
    lone_forced = stand.forced.each l known.0 known.1 (false_unmet s (clause_at cells i) failing l h)

    -- It is tried exactly if its variable is neither forced nor flipped.
    pub tried_free : is_tried (skip cs) s l ≡ (not (bit b (bit_of l)) && not (is_flipped s l))
    unfolding is_tried skip
    tried_free = go (is_flipped s l) refl
      where
        go : (f : Bool) → is_flipped s l ≡ f → (not (has_lone_opposite cs s l) && not f) ≡ (not (bit b (bit_of l)) && not f)
        go true e = and-false (not (has_lone_opposite cs s l)) ∙ sym (and-false (not (bit b (bit_of l))))
        go false e = rw (lone_forced e)

  -- a false clause meets L exactly if one of its literals has a lone opposite
  spared_some : (c : Clause) → is_true s c ≡ false → meets_l cs s c ≡ some (has_lone_opposite cs s) c
  unfolding meets_l
  spared_some c e =
      rw e
      (both_ways _ _
      (λ h. let (l, i, p) = some_in _ _ h in in_some (has_lone_opposite cs s) c l (left_in s c l i).0 p)
      (λ h. let (l, i, p) = some_in _ _ h in
      let fresh = refute (is_flipped s l) (λ f. true≢false (sym p ∙ flipped_lone cs s l f)) in
      in_some (has_lone_opposite cs s) (restricted s c) l (in_left s c l i fresh) p))

  -- that is, exactly if it has a variable that is forced.
  pub spared_meets : (i : ℕ) → i < k → is_true s (clause_at cells i) ≡ false → (r : Bool) → Meets (set_at occ i) b r → is_spared k cells s i ≡ r
  unfolding names is_flipped
  spared_meets i inside failing r m =
      spared_some c failing
      ∙ both_ways _ _
      (λ e. let (l, h, lone) = some_in _ c e in
      let fresh = refute (is_flipped s l) (λ f. true≢false (sym lone ∙ flipped_lone cs s l f)) in
      let (low, high) = known i inside failing l h in
      let v = bit_known l low high in
      let named : names (bit_of l + 1) c ≡ true = rw (bit_variable l low) (in_some _ c l h (eqb_same l.variable)) in
      m.each (bit_of l) v (ready.occurs.sets i (bit_of l) inside v ∙ named) (lone_forced i inside failing l h fresh ∙ lone))
      (λ e. let (v, below, own, forced) = m.some e in
      let (l, h, is) = some_in _ c (sym (ready.occurs.sets i v inside below) ∙ own) in
      let (low, high) = known i inside failing l h in
      let at : bit_of l ≡ v = bit_of_lem l v (eqb-true l.variable (v + 1) is) in
      let fresh : is_flipped s l ≡ false = ap (bit s.flipped) at ∙ stand.forced.clean v below forced in
      in_some _ c l h (sym (lone_forced i inside failing l h fresh) ∙ ap (bit b) at ∙ forced))
    where
      c : Clause
      c = clause_at cells i

      eqb_same : (x : ℕ) → eqb x x ≡ true
      eqb_same x = eq-eqb x x refl

  -- Where no variable is forced, no clause meets L.
  pub spared_none : Meets b b false → (i : ℕ) → i < k → is_spared k cells s i ≡ false
  spared_none m i inside = go (is_true s (clause_at cells i)) refl
    where
      go : (x : Bool) → is_true s (clause_at cells i) ≡ x → is_spared k cells s i ≡ false
      go true e = refute _ (λ q. true≢false (sym e ∙ lone_false cs s (clause_at cells i) q))
      go false e =
          spared_meets i inside e false
          (record { each = λ v h own forced. m.each v h forced forced; some = λ q. absurd (true≢false (sym q)) })

-- ---- the clause that is taken

module _ (k : ℕ) (cells : List ℕ) (s : State) where
  -- a true clause does not meet L, and none but a false one is found as such
  true_unspared : (i : ℕ) → is_true s (clause_at cells i) ≡ true → is_spared k cells s i ≡ false
  true_unspared i e = refute _ (λ q. true≢false (sym e ∙ lone_false (held k cells) s (clause_at cells i) q))

  -- the test for false clauses
  pub zero_false : (i : ℕ) → wanted Zero 0 cells (met_in s) (open_in s) i ≡ not (is_true s (clause_at cells i))
  unfolding test_of
  zero_false i = and-true (eqb (met_in s (clause_at cells i)) 0) ∙ sym (ap not (true_met s (clause_at cells i)) ∙ not-not _)

  -- from clause `from` to r none meets L
  abbrev pub UnsparedTo : ℕ → ℕ → Type 0
  UnsparedTo from r = (j : ℕ) → from ≤ j → j < r → is_spared k cells s j ≡ false

  -- From clause i to the next false one, r, none but i can meet L.
  pub unspared_next : (from i r : ℕ) → UnsparedTo from i → is_spared k cells s i ≡ false →
      First (i + 1) k (wanted Zero 0 cells (met_in s) (open_in s)) r → UnsparedTo from r
  unspared_next from i r before here f j l h = go (ltb j i) refl
    where
      go : (b : Bool) → ltb j i ≡ b → is_spared k cells s j ≡ false
      go true q = before j l (ltb-true j i q)
      go false q =
          ⊎_elim
          (λ (e : i ≡ j). ap (is_spared k cells s) (sym e) ∙ here)
          (λ later. true_unspared j (not-false _ (sym (zero_false j) ∙ f.before j (omega arith) h)))
          (eq-or-lt_of_le (ltb-false j i q))

  -- From clause i, which does not meet L, to the next false one.
  pub lone_next : (from i : ℕ) → UnsparedTo from i → is_spared k cells s i ≡ false → (r : Option ℕ) →
      FirstFound (i + 1) k (wanted Zero 0 cells (met_in s) (open_in s)) r →
      MatchOption r (UnsparedTo from k) (λ j. (j < k) × (is_true s (clause_at cells j) ≡ false) × UnsparedTo from j)
  lone_next from i before here None f = unspared_next from i k before here f
  lone_next from i before here (Some j) f = (f.0, not-true _ (sym (zero_false j) ∙ f.1.here f.0), unspared_next from i j before here f.1)

  -- `first` is the first false clause, `few` the first that meets S, and c the first that meets L before that one, or that one.
  module _ (first : ℕ) (p : FirstFalse k cells s first) (inside : first < k) (few : ℕ)
      (short : First first k (wanted Few 0 cells (met_in s) (open_in s)) few) (c : ℕ) (f : First first few (is_spared k cells s) c) where
    few_short : (i : ℕ) → wanted Few 0 cells (met_in s) (open_in s) i ≡ meets_s s (clause_at cells i)
    unfolding test_of
    few_short i = and-true (eqb (met_in s (clause_at cells i)) 0 && leb (open_in s (clause_at cells i)) 2) ∙ sym (short_reading s (clause_at cells i))

    -- no clause before it meets S or L
    ordinary : (i : ℕ) → i < c → preferred (held k cells) s (clause_at cells i) ≡ false
    ordinary i h = go (ltb i first) refl
      where
        go : (b : Bool) → ltb i first ≡ b → preferred (held k cells) s (clause_at cells i) ≡ false
        go true q =
            let true_here : is_true s (clause_at cells i) ≡ true = not-false _ (p.before i (omega arith) (ltb-true _ _ q)) in
            let long = refute (meets_s s (clause_at cells i)) (λ e. true≢false (sym true_here ∙ short_false s (clause_at cells i) e)) in
            rw (long, true_unspared i true_here)
        go false q =
            let from = ltb-false _ _ q in
            rw (sym (few_short i) ∙ short.before i from (omega (arith, f.within)), f.before i from h)

    -- It is taken, where there is one;
    selected_here : (c ≡ k → ⊥) → Selected k cells s c
    unfolding select
    selected_here d =
        let l : c < k = omega (arith, f.within, short.within) in
        record {
          inside = l;
          same = held_first k cells (preferred (held k cells) s) c _ l (here l) ordinary;
          failing = preferred_false (held k cells) s (clause_at cells c) (here l);
        }
      where
        here : c < k → preferred (held k cells) s (clause_at cells c) ≡ true
        here l =
            ⊎_elim
            (λ (e : c ≡ few). or_left (meets_s s (clause_at cells c)) _ (rw e (sym (few_short few) ∙ short.here (omega arith))))
            (λ h. or_right (meets_s s (clause_at cells c)) _ (f.here h))
            (eq-or-lt_of_le f.within)

    -- otherwise the first false one is.
    selected_first : c ≡ k → Selected k cells s first
    unfolding select
    selected_first e =
        let none = held_none k cells (preferred (held k cells) s) (λ i h. ordinary i (omega arith)) in
        record {
          inside = inside;
          same = first_none (preferred (held k cells) s) (held k cells) _ none
              ∙ held_first k cells (λ x. not (is_true s x)) first [] inside (p.here inside) (λ i h. p.before i (omega arith) h);
          failing = not-true _ (p.here inside);
        }

-- where there is none, k stands for it
pub found_within : (i k : ℕ) (test : ℕ → Bool) (r : Option ℕ) → FirstFound i k test r → unwrap_or r k ≤ k
found_within i k test None f = omega arith
found_within i k test (Some j) f = omega arith

-- what is known where there is none
pub at_none : (P : Type 0) (Q : ℕ → Type 0) (r : Option ℕ) → ((j : ℕ) → r ≡ Some j → ⊥) → MatchOption r P Q → P
at_none P Q None none h = h
at_none P Q (Some j) none h = absurd (none j refl)

-- The clause that is taken: the first that meets L before the first that meets S, or that one, or else the first false one.
pub selected : (k : ℕ) (cells : List ℕ) (s : State) (first : ℕ) → FirstFalse k cells s first → first < k → (few lone : Option ℕ) →
    FirstFound first k (wanted Few 0 cells (met_in s) (open_in s)) few →
    FirstFound first (unwrap_or few k) (is_spared k cells s) lone → Selected k cells s (unwrap_or (option_or lone few) first)
selected k cells s first p inside None None short f = selected_first k cells s first p inside k short k f refl
selected k cells s first p inside None (Some i) short f = selected_here k cells s first p inside k short i f.1 (λ e. omega arith)
selected k cells s first p inside (Some j) None short f = selected_here k cells s first p inside j short.1 j f (λ e. omega arith)
selected k cells s first p inside (Some j) (Some i) short f = selected_here k cells s first p inside j short.1 i f.1 (λ e. omega arith)
