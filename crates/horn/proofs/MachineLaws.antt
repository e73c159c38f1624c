-- The laws that the machine's rounds cite, one for each way through a round.
use Rattle.std.specs.Prelude.{◌≡◌, Bool, cond, map, ℕ, ◌+◌, ◌-◌, ◌%◌, ◌≤◌, ◌<◌, eqb, get_or, drop, Option}
use Rattle.std.specs.List.{count_by}
use Rattle.std.proofs.lemmas.List.Recursion.{is_count_by}
use Rattle.std.proofs.Math.Seq.{drop-cons}
use Rattle.std.proofs.Math.Path.{refl, sym, ap}
use Rattle.std.proofs.Common.{◌∙◌, add-one, subst, drop_of_length-le}
use Rattle.std.proofs.Math.Bool.{true, false, not, and-true, not-not}
use mathlib.Core.List.Memᴰ
use mathlib.Core.List.{List, [], ◌∷◌}
use native.Mathlib.Omega.{arith}
use Rattle.std.proofs.Math.ListN.{length}
use borrow.Author.Tests.{not-true, not-false}
use Rattle.words.specs.Lists.{In, keep, count}
use Rattle.words.proofs.ListLaws.{keep_in}
use Rattle.words.specs.Bits.{toggle, width}
use Rattle.words.specs.Machine.{bits_of}
use Rattle.words.proofs.CountLaws.{some_count}
use Rattle.words.specs.declared.Assignment.{Assignment}
use Rattle.formula.specs.Formula.{Literal, Clause, WellFormedClause, bit_of, met, some_met, all_true, literal_word, literal_of}
use Rattle.formula.specs.Counts.{sign_count, opposite, Steps}
use Rattle.formula.proofs.CountLaws.{count_steps, met_steps, none_count, zero_met}
use Rattle.formula.proofs.ModelLaws.{clause_unmet}
use Rattle.formula.proofs.ParseEncode.{literal_word_lem}
use Rattle.formula.proofs.ParseAccepted.{word_literal}
use Rattle.formula.proofs.TableLaws.{held_in, table_known}
use Rattle.formula.specs.Machine.{Table, IsLiteral, held, clause_at}
use Rattle.formula.proofs.HeldLaws.{held_every, held_fails, held_first}
use Rattle.tree.specs.Explore.{Outcome, explore, try}
use Rattle.tree.specs.Budget.{Answer, answer}
use Rattle.tree.specs.Budget.{settle}
use Rattle.tree.proofs.BudgetLaws.{settle_start, settle_nil, call_spent, call_clear, call_moves}
use Rattle.tree.proofs.TreeLaws.{after_nothing}
use Rattle.tree.specs.Machine.{answer_in}
use Rattle.tree.specs.declared.Found.TheVariants.{Clear, None, Spent}
use Rattle.planes.specs.declared.Kind.TheVariants.{Zero}
use Rattle.planes.specs.Machine.{first_counter, second_counter, plane_cells, Counts, First, FirstFound, test_of, wanted, Occurs, Starts, Shifted}
use Rattle.planes.proofs.CountsLaws.{counts_same, literal_rows, first_same, shifted_counts}
use Rattle.horn.specs.Horn.{positives, is_horn, first_false, horn_tree, rounds}
use Rattle.horn.proofs.HornLaws.{horn_few, rounds_room}
use Rattle.horn.specs.Machine.{first_word, Shows, Sets, Before}

-- ---- the positive literals of a clause, by the words of all

-- they are counted by their words;
pub positives_counted : (ws : List ℕ) → count_by (λ w. eqb (w % 2) 0) ws ≡ length (positives (map literal_of ws))
unfolding positives keep literal_of
positives_counted ws = sym (is_count_by (λ vs. length (positives (map literal_of vs))) (λ w. eqb (w % 2) 0) refl step ws)
  where
    pick : (b : Bool) (l : Literal) (c : Clause) → length (cond b (l ∷ c) c) ≡ cond b (1 + length c) (length c)
    pick true l c = omega arith
    pick false l c = refl

    step : (w : ℕ) (vs : List ℕ) →
        length (positives (map literal_of (w ∷ vs)))
        ≡ cond (eqb (w % 2) 0) (1 + length (positives (map literal_of vs))) (length (positives (map literal_of vs)))
    step w vs = pick (eqb (w % 2) 0) (literal_of w) (positives (map literal_of vs))

-- those from number j on are all of them:
abbrev pub PositivesFrom : List ℕ → ℕ → Type 0
PositivesFrom ws j = positives (map literal_of (drop j ws)) ≡ positives (map literal_of ws)

module _ (ws : List ℕ) (j : ℕ) (left : PositivesFrom ws j) where
  here : j < length ws → map literal_of (drop j ws) ≡ literal_of (get_or ws j 0) ∷ map literal_of (drop (j + 1) ws)
  here l = rw add-one (ap (map literal_of) (drop-cons ws j 0 l))

  -- one that is positive is the first of them,
  pub positives_found : j < length ws → (literal_of (get_or ws j 0)).positive ≡ true →
      get_or ws j 0 ≡ first_word (positives (map literal_of ws))
  unfolding positives keep first_word
  positives_found l e =
      let w = get_or ws j 0 in
      let all : positives (map literal_of ws) ≡ literal_of w ∷ positives (map literal_of (drop (j + 1) ws)) =
      sym left ∙ rw (here l, e) in
      sym (ap first_word all ∙ word_literal w)

  -- one that is not is passed over,
  pub positives_next : j < length ws → (literal_of (get_or ws j 0)).positive ≡ false → PositivesFrom ws (j + 1)
  unfolding positives keep
  positives_next l e = let passed : positives (map literal_of (drop j ws)) ≡ positives (map literal_of (drop (j + 1) ws)) = rw (here l, e) in sym passed ∙ left

  -- and past the last one there is none.
  pub positives_none : length ws ≤ j → 0 ≡ first_word (positives (map literal_of ws))
  unfolding positives keep first_word
  positives_none end =
      let none : positives (map literal_of ws) ≡ [] = sym left ∙ ap (λ (vs : List ℕ). positives (map literal_of vs)) (drop_of_length-le ws {i = j} end) in
      sym (ap first_word none)

-- ---- the planes

-- at the start
pub begins : {n k : ℕ} {cells occ planes : List ℕ} → Table n k cells → Occurs k cells occ →
    Starts n k occ first_counter false planes → Starts n k occ second_counter true planes → Shows k cells 0 planes
begins t o negative positive = record { met = counts_same zero_met (negative.counts _ t o); positive = positive.counts _ t o }

-- a number that no row moves
still : {n : ℕ} (c : Clause) → WellFormedClause n c → Steps 0 0 (sign_count true) (sign_count true) c
unfolding sign_count
still c f = count_steps 0 0 c f (omega (arith, none_count c f)) _ _ (λ l i. refl)

-- and after a literal is set
pub sets : (k literal : ℕ) (occ from to : List ℕ) → IsLiteral literal → length to ≡ plane_cells →
    Shifted k first_counter literal (opposite literal) occ from to → Shifted k second_counter 0 0 occ from to → Sets k literal occ from to
sets k literal occ from to known size first second =
    record {
      size = size;
      shows = λ cells m t o unmet h.
          record {
            met = shifted_counts t.room (literal_rows literal known) o h.met
                (λ i l. met_steps literal known.0 _ (t.each i l) m unmet) to first;
            positive = shifted_counts t.room (omega arith, omega arith) o h.positive (λ i l. still _ (t.each i l)) to second;
          };
    }

-- ---- a round

pub round_start : {n k : ℕ} {cells planes : List ℕ} (budget : ℕ) → Table n k cells → length planes ≡ plane_cells → Shows k cells 0 planes →
    Before n k cells planes 0 budget 0
round_start {n} {k} {cells} budget table size shows =
    record {
      size = size;
      shows = shows;
      same = settle_start budget _ ∙ ap (answer budget) (rounds_room n (held k cells) (table_known table) (n + budget - 0) (omega arith));
    }

-- The first false clause as the planes show it, where the occurrence table is that of these clauses.
module _ {n k : ℕ} {cells planes : List ℕ} {m budget made : ℕ} (b : Before n k cells planes m budget made) {occ : List ℕ}
    (o : Occurs k cells occ) {all : ℕ} (same : all ≡ k) (r : Option ℕ) where
  abbrev Found : ℕ → Type 0
  Found x = (cells' : List ℕ) (f g : Clause → ℕ) → Occurs x cells' occ → Counts x cells' first_counter f planes →
      Counts x cells' second_counter g planes → FirstFound 0 x (wanted Zero 0 cells' f g) r

  pub zero_found : Found all → FirstFound 0 k (wanted Zero 0 cells (count (met m)) (sign_count true)) r
  zero_found told = subst Found same told cells _ _ o b.shows.met b.shows.positive

-- the word of a literal of a variable
word_some : (l : Literal) → 1 ≤ l.variable → 2 ≤ literal_word l
unfolding literal_word
word_some l h = omega arith

module _ {n k : ℕ} {cells planes : List ℕ} {m budget made : ℕ} (table : Table n k cells) (b : Before n k cells planes m budget made) where
  abbrev cs : List Clause
  cs = held k cells

  abbrev whole : Answer
  whole = answer budget (rounds n cs)

  -- with no round left
  pub round_spent : budget ≤ made → answer_in (Spent budget) ≡ whole
  unfolding answer_in
  round_spent h = sym (call_spent budget made (horn_tree cs) m _ h) ∙ b.same

  -- the first false clause, by the planes
  module _ (left : made < budget) (first : ℕ) (zero : First 0 k (wanted Zero 0 cells (count (met m)) (sign_count true)) first) where
    abbrev is_false : ℕ → Bool
    is_false i = not (some_met m (clause_at cells i))

    shown : First 0 k is_false first
    unfolding some_met test_of
    shown =
        first_same (λ i. and-true (eqb (count (met m) (clause_at cells i)) 0)
        ∙ sym (ap not (some_count (met m) (clause_at cells i)) ∙ not-not _)) zero

    -- no clause is false
    pub round_clear : first ≡ k → (a : Assignment) → bits_of a ≡ m → answer_in (Clear a (made + 1)) ≡ whole
    unfolding answer_in all_true horn_tree
    round_clear e a v =
        let all : all_true m cs ≡ true =
        held_every k cells (some_met m) (λ i h. not-false _ (shown.before i (omega arith) (omega arith))) in
        rw v (sym (call_clear budget made (horn_tree cs) m _ left all) ∙ b.same)

    -- the first false clause decides: what its positive literals lead to
    module _ (more : first ≡ k → ⊥) where
      pub round_inside : first < k
      round_inside = omega (arith, shown.within)

      failing : some_met m (clause_at cells first) ≡ false
      failing = not-true _ (shown.here round_inside)

      abbrev ls : List Literal
      ls = positives (clause_at cells first)

      known : (l : Literal) → In l ls → (1 ≤ l.variable) × (l.variable ≤ n)
      unfolding positives
      known l i = (table.each first round_inside).known l (keep_in _ _ l i).0

      abbrev below : Literal → Outcome
      below l = explore (horn_tree cs) (n + budget - made - 1) (toggle m (bit_of l))

      decides : settle budget (made + 1) (try below ls) ≡ whole
      unfolding all_true horn_tree first_false
      decides =
          let some : all_true m cs ≡ false = held_fails k cells (some_met m) first round_inside failing in
          let taken : first_false cs m ≡ clause_at cells first =
          held_first k cells (λ c. not (some_met m c)) first [] round_inside (shown.here round_inside) (λ i h. shown.before i (omega arith) h) in
          ap (λ (c : Clause). settle budget (made + 1) (try below (positives c))) (sym taken)
          ∙ sym (call_moves budget made (horn_tree cs) m (n + budget - made) (omega arith) some)
          ∙ b.same

      -- There is none,
      pub round_none : first_word ls ≡ 0 → answer_in (None (made + 1)) ≡ whole
      unfolding answer_in first_word
      round_none z = go ls refl z
        where
          go : (xs : List Literal) → ls ≡ xs → first_word xs ≡ 0 → Answer.none (made + 1) ≡ whole
          go [] q z' = sym (settle_nil budget (made + 1) below (omega arith)) ∙ (rw q at decides)
          go (l ∷ xs) q z' = absurd (omega (arith, word_some l (known l (rw q (Memᴰ.head refl))).0))

      -- or one, by its word, as the formula is Horn.
      module _ (horn : is_horn cs ≡ true) (w : ℕ) (e : w ≡ first_word ls) (some : w ≡ 0 → ⊥) where
        only : ls ≡ literal_of w ∷ []
        unfolding first_word
        only = go ls (horn_few cs horn _ (held_in k cells first round_inside)) e
          where
            go : (xs : List Literal) → length xs ≤ 1 → w ≡ first_word xs → xs ≡ literal_of w ∷ []
            go [] h q = absurd (some q)
            go (l ∷ []) h q = ap (λ (x : Literal). x ∷ []) (sym (ap literal_of q ∙ literal_word_lem l))
            go (l ∷ l' ∷ xs) h q = absurd (omega arith)

        it : In (literal_of w) ls
        it = rw only (Memᴰ.head refl)

        -- It is a literal that is not met,
        pub round_literal : n ≤ width → IsLiteral w
        unfolding literal_of
        round_literal small = let v = known (literal_of w) it in (omega arith, omega arith)

        pub round_unmet : met m (literal_of w) ≡ false
        unfolding positives
        round_unmet = clause_unmet m _ failing (literal_of w) (keep_in _ _ (literal_of w) it).0

        -- and the next round is at the assignment that sets it.
        pub round_next : (to : List ℕ) (m' : ℕ) → m' ≡ toggle m (bit_of (literal_of w)) → length to ≡ plane_cells →
            Shows k cells (toggle m (bit_of (literal_of w))) to → Before n k cells to m' budget (made + 1)
        unfolding try
        round_next to m' v size shows =
            let depth : n + budget - (made + 1) ≡ n + budget - made - 1 = omega arith in
            rw v (record {
              size = size;
              shows = shows;
              same = rw depth (ap (settle budget (made + 1)) (sym (after_nothing (below (literal_of w)))) ∙ (rw only at decides));
            })
