-- The laws that the machine's calls cite, one for each way through a call.
use Rattle.std.specs.Prelude.{◌≡◌, refl, not, List, [], ◌∷◌}
use Rattle.std.proofs.Math.Path.{sym, ap}
use Rattle.std.proofs.Common.{ap₂, ◌∙◌, ⊎_elim, eq-or-lt_of_le, add-one, pow_pos}
use Rattle.std.proofs.Math.Bool.{Bool, true, false}
use Rattle.std.proofs.lemmas.Bool.{false≢true}
use Prim.Native.Nat.{ℕ, zero, suc, ◌+◌, ◌-◌, ◌≤◌, ◌<◌}
use Rattle.std.proofs.Math.Nat.{sub-zero}
use native.Mathlib.Omega.{arith}
use types.Run.{OneOf}
use denote.Enum.Declared.{tag_of}
use borrow.Author.Tests.{not-true, not-false}
use Rattle.words.specs.Lists.{some, every}
use Rattle.words.proofs.ListLaws.{not_every}
use Rattle.words.proofs.CountLaws.{some_same}
use Rattle.words.specs.Bits.{toggle, width}
use Rattle.formula.specs.Formula.{Clause}
use Rattle.formula.specs.Counts.{sign_word}
use Rattle.formula.specs.Machine.{Table, held}
use Rattle.formula.proofs.TableLaws.{table_known}
use Rattle.tree.specs.Explore.{Outcome, explore, try, after}
use Rattle.tree.specs.Budget.{Answer, clear, answer}
use Rattle.tree.specs.Budget.{settle}
use Rattle.tree.proofs.BudgetLaws.{settle_start, onward, settle_nil, settle_after, call_none, call_clear, call_moves, onward_none, onward_stops, tag_none}
use Rattle.tree.specs.Machine.{answer_in}
use Rattle.tree.specs.declared.Found.{Found}
use Rattle.tree.specs.declared.Found.TheVariants.{None}
use Rattle.tree.specs.contracts.Found.{the_type}
use Rattle.tree.proofs.TreeLaws.{after_nothing}
use Rattle.planes.specs.Machine.{Occurs}
use Rattle.splitting.specs.Splitting.{Node, is_lost, is_sure, set_next, split_tree, split}
use Rattle.splitting.proofs.SplittingLaws.{lost_unsure, never_both, all_set, next_small, moves_lost, moves_two}
use Rattle.splitting.specs.Machine.{node, All, Without, Opens, some_closed, Standing, call_from}
use Rattle.splitting.proofs.SetLaws.{sign_row, unmet_start, unmet_next}

-- ---- a call

module _ {n k : ℕ} {cells occ rows unmet : List ℕ} {x : Node} (s : Standing n k cells occ rows x unmet) where
  abbrev cs : List Clause
  cs = held k cells

  -- what the test says with the set variables: whether some clause is lost,
  lost_told : some_closed k cells x.set x ≡ some (is_lost x) cs
  lost_told = some_same _ _ cs (λ c i. sym (lost_unsure x c))

  -- and with all: whether some clause is not sure.
  unsure_told : some_closed k cells n x ≡ not (every (is_sure x) cs)
  unsure_told =
      some_same _ (λ c. not (is_sure x c)) cs (λ c i. rw (all_set n cs (table_known s.table) c i)) ∙ sym (not_every (is_sure x) cs)

  module _ (budget calls : ℕ) (left : calls < budget) where
    abbrev whole : Answer
    whole = settle budget calls (call_from n k cells x)

    -- Some clause is lost: none;
    pub call_lost : true ≡ some_closed k cells x.set x → Answer.none (calls + 1) ≡ whole
    unfolding split_tree
    call_lost e = go (n - x.set)
      where
        lost : some (is_lost x) cs ≡ true
        lost = sym lost_told ∙ sym e

        go : (r : ℕ) → Answer.none (calls + 1) ≡ settle budget calls (explore (split_tree cs) r x)
        go zero = sym (call_none budget calls (split_tree cs) x 0 refl left (never_both x cs lost))
        go (suc r) =
            sym (call_moves budget calls (split_tree cs) x (suc r) (omega arith) (never_both x cs lost)
            ∙ rw (moves_lost cs x lost) (settle_nil budget (calls + 1) _ (omega arith)))

    -- every clause is sure: clear;
    pub call_sure : false ≡ some_closed k cells n x → clear x.assignment (calls + 1) ≡ whole
    unfolding split_tree
    call_sure e = sym (call_clear budget calls (split_tree cs) x (n - x.set) left (not-false _ (sym unsure_told ∙ sym e)))

    -- otherwise a variable is left,
    module _ (lost : false ≡ some_closed k cells x.set x) (unsure : true ≡ some_closed k cells n x) where
      pub call_left : x.set < n
      call_left =
          ⊎_elim
          (λ e. absurd (false≢true (lost ∙ ap (λ (j : ℕ). some_closed k cells j x) e ∙ sym unsure)))
          (λ h. h)
          (eq-or-lt_of_le s.within)

      -- and the next one is tried as 0 and then as 1.
      call_splits : onward (settle budget (calls + 1) (call_from n k cells (set_next x false)))
          (λ made. settle budget made (call_from n k cells (set_next x true))) ≡ whole
      unfolding split_tree try set_next
      call_splits =
          let g : every (is_sure x) cs ≡ false = not-true _ (sym unsure_told ∙ sym unsure) in
          let depth : n - suc x.set ≡ n - x.set - 1 = omega arith in
          let below : Bool → Outcome = λ b. explore (split_tree cs) (n - x.set - 1) (set_next x b) in
          sym (call_moves budget calls (split_tree cs) x (n - x.set) (omega (arith, call_left)) g
          ∙ rw (moves_two cs x (sym lost_told ∙ sym lost))
          (settle_after budget (calls + 1) (below false) (after (below true) (Outcome.none 0))
          ∙ ap (λ (o : Outcome). onward (settle budget (calls + 1) (below false)) (λ made. settle budget made o)) (after_nothing (below true))
          ∙ rw depth))

  -- what the next call is given
  standing_next : (b : Bool) {to : List ℕ} → x.set < n → n ≤ width → Without k (sign_word b x.set) occ unmet to →
      Standing n k cells occ rows (set_next x b) to
  standing_next b l fits w =
      record {
        table = s.table;
        occurs = s.occurs;
        opens = s.opens;
        within = unfold set_next in l;
        small = unfold set_next in next_small x b s.small;
        unmet = unmet_next x b s.small s.table s.occurs (sign_row b x.set (omega arith)) s.unmet w;
      }

-- ---- the first call

pub standing_start : {n k : ℕ} {cells occ rows set : List ℕ} (m : ℕ) → m ≡ 0 → Table n k cells → Occurs k cells occ → Opens n k cells rows →
    All k set → Standing n k cells occ rows (node 0 m) set
standing_start m e table o opens all =
    rw e (record { table = table; occurs = o; opens = opens; within = omega arith; small = pow_pos 0; unmet = unmet_start table all })

pub from_start : (n k : ℕ) (cells : List ℕ) (budget m : ℕ) → m ≡ 0 →
    settle budget 0 (call_from n k cells (node 0 m)) ≡ answer budget (split n (held k cells))
unfolding split
from_start n k cells budget m e = rw (e, sub-zero n) (settle_start budget (split n (held k cells)))

-- ---- the calls that a call makes, as the machine has them

-- an answer with the tag of clear or of spent is not none
pub not_none : (r : Found) → OneOf (0 ∷ 2 ∷ []) (tag_of the_type r) → (made : ℕ) → r ≡ None made → ⊥
not_none = tag_none (tag_of the_type) (λ made. refl)

module _ (x : Node) where
  next_zero : set_next x false ≡ node (x.set + 1) x.assignment
  unfolding set_next
  next_zero = rw (add-one x.set)

  next_one : (m : ℕ) → m ≡ toggle x.assignment x.set → set_next x true ≡ node (x.set + 1) m
  unfolding set_next
  next_one m e = rw (add-one x.set, e)

module _ {n k : ℕ} {cells occ rows set : List ℕ} {x : Node} (s : Standing n k cells occ rows x set) where
  -- what each is given
  module _ {to : List ℕ} (literal : ℕ) (left : x.set < n) (fits : n ≤ width) (w : Without k literal occ set to) where
    pub standing_zero : literal ≡ sign_word false x.set → Standing n k cells occ rows (node (x.set + 1) x.assignment) to
    standing_zero e = rw (next_zero x) at (standing_next s false left fits (rw e at w))

    pub standing_one : (m : ℕ) → m ≡ toggle x.assignment x.set → literal ≡ sign_word true x.set →
        Standing n k cells occ rows (node (x.set + 1) m) to
    standing_one m q e = rw (next_one x m q) at (standing_next s true left fits (rw e at w))

  -- What the first gives, and after none the second, is what the call gives.
  module _ (budget calls : ℕ) (counted : calls < budget) (lost : false ≡ some_closed k cells x.set x)
      (unsure : true ≡ some_closed k cells n x) (m : ℕ) (q : m ≡ toggle x.assignment x.set) (r : Found)
      (first : answer_in r ≡ settle budget (calls + 1) (call_from n k cells (node (x.set + 1) x.assignment))) where
    abbrev second : ℕ → Answer
    second made = settle budget made (call_from n k cells (node (x.set + 1) m))

    both : onward (answer_in r) second ≡ settle budget calls (call_from n k cells x)
    both =
        ap (λ (y : Answer). onward y second) first
        ∙ ap₂ (λ (y z : Node). onward (settle budget (calls + 1) (call_from n k cells y)) (λ made. settle budget made (call_from n k cells z)))
        (sym (next_zero x)) (sym (next_one x m q))
        ∙ call_splits s budget calls counted lost unsure

    pub splits_stops : ((made : ℕ) → r ≡ None made → ⊥) → answer_in r ≡ settle budget calls (call_from n k cells x)
    splits_stops other = sym (onward_stops r second other) ∙ both

    pub splits_next : (made : ℕ) → r ≡ None made → second made ≡ settle budget calls (call_from n k cells x)
    splits_next made e = sym (onward_none r second made e) ∙ both
