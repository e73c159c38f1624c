-- The laws that the machine's calls cite, one for each way through a call and through its literals.
use Rattle.std.specs.Prelude.{◌≡◌, refl, Bool, true, false, not, ◌&&◌, ℕ, ◌+◌, ◌-◌, ◌≤◌, ◌<◌}
use Rattle.std.proofs.Math.Path.{sym, ap}
use Rattle.std.proofs.Common.{◌∙◌, add-one, arith}
use mathlib.Core.List.{List, [], ◌∷◌}
use Rattle.std.proofs.Math.ListN.{drop}
use borrow.Author.Tests.{not-true, not-false}
use types.Run.{OneOf}
use denote.Enum.Declared.{tag_of}
use Rattle.words.specs.Lists.{every}
use Rattle.words.specs.Bits.{bit, width}
use Rattle.words.specs.Machine.{bits_of}
use Rattle.words.specs.declared.Assignment.{Assignment}
use Rattle.formula.specs.Formula.{Literal, Clause, bit_of, literal_of}
use Rattle.formula.specs.Machine.{IsLiteral, Row, held, clause_at, length_at, literal_at}
use Rattle.formula.proofs.TableLaws.{table_row, row_cons, row_end, row_in, clause_known}
use Rattle.formula.proofs.HeldLaws.{held_every, held_fails, held_none}
use Rattle.tree.specs.declared.Found.{Found}
use Rattle.tree.specs.contracts.Found.{the_type}
use Rattle.tree.specs.declared.Found.TheVariants.{Clear, None, Spent}
use Rattle.tree.specs.Explore.{try}
use Rattle.tree.specs.Budget.{Answer, clear, spent}
use Rattle.tree.specs.Budget.{settle}
use Rattle.tree.proofs.BudgetLaws.{onward, settle_none, settle_nil, settle_cons, onward_none, onward_stops, none_made, tag_none}
use Rattle.tree.specs.Machine.{answer_in}
use Rattle.ball.specs.Ball.{State, is_flipped, is_true, is_dead, flip, is_tried, tried, skip, rule}
use Rattle.ball.proofs.ReadingLaws.{false_unmet}
use Rattle.ball.proofs.RuleLaws.{tried_fresh, tried_kept, rule_tried}
use Rattle.ball.proofs.CallLaws.{search_spent, search_clear, search_none, search_literals, try_tried}
use Rattle.ball.proofs.ChoiceLaws.{tried_free}
use Rattle.ball.specs.Machine.{Settles, Standing, FirstFalse, Selected, Trying, Turn, Attempting, LastAttempt, call_from, attempt_from, literals_from}

module _ (k : ℕ) (cells : List ℕ) (left : ℕ) (s : State) (A c : ℕ) where
  -- ---- one call

  pub in_spent : A ≤ c → settle A c (call_from k cells left s) ≡ spent A
  unfolding call_from
  in_spent = search_spent A c (held k cells) (rule (held k cells)) left s

  module _ (enough : c < A) (first : ℕ) (f : FirstFalse k cells s first) where
    pub in_clear : first ≡ k → settle A c (call_from k cells left s) ≡ clear s.assignment (c + 1)
    unfolding call_from
    in_clear e =
        search_clear A c (held k cells) (rule (held k cells)) left s enough
        (held_every k cells (is_true s) (λ i h. not-false _ (f.before i (omega arith) (omega arith))))

    module _ (more : first ≡ k → ⊥) where
      some_false : every (is_true s) (held k cells) ≡ false
      some_false =
          let inside : first < k = omega (arith, f.within) in
          held_fails k cells (is_true s) first inside (not-true _ (f.here inside))

      pub in_none : left ≡ 0 → settle A c (call_from k cells left s) ≡ Answer.none (c + 1)
      unfolding call_from
      in_none = search_none A c (held k cells) (rule (held k cells)) left s enough some_false

      -- otherwise it is what the literals of the clause that is taken give
      pub in_literals : (left ≡ 0 → ⊥) → (b : ℕ) → Standing k cells s b → (clause : ℕ) → Selected k cells s clause →
          settle A c (call_from k cells left s) ≡ settle A (c + 1) (literals_from k cells left s (clause_at cells clause))
      unfolding call_from literals_from attempt_from tried
      in_literals flips b stand clause q =
          search_literals A c (held k cells) (rule (held k cells)) left s some_false (omega arith)
          ∙ ap (λ (ls : List Literal). settle A (c + 1) (try (λ l. call_from k cells (left - 1) (flip s l)) ls))
          (rule_tried (held k cells) s (held_none k cells (is_dead s) stand.alive) ∙ ap (tried (skip (held k cells)) s) q.same)
          ∙ ap (settle A (c + 1)) (try_tried _ (is_tried (skip (held k cells)) s) (clause_at cells clause))

  -- ---- its literals

  pub in_end : c ≤ A → settle A c (literals_from k cells left s []) ≡ Answer.none c
  unfolding literals_from
  in_end h = settle_nil A c (attempt_from k cells left s) h

  in_step : (l : Literal) (ls : List Literal) →
      settle A c (literals_from k cells left s (l ∷ ls))
      ≡ onward (settle A c (attempt_from k cells left s l)) (λ d. settle A d (literals_from k cells left s ls))
  unfolding literals_from
  in_step l ls = settle_cons A c (attempt_from k cells left s) l ls

  module _ (l : Literal) where
    in_passed : is_tried (skip (held k cells)) s l ≡ false → c ≤ A → settle A c (attempt_from k cells left s l) ≡ Answer.none c
    unfolding attempt_from
    in_passed e h = rw e (settle_none A c h)

    in_tried : is_tried (skip (held k cells)) s l ≡ true →
        settle A c (attempt_from k cells left s l) ≡ settle A c (call_from k cells (left - 1) (flip s l))
    unfolding attempt_from
    in_tried e = rw e

-- ---- what the literals are tried with

-- an answer with the tag of clear or of spent is not none
pub not_none : (r : Found) → OneOf (0 ∷ 2 ∷ []) (tag_of the_type r) → (made : ℕ) → r ≡ None made → ⊥
not_none = tag_none (tag_of the_type) (λ made. refl)

module _ {k : ℕ} {cells occ planes : List ℕ} {s : State} {b clause j left calls budget : ℕ}
    (t : Trying k cells occ planes s b clause j left calls budget) where
  pub trying_row : Row cells clause
  trying_row = table_row t.ready.table clause t.inside

  -- there is a literal j
  module _ (h : j < length_at cells clause) where
    abbrev it : Literal
    it = literal_of (literal_at cells clause j)

    pub trying_known : IsLiteral (literal_at cells clause j)
    trying_known = clause_known width k cells t.ready.table clause t.inside j h

    -- whether it is tried, by the sets
    abbrev pub free : Bool
    free = not (bit b (bit_of it)) && not (is_flipped s it)

    trying_free : is_tried (skip (held k cells)) s it ≡ free
    trying_free = tried_free t.ready t.standing clause t.inside t.failing it (row_in trying_row j h)

    -- where it is tried it may be tried
    pub trying_attempt : free ≡ true → Attempting k cells occ planes s b (literal_at cells clause j) left calls budget
    trying_attempt e =
        record {
          ready = t.ready;
          shows = t.shows;
          standing = t.standing;
          known = trying_known;
          tryable = record {
            unmet = false_unmet s (clause_at cells clause) t.failing _ (row_in trying_row j h);
            fresh = tried_fresh (skip (held k cells)) s it (trying_free ∙ e);
          };
          kept = tried_kept (held k cells) s it (trying_free ∙ e);
          flips = t.flips;
          enough = t.enough;
        }

    trying_next : (made : ℕ) → made ≤ budget → Trying k cells occ planes s b clause (j + 1) left made budget
    trying_next made e =
        record {
          ready = t.ready;
          shows = t.shows;
          standing = t.standing;
          inside = t.inside;
          failing = t.failing;
          flips = t.flips;
          enough = e;
          more = omega (arith, h);
        }

-- ---- the loop over the literals

pub turn_start : {k : ℕ} {cells occ planes : List ℕ} {s : State} {b clause left calls budget : ℕ} →
    Trying k cells occ planes s b clause 0 left calls budget → Turn k cells occ planes s b clause left calls budget calls 0
turn_start t = record { trying = t; same = refl }

module _ {k : ℕ} {cells occ planes : List ℕ} {s : State} {b clause left calls budget made j : ℕ}
    (turn : Turn k cells occ planes s b clause left calls budget made j) where
  abbrev taken : Clause
  taken = clause_at cells clause

  abbrev whole : Answer
  whole = settle budget calls (literals_from k cells left s taken)

  -- no literal is left
  pub turn_end : length_at cells clause ≤ j → answer_in (None made) ≡ whole
  unfolding answer_in
  turn_end h =
      let t = turn.trying in
      let end : drop j taken ≡ [] = row_end (trying_row t) j h in
      sym (in_end k cells left s budget made t.enough) ∙ (rw end at turn.same)

  -- what literal j gives, and after none the literals after it
  module _ (h : j < length_at cells clause) where
    abbrev literal : Literal
    literal = literal_of (literal_at cells clause j)

    abbrev rest_of : ℕ → Answer
    rest_of d = settle budget d (literals_from k cells left s (drop (j + 1) taken))

    onwards : (a : Answer) → a ≡ settle budget made (attempt_from k cells left s literal) → onward a rest_of ≡ whole
    onwards a gave =
        let cons : drop j taken ≡ literal ∷ drop (j + 1) taken = rw add-one (row_cons (trying_row turn.trying) j h) in
        ap (λ (x : Answer). onward x rest_of) gave
        ∙ sym (in_step k cells left s budget made _ (drop (j + 1) taken))
        ∙ (rw cons at turn.same)

    -- It is not tried;
    pub turn_passed : free turn.trying h ≡ false → Turn k cells occ planes s b clause left calls budget made (j + 1)
    turn_passed e =
        let t = turn.trying in
        record {
          trying = trying_next t h made t.enough;
          same = onwards (Answer.none made) (sym (in_passed k cells left s budget made literal (trying_free t h ∙ e) t.enough));
        }

    -- or it is, and its call answers.
    module _ (e : free turn.trying h ≡ true) (r : Found)
        (gave : answer_in r ≡ settle budget made (call_from k cells (left - 1) (flip s literal))) where
      tried_onwards : onward (answer_in r) rest_of ≡ whole
      tried_onwards =
          onwards (answer_in r) (gave ∙ sym (in_tried k cells left s budget made literal (trying_free turn.trying h ∙ e)))

      pub turn_stops : ((m : ℕ) → r ≡ None m → ⊥) → answer_in r ≡ whole
      turn_stops h' = sym (onward_stops r rest_of h') ∙ tried_onwards

      pub turn_next : (m : ℕ) → r ≡ None m → Turn k cells occ planes s b clause left calls budget m (j + 1)
      turn_next m f =
          record {
            trying = trying_next turn.trying h m (none_made r budget made m _ gave f).1;
            same = sym (onward_none r rest_of m f) ∙ tried_onwards;
          }

-- ---- one literal with one flip left

module _ (k : ℕ) (occ planes : List ℕ) (s : State) (b literal A c : ℕ) where
  abbrev Last : Found → Type 0
  Last = LastAttempt k occ planes s b literal A c

  abbrev after : State
  after = flip s (literal_of literal)

  pub last_spent : A ≤ c → Last (Spent A)
  unfolding answer_in
  last_spent h = record { answer = λ cells a. sym (in_spent k cells 0 after A c h) }

  module _ (all : Bool) (settles : Settles k literal occ planes all) (enough : c < A) where
    pub last_clear : all ≡ true → (m : Assignment) → bits_of m ≡ after.assignment → Last (Clear m (c + 1))
    unfolding answer_in call_from
    last_clear e m v =
        record {
          answer = λ cells a.
              rw v (sym (search_clear A c _ _ 0 after enough (settles.answer cells s a.ready a.shows a.tryable ∙ e)));
        }

    pub last_none : all ≡ false → Last (None (c + 1))
    unfolding answer_in call_from
    last_none e =
        record {
          answer = λ cells a.
              sym (search_none A c _ _ 0 after enough (settles.answer cells s a.ready a.shows a.tryable ∙ e) refl);
        }
