-- What paper 2 promises of a tally: on the sheet that began it, after any toggles; and of one toggle on any sheet.
use Rattle.std.specs.Prelude.{◌≡◌, refl, ◌⊎◌, true, false, not, ℕ, ◌-◌, ◌^◌, ◌≤◌, ◌<◌}
use Rattle.std.proofs.Math.Path.{sym, ap}
use Rattle.std.proofs.Common.{◌∙◌, inl, inr, eq-zero-or-pos, arith}
use Rattle.std.proofs.Math.Logic.{⊎_elim}
use Rattle.std.proofs.Math.Bool.{false≢true}
use mathlib.Core.List.{List, [], ◌∷◌}
use Rattle.std.proofs.Math.Dec.{eqb}
use Rattle.std.proofs.Math.ListN.{length, get_or}
use Rattle.words.specs.Lists.{In, some, every, count}
use Rattle.words.proofs.ListLaws.{refute, every_in, apart}
use Rattle.words.proofs.CountLaws.{every_count}
use Rattle.formula.specs.Formula.{Formula, met, some_met, all_true, names, clause_limit}
use Rattle.formula.specs.Sheet.{Result, accepted, refused, ◌>>=◌, parse}
use Rattle.formula.specs.Refusals.{Reason}
use Rattle.formula.proofs.ParseRefused.{parse_refused, reason_number}
use Rattle.tally.specs.Tally.{Tally, met_of, unmet_of, tally_of, toggled, tally_begin, tally_toggle, tally_holds, left, tally_toggles, NO_SUCH_VARIABLE}
use Rattle.tally.proofs.NumberLaws.{moved_not}
use Rattle.tally.proofs.TallyLaws.{padded_at, renumber_stays}
use Rattle.tally.proofs.OperationLaws.{toggle_declined, toggle_done, toggle_unknown, known, kept, kept_twice}

-- ---- on the sheet that began it

-- Whatever was lent to begin with, and after any toggles, refused ones among them:
module _ (s : List ℕ) (f : Formula) (read : parse s ≡ accepted f) (lent : Tally) (vs : List ℕ) where
  abbrev t : Tally
  t = tally_toggles s vs (left lent (tally_begin s))

  -- it is the tally of its assignment, whose bits from n up are 0:
  pub tally_kept : (t ≡ tally_of f.clauses t.assignment) × (t.assignment < 2 ^ f.n)
  unfolding tally_of
  tally_kept =
      let k = kept s f read lent vs in
      let m : t.assignment ≡ k.assignment = ap (λ (u : Tally). u.assignment) k.same in
      (k.same ∙ ap (tally_of f.clauses) (sym m), rw m k.below)

  -- each number is the number of met literals of its clause, and 0 past the last one;
  pub tally_met : (i : ℕ) → get_or t.met i 0 ≡ count (met t.assignment) (get_or f.clauses i [])
  unfolding tally_of met_of
  tally_met i =
      ap (λ (u : Tally). get_or u.met i 0) tally_kept.0
      ∙ padded_at t.assignment f.clauses (clause_limit - length f.clauses) i

  -- the last number is the number of false clauses;
  pub tally_unmet : t.unmet ≡ count (λ c. not (some_met t.assignment c)) f.clauses
  unfolding tally_of unmet_of
  tally_unmet = ap (λ (u : Tally). u.unmet) tally_kept.0

  -- that all clauses hold is what the full reading says;
  pub tally_holds_lem : tally_holds t.unmet ≡ all_true t.assignment f.clauses
  unfolding tally_holds all_true
  tally_holds_lem = ap (λ (u : ℕ). eqb u 0) tally_unmet ∙ sym (every_count (some_met t.assignment) f.clauses)

  -- toggling one variable twice running restores everything.
  pub tally_twice : (v : ℕ) → tally_toggles s (v ∷ v ∷ []) t ≡ t
  tally_twice v = kept_twice s f read v t (kept s f read lent vs)

  -- A sheet without clauses holds at once;
  pub tally_no_clause : f.clauses ≡ [] → tally_holds t.unmet ≡ true
  unfolding all_true every
  tally_no_clause e = tally_holds_lem ∙ rw e

  -- an empty clause is always counted as false.
  pub tally_empty_clause : In [] f.clauses → tally_holds t.unmet ≡ false
  unfolding all_true some_met some
  tally_empty_clause i =
      tally_holds_lem ∙ refute _ (λ e. false≢true (every_in (some_met t.assignment) f.clauses e [] i))

-- ---- any sheet, any tally

-- A beginning is refused for the sheet's own reason alone.
pub begin_refused : (s : List ℕ) {number place : ℕ} → tally_begin s ≡ refused number place → Reason s number place
unfolding tally_begin ◌>>=◌
begin_refused s {number} {place} e = go (parse s) refl e
  where
    go : (r : Result Formula) → parse s ≡ r → (r >>= λ f. accepted (tally_of f.clauses 0)) ≡ refused number place → Reason s number place
    go (accepted f) q h = apart (cc)
    go (refused x y) q h = parse_refused s number place (q ∙ ap (λ (z : ℕ). refused z y) (cc) ∙ ap (λ (z : ℕ). refused number z) (cc))

-- What a toggle comes to: the sheet's own refusal goes first, then that of the variable; else it is made.
pub data Answered (s : List ℕ) (v : ℕ) (t : Tally) : Result Tally → Type 0 where
  bad_sheet : {number place : ℕ} → Reason s number place → Answered s v t (refused number place)
  no_variable : {f : Formula} → parse s ≡ accepted f → (v ≡ 0) ⊎ (f.n < v) → Answered s v t (refused NO_SUCH_VARIABLE 0)
  made : {f : Formula} → parse s ≡ accepted f → (1 ≤ v) × (v ≤ f.n) → Answered s v t (accepted (toggled v f.clauses t))

module _ (s : List ℕ) (v : ℕ) (t : Tally) where
  pub toggle_answered : Answered s v t (tally_toggle s v t)
  toggle_answered = go (parse s) refl
    where
      go : (r : Result Formula) → parse s ≡ r → Answered s v t (tally_toggle s v t)
      go (refused x y) q = rw (toggle_declined s x y q v t) (bad_sheet (parse_refused s x y q))
      go (accepted f) q =
          ⊎_elim
          (λ h. rw (toggle_done s f q v t h.0 h.1) (made q h))
          (λ h. rw (toggle_unknown s f q v t h) (no_variable q h))
          (known s f q v)

  -- The number of a refusal is above 0: a host tells it by that.
  pub toggle_told : {number place : ℕ} → tally_toggle s v t ≡ refused number place → 1 ≤ number
  toggle_told {number} {place} e = go toggle_answered e
    where
      go : {x : Result Tally} → Answered s v t x → x ≡ refused number place → 1 ≤ number
      go (bad_sheet {number = n} r) h = let same : n ≡ number = cc in omega (arith, reason_number r)
      go (no_variable q h) h' = let same : NO_SUCH_VARIABLE ≡ number = cc in omega arith
      go (made q h) h' = apart (cc)

  -- A refusal leaves the tally as it came.
  pub toggle_refused : {number place : ℕ} → tally_toggle s v t ≡ refused number place → left t (tally_toggle s v t) ≡ t
  unfolding left
  toggle_refused e = ap (left t) e

  module _ (f : Formula) (read : parse s ≡ accepted f) where
    -- It changes only the numbers of clauses that name the variable.
    pub toggle_only : (i : ℕ) → names v (get_or f.clauses i []) ≡ false → get_or (left t (tally_toggle s v t)).met i 0 ≡ get_or t.met i 0
    unfolding left toggled
    toggle_only i e =
        ⊎_elim
        (λ h. number (toggle_done s f read v t h.0 h.1) ∙ renumber_stays _ f.clauses t.met i (λ x. sym (moved_not _ v _ x e)))
        (λ h. number (toggle_unknown s f read v t h))
        (known s f read v)
      where
        number : {r r' : Result Tally} → r ≡ r' → get_or (left t r).met i 0 ≡ get_or (left t r').met i 0
        number q = ap (λ (r : Result Tally). get_or (left t r).met i 0) q

    -- Variable 0 and those above n are refused: with n 0 every variable is.
    pub toggle_refuses : (v ≡ 0) ⊎ (f.n < v) → tally_toggle s v t ≡ refused NO_SUCH_VARIABLE 0
    toggle_refuses = toggle_unknown s f read v t

    pub toggle_no_variables : f.n ≡ 0 → tally_toggle s v t ≡ refused NO_SUCH_VARIABLE 0
    toggle_no_variables e = toggle_refuses (⊎_elim inl (λ h. inr (omega arith)) (eq-zero-or-pos v))
