-- Laws of the operations: what each comes to, and that on the sheet that began it a tally stays the tally of its assignment.
use Rattle.std.specs.Prelude.{◌≡◌, refl, ◌⊎◌, Bool, true, false, ℕ, zero, suc, ◌-◌, ◌^◌, ◌≤◌, ◌<◌, ltb}
use Rattle.std.proofs.Math.Path.{sym, ap}
use Rattle.std.proofs.Common.{◌∙◌, inl, inr, arith}
use mathlib.Core.List.{List, [], ◌∷◌}
use Rattle.std.proofs.Math.Pow.{pow_pos}
use borrow.Author.Tests.{eq-eqb, ne_eqb, lt-ltb, le-ltb, ltb-true, ltb-false}
use Rattle.words.specs.Bits.{toggle}
use Rattle.words.proofs.BitLaws.{toggle_lt, toggle_twice}
use Rattle.formula.specs.Formula.{Formula, WellFormed}
use Rattle.formula.specs.Sheet.{accepted, refused, ◌>>=◌, ◌>>◌, refuse_when, parse}
use Rattle.formula.proofs.ParseAccepted.{parse_well_formed}
use Rattle.tally.specs.Tally.{Tally, tally_of, toggled, tally_begin, tally_toggle, left, tally_toggles, NO_SUCH_VARIABLE}
use Rattle.tally.proofs.TallyLaws.{toggled_tally}

-- ---- a refused sheet

module _ (s : List ℕ) (number place : ℕ) (read : parse s ≡ refused number place) where
  pub begin_declined : tally_begin s ≡ refused number place
  unfolding tally_begin ◌>>=◌
  begin_declined = rw read

  pub toggle_declined : (v : ℕ) (t : Tally) → tally_toggle s v t ≡ refused number place
  unfolding tally_toggle ◌>>=◌
  toggle_declined v t = rw read

-- ---- an accepted sheet

module _ (s : List ℕ) (f : Formula) (read : parse s ≡ accepted f) where
  pub begin_done : tally_begin s ≡ accepted (tally_of f.clauses 0)
  unfolding tally_begin ◌>>=◌
  begin_done = rw read

  pub toggle_done : (v : ℕ) (t : Tally) → 1 ≤ v → v ≤ f.n → tally_toggle s v t ≡ accepted (toggled v f.clauses t)
  unfolding tally_toggle ◌>>=◌ ◌>>◌ refuse_when
  toggle_done v t h l = rw (read, ne_eqb v 0 (λ e. omega arith), le-ltb f.n v l)

  pub toggle_unknown : (v : ℕ) (t : Tally) → (v ≡ 0) ⊎ (f.n < v) → tally_toggle s v t ≡ refused NO_SUCH_VARIABLE 0
  unfolding tally_toggle ◌>>=◌ ◌>>◌ refuse_when
  toggle_unknown v t (inl e) = rw (read, eq-eqb v 0 e)
  toggle_unknown v t (inr h) = rw (read, ne_eqb v 0 (λ e. omega arith), lt-ltb f.n v h)

  pub known : (v : ℕ) → ((1 ≤ v) × (v ≤ f.n)) ⊎ ((v ≡ 0) ⊎ (f.n < v))
  known zero = inr (inl refl)
  known (suc v) = go (ltb f.n (suc v)) refl
    where
      go : (b : Bool) → ltb f.n (suc v) ≡ b → ((1 ≤ suc v) × (suc v ≤ f.n)) ⊎ ((suc v ≡ 0) ⊎ (f.n < suc v))
      go true e = inr (inr (ltb-true f.n (suc v) e))
      go false e = inl (omega arith, ltb-false f.n (suc v) e)

  -- ---- what began with it

  -- It is the tally of an assignment over the formula's variables.
  pub record Kept (t : Tally) : Type 0 where
    pub assignment : ℕ
    pub below : assignment < 2 ^ f.n
    pub same : t ≡ tally_of f.clauses assignment

  formed : WellFormed f
  formed = parse_well_formed s f read

  toggled_of : (v m : ℕ) → 1 ≤ v → toggled v f.clauses (tally_of f.clauses m) ≡ tally_of f.clauses (toggle m (v - 1))
  toggled_of v m h = toggled_tally v h m f.clauses formed.each formed.clauses

  begin_kept : (lent : Tally) → Kept (left lent (tally_begin s))
  unfolding left
  begin_kept lent = record { assignment = 0; below = pow_pos f.n; same = ap (left lent) begin_done }

  toggle_to : (v : ℕ) (t : Tally) (k : Kept t) → 1 ≤ v → v ≤ f.n →
      left t (tally_toggle s v t) ≡ tally_of f.clauses (toggle k.assignment (v - 1))
  unfolding left
  toggle_to v t k h l = ap (left t) (toggle_done v t h l) ∙ ap (toggled v f.clauses) k.same ∙ toggled_of v k.assignment h

  toggle_kept : (v : ℕ) (t : Tally) → Kept t → Kept (left t (tally_toggle s v t))
  unfolding left
  toggle_kept v t k = go (known v)
    where
      go : ((1 ≤ v) × (v ≤ f.n)) ⊎ ((v ≡ 0) ⊎ (f.n < v)) → Kept (left t (tally_toggle s v t))
      go (inl (h, l)) =
          record {
            assignment = toggle k.assignment (v - 1);
            below = toggle_lt f.n k.assignment (v - 1) k.below (omega arith);
            same = toggle_to v t k h l;
          }
      go (inr h) = record { assignment = k.assignment; below = k.below; same = ap (left t) (toggle_unknown v t h) ∙ k.same }

  toggles_kept : (vs : List ℕ) (t : Tally) → Kept t → Kept (tally_toggles s vs t)
  unfolding tally_toggles
  toggles_kept [] t k = k
  toggles_kept (v ∷ vs) t k = toggles_kept vs _ (toggle_kept v t k)

  pub kept : (lent : Tally) (vs : List ℕ) → Kept (tally_toggles s vs (left lent (tally_begin s)))
  kept lent vs = toggles_kept vs _ (begin_kept lent)

  -- a variable toggled twice running
  pub kept_twice : (v : ℕ) (t : Tally) → Kept t → tally_toggles s (v ∷ v ∷ []) t ≡ t
  unfolding tally_toggles left
  kept_twice v t k = go (known v)
    where
      go : ((1 ≤ v) × (v ≤ f.n)) ⊎ ((v ≡ 0) ⊎ (f.n < v)) →
          left (left t (tally_toggle s v t)) (tally_toggle s v (left t (tally_toggle s v t))) ≡ t
      go (inl (h, l)) =
          let m = k.assignment in
          let again = toggle_twice f.n m (v - 1) k.below (omega arith) in
          rw (toggle_to v t k h l)
          (ap (left _) (toggle_done v _ h l) ∙ toggled_of v (toggle m (v - 1)) h ∙ ap (tally_of f.clauses) again ∙ sym k.same)
      go (inr h) = rw (toggle_unknown v t h) (ap (left t) (toggle_unknown v t h))
