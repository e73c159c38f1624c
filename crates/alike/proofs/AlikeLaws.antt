-- What alike means for formulas: n is equal and the clauses are the same sets. It is an equivalence, and alike formulas have the
-- same models.
use Rattle.std.specs.Prelude.{◌≡◌, refl, ◌↔◌, true, ℕ, eqb}
use Rattle.std.proofs.Common.{sym, ◌∙◌, eq-eqb, eqb-true}
use Rattle.words.specs.Lists.{In}
use Rattle.words.proofs.ListLaws.{and_left, and_right, and_both}
use Rattle.formula.specs.Formula.{Clause, Formula, all_true}
use Rattle.formula.specs.Sets.{stands, same_clauses}
use Rattle.formula.proofs.SetLaws.{SameIn, same_clauses_stands, same_clauses_means, same_clauses_order, same_clauses_refl, same_clauses_sym, same_clauses_trans, same_clauses_models}
use Rattle.alike.specs.Alike.{alike}

-- ---- alike by its parts

alike_parts : (f g : Formula) → (alike f g ≡ true) ↔ ((f.n ≡ g.n) × (same_clauses f.clauses g.clauses ≡ true))
unfolding alike
alike_parts f g =
    let number = eqb f.n g.n in
    let same = same_clauses f.clauses g.clauses in (
      λ e. (eqb-true f.n g.n (and_left number same e), and_right number same e),
      λ h. and_both number same (eq-eqb f.n g.n h.0) h.1,
    )

-- Each of two alike formulas has at least the clauses of the other.
pub alike_stands : (f g : Formula) → alike f g ≡ true →
    (f.n ≡ g.n) × (stands f.clauses g.clauses ≡ true) × (stands g.clauses f.clauses ≡ true)
alike_stands f g e =
    let (n, same) = (alike_parts f g).0 e in
    let (there, back) = (same_clauses_stands f.clauses g.clauses).0 same in
    (n, there, back)

-- ---- alike by membership alone

-- n is equal, and the clauses, each taken as a set of literals, form the same set.
pub record SameSets (f g : Formula) : Type 0 where
  pub variables : f.n ≡ g.n
  pub there : SameIn f.clauses g.clauses
  pub back : SameIn g.clauses f.clauses

pub alike_means : (f g : Formula) → (alike f g ≡ true) ↔ SameSets f g
alike_means f g = (
  λ e.
      let (n, same) = (alike_parts f g).0 e in
      let (there, back) = (same_clauses_means f.clauses g.clauses).0 same in
      record { variables = n; there = there; back = back },
  λ h. (alike_parts f g).1 (h.variables, (same_clauses_means f.clauses g.clauses).1 (h.there, h.back)),
)

-- Batch, order and repetition do not count.
pub alike_order : (f g : Formula) → f.n ≡ g.n → ((c : Clause) → In c f.clauses ↔ In c g.clauses) → alike f g ≡ true
alike_order f g e h = (alike_parts f g).1 (e, same_clauses_order f.clauses g.clauses h)

-- ---- an equivalence

pub alike_refl : (f : Formula) → alike f f ≡ true
alike_refl f = (alike_parts f f).1 (refl, same_clauses_refl f.clauses)

pub alike_sym : (f g : Formula) → alike f g ≡ true → alike g f ≡ true
alike_sym f g e = let (n, same) = (alike_parts f g).0 e in (alike_parts g f).1 (sym n, same_clauses_sym f.clauses g.clauses same)

pub alike_trans : (f g h : Formula) → alike f g ≡ true → alike g h ≡ true → alike f h ≡ true
alike_trans f g h e e' =
    let (n, same) = (alike_parts f g).0 e in
    let (n', same') = (alike_parts g h).0 e' in
    (alike_parts f h).1 (n ∙ n', same_clauses_trans f.clauses g.clauses h.clauses same same')

-- ---- models

pub alike_models : (f g : Formula) → alike f g ≡ true → (m : ℕ) → all_true m f.clauses ≡ all_true m g.clauses
alike_models f g e = same_clauses_models f.clauses g.clauses ((alike_parts f g).0 e).1
