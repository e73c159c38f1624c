-- Laws of the first clause that another list of clauses lacks (02, paper 12): there is none where all stand there, and only then; which one
-- it is, and its place; and the steps of the loop that finds it.
use Rattle.std.specs.Prelude.{◌≡◌, refl, Bool, true, false, List, [], ◌∷◌, ◌++◌, ℕ, suc, ◌+◌, length, drop, Option, Some, None, is_none}
use Rattle.std.proofs.Common.{sym, ap, ◌∙◌, true≢false, add-zero, add_assoc, arith, length-append}
use Rattle.std.proofs.Math.Numerals.{add-one}
use Rattle.words.specs.Lists.{some, every}
use Rattle.formula.specs.Formula.{Clause}
use Rattle.formula.specs.Sheet.{clause_words, header_words}
use Rattle.formula.proofs.ParseEncode.{length_literal_words}
use Rattle.formula.specs.Sets.{same_set, stands, first_lacking}

pub lacking_stands : (place : ℕ) (cs ds : List Clause) → is_none (first_lacking place cs ds) ≡ stands cs ds
unfolding first_lacking stands every
lacking_stands place [] ds = refl
lacking_stands place (c ∷ cs) ds = go (lacking_stands (place + 1 + length c) cs ds) (some (same_set c) ds) refl
  where
    go : is_none (first_lacking (place + 1 + length c) cs ds) ≡ stands cs ds → (b : Bool) → some (same_set c) ds ≡ b →
        is_none (first_lacking place (c ∷ cs) ds) ≡ stands (c ∷ cs) ds
    go rest true e = rw e rest
    go rest false e = rw e

-- Where all stand none is lacking.
pub stands_lacking : (place : ℕ) (cs ds : List Clause) → stands cs ds ≡ true → first_lacking place cs ds ≡ None
stands_lacking place cs ds st = go (first_lacking place cs ds) (lacking_stands place cs ds ∙ st)
  where
    go : (x : Option ℕ) → is_none x ≡ true → x ≡ None
    go None e = refl
    go (Some q) e = absurd (true≢false (sym e))

-- ---- which clause it is

-- A clause of cs that is none of ds, where all before it are.
pub record Lacks (cs ds : List Clause) : Type 0 where
  pub before : List Clause
  pub clause : Clause
  pub after : List Clause
  pub parts : cs ≡ before ++ (clause ∷ after)
  pub kept : stands before ds ≡ true
  pub lacks : some (same_set clause) ds ≡ false

-- It is at the place that follows the words of the clauses before it.
pub lacking_at : (place : ℕ) (cs ds : List Clause) (q : ℕ) → first_lacking place cs ds ≡ Some q →
    (h : Lacks cs ds) × (q ≡ place + length (clause_words h.before))
unfolding first_lacking clause_words stands every
lacking_at place [] ds q e = absurd (true≢false (ap is_none e))
lacking_at place (c ∷ cs) ds q e = go (lacking_at (place + 1 + length c) cs ds q) (some (same_set c) ds) refl e
  where
    found : {x : Option ℕ} → x ≡ Some place → x ≡ Some q → q ≡ place
    found h e = cc

    words : (before : List Clause) → place + 1 + length c + length (clause_words before) ≡ place + length (clause_words (c ∷ before))
    words before = rw (length-append, length_literal_words c) (omega arith)

    go : (first_lacking (place + 1 + length c) cs ds ≡ Some q → (h : Lacks cs ds) × (q ≡ place + 1 + length c + length (clause_words h.before))) →
        (b : Bool) → some (same_set c) ds ≡ b → first_lacking place (c ∷ cs) ds ≡ Some q →
        (h : Lacks (c ∷ cs) ds) × (q ≡ place + length (clause_words h.before))
    go rest true h e =
        let (x, at) = rest (rw h at e) in (
          record {
            before = c ∷ x.before;
            clause = x.clause;
            after = x.after;
            parts = ap (λ (l : List Clause). c ∷ l) x.parts;
            kept = rw h x.kept;
            lacks = x.lacks;
          },
          at ∙ words x.before,
        )
    go rest false h e =
        (record { before = []; clause = c; after = cs; parts = refl; kept = refl; lacks = h }, found (rw h) e ∙ sym (add-zero place))

-- ---- step by step

module _ (cs ds : List Clause) (place i : ℕ) (left : first_lacking place (drop i cs) ds ≡ first_lacking header_words cs ds) where
  pub lacking_found : {c : Clause} → drop i cs ≡ c ∷ drop (suc i) cs → some (same_set c) ds ≡ false → Some place ≡ first_lacking header_words cs ds
  unfolding first_lacking
  lacking_found here e = (rw (here, e)) ∙ left

  pub lacking_next : {c : Clause} → drop i cs ≡ c ∷ drop (suc i) cs → some (same_set c) ds ≡ true → (len : ℕ) → length c ≡ len →
      first_lacking (place + (1 + len)) (drop (i + 1) cs) ds ≡ first_lacking header_words cs ds
  unfolding first_lacking
  lacking_next {c} here e len size = (rw (here, e, add-one, ← size, ← add_assoc)) ∙ left

  pub lacking_none : drop i cs ≡ [] → None ≡ first_lacking header_words cs ds
  unfolding first_lacking
  lacking_none end = (rw end) ∙ left
