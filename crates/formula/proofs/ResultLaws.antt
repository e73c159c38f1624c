-- A refusal that is passed on, and a reading part way: what was read stands in front of what is to come.
use Rattle.std.specs.Prelude.{◌≡◌, Result as Outcome, Ok, Err, IsErrAnd}
use Rattle.std.proofs.Math.Path.{refl, ap}
use mathlib.Core.List.{List, [], ◌∷◌, ◌++◌, append_assoc, append-nil}
use Rattle.formula.specs.Sheet.{Result, accepted, refused, ◌>>=◌}

-- what a `?` hands on
pub passed_on : {A E : Type 0} (r : Outcome A E) (x : E) → IsErrAnd r (λ y. y ≡ x) → r ≡ Err x
passed_on (Ok a) x h = absurd h
passed_on (Err y) x h = ap Err h

module _ {A : Type 0} where
  unfoldable pub prepend : List A → Result (List A) → Result (List A)
  prepend done r = r >>= λ xs. accepted (done ++ xs)

  pub prepend_nil : (r : Result (List A)) → prepend [] r ≡ r
  unfolding prepend ◌>>=◌
  prepend_nil (accepted xs) = refl
  prepend_nil (refused x y) = refl

  -- one element more
  pub prepend_cons : (done : List A) (a : A) (r : Result (List A)) →
      prepend done (r >>= λ xs. accepted (a ∷ xs)) ≡ prepend (done ++ (a ∷ [])) r
  unfolding prepend ◌>>=◌
  prepend_cons done a (accepted xs) = rw append_assoc
  prepend_cons done a (refused x y) = refl

  pub prepend_end : (done : List A) → prepend done (accepted []) ≡ accepted done
  unfolding prepend ◌>>=◌
  prepend_end done = rw append-nil
