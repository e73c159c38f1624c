-- Tests over lists, membership, and runs of numbers: the words in which the crates above speak of lists.
use Rattle.std.specs.Prelude.{Bool, true, false, cond, ◌&&◌, ◌||◌, ℕ, zero, suc, length}
use mathlib.Core.List.{List, [], ◌∷◌, Memᴰ}

module _ {A : Type 0} where
  -- some element passes the test
  unfoldable pub some : (A → Bool) → List A → Bool
  some p [] = false
  some p (x ∷ xs) = p x || some p xs

  -- every element passes the test
  unfoldable pub every : (A → Bool) → List A → Bool
  every p [] = true
  every p (x ∷ xs) = p x && every p xs

  -- the elements that pass the test, in order
  unfoldable pub keep : (A → Bool) → List A → List A
  keep p [] = []
  keep p (x ∷ xs) = cond (p x) (x ∷ keep p xs) (keep p xs)

  -- how many elements pass the test
  unfoldable pub count : (A → Bool) → List A → ℕ
  count p xs = length (keep p xs)

  -- the first element that passes the test, or d where none does
  unfoldable pub first : (A → Bool) → List A → A → A
  first p [] d = d
  first p (x ∷ xs) d = cond (p x) x (first p xs d)

  -- x stands in the list
  abbrev pub In : A → List A → Type 0
  In x xs = Memᴰ x xs

-- i, i + 1, and so on: n numbers
unfoldable pub span : ℕ → ℕ → List ℕ
span i zero = []
span i (suc n) = i ∷ span (suc i) n
