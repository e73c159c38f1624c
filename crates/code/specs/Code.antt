-- The covering code of length t and radius s, as paper 01 builds it ("The block code").
use Rattle.std.specs.Prelude.{Bool, cond, not, List, [], ◌∷◌, ℕ, zero, suc, ◌^◌, leb, ltb, length, take}
use Rattle.words.specs.Lists.{some, keep, span}
use Rattle.words.specs.Bits.{distance}

-- the words of length t
unfoldable pub words_of : ℕ → List ℕ
words_of t = span 0 (2 ^ t)

-- x differs from w in at most s bits
unfoldable pub near : ℕ → ℕ → ℕ → Bool
near s w x = leb (distance w x) s

-- the ball of radius s around w: all words of length t that differ from w in at most s bits
unfoldable pub ball : ℕ → ℕ → ℕ → List ℕ
ball t s w = keep (near s w) (words_of t)

-- how many of the words not yet covered the ball around w holds
unfoldable pub gain : ℕ → List ℕ → ℕ → ℕ
gain s left w = length (keep (near s w) left)

-- a later word takes an earlier one's place if it gains more, so that a tie goes to the smaller number
unfoldable pub beats : ℕ → ℕ → Bool
beats later earlier = ltb earlier later

-- the best of the numbers below n, by what each gains
unfoldable pub best : (ℕ → ℕ) → ℕ → ℕ
best f zero = 0
best f (suc n) = let b = best f n in cond (beats (f n) (f b)) n b

-- the word that joins the code next, while `left` is not yet covered
unfoldable pub chosen : ℕ → ℕ → List ℕ → ℕ
chosen t s left = best (gain s left) (2 ^ t)

-- what is not yet covered once w has joined
unfoldable pub without : ℕ → ℕ → List ℕ → List ℕ
without s w left = keep (λ x. not (near s w x)) left

-- words join until nothing is left, in at most n steps
unfoldable pub greedy : ℕ → ℕ → ℕ → List ℕ → List ℕ
greedy t s zero left = []
greedy t s (suc n) [] = []
greedy t s (suc n) (x ∷ left) = let w = chosen t s (x ∷ left) in w ∷ greedy t s n (without s w (x ∷ left))

-- the code of length t and radius s, in the order in which its words joined; that 2 ^ t steps are enough is code_covers
unfoldable pub code : ℕ → ℕ → List ℕ
code t s = greedy t s (2 ^ t) (words_of t)

-- the words of xs that no ball around a word of c holds
unfoldable pub outside : ℕ → List ℕ → List ℕ → List ℕ
outside s c xs = keep (λ x. not (some (λ w. near s w x) c)) xs

-- how many words of length t are uncovered once the first k words of the code have joined
unfoldable pub uncovered : ℕ → ℕ → ℕ → ℕ
uncovered t s k = length (outside s (take k (code t s)) (words_of t))
