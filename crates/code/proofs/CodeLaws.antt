-- What greedy guarantees, for all t and s: the code covers, its words have length t, and each word that joins covers a new one.
use Rattle.std.specs.Prelude.{◌≡◌, refl, Bool, true, false, not, ◌&&◌, ◌||◌, List, [], ◌∷◌, ℕ, zero, suc, ◌+◌, ◌*◌, ◌^◌, ◌≤◌, ◌<◌, length, take}
use Rattle.std.proofs.Common.{sym, ap, ◌∙◌, ⊎_elim, zero-le, suc-le-suc, zero-add, zero-mul, suc-mul, le_refl, le_trans, le_of_eq, le_of_suc-le-suc, not-suc-le-zero, arith, leb-true, le-leb, take_all}
use mathlib.Core.List.Memᴰ
use Rattle.words.specs.Lists.{some, In}
use Rattle.words.proofs.ListLaws.{in_keep, in_some, in_span, length_span}
use Rattle.words.specs.Bits.{distance}
use Rattle.code.specs.Covering.{Covers, Within}
use Rattle.code.specs.Code.{words_of, near, gain, chosen, without, greedy, code, outside, uncovered}
use Rattle.code.proofs.KeepLaws.{words_within, keep_all, keep_none, keep_less, keep_keep, keep_same, keep_split}
use Rattle.code.proofs.ChosenLaws.{chosen_lt, without_less, without_within}

-- ---- what the balls around several words leave

not_or : (a b : Bool) → not (a || b) ≡ (not a && not b)
not_or true b = refl
not_or false b = refl

pub outside_nil : (s : ℕ) (xs : List ℕ) → outside s [] xs ≡ xs
unfolding outside some
outside_nil s xs = keep_all _ xs (λ x i. refl)

outside_cons : (s w : ℕ) (c xs : List ℕ) → outside s (w ∷ c) xs ≡ outside s c (without s w xs)
unfolding outside without some
outside_cons s w c xs = keep_same _ _ xs (λ x i. not_or (near s w x) _) ∙ sym (keep_keep _ _ xs)

-- nothing is left outside a covering
pub covers_outside : (t s : ℕ) (c : List ℕ) → Covers t s c → outside s c (words_of t) ≡ []
unfolding Covers outside Within near
covers_outside t s c h =
    keep_none _ (words_of t) (λ x i.
    let (w, j, d) = h x (words_within t x i) in
    ap not (in_some (λ v. near s v x) c w j (le-leb _ _ d)))

-- No ball holds more than v words of xs: then the balls around c hold at most length c * v of them.
pub outside_most : (s v : ℕ) (c xs : List ℕ) → ((w : ℕ) → gain s xs w ≤ v) →
    length xs ≤ length c * v + length (outside s c xs)
unfolding gain without
outside_most s v [] xs h = rw (outside_nil, zero-mul, zero-add) (le_refl (length xs))
outside_most s v (w ∷ c) xs h =
    let rest = outside_most s v c (without s w xs) (λ u. le_trans (keep_less (near s u) _ xs) (h u)) in
    rw (outside_cons, suc-mul) (omega (arith, h w, keep_split (near s w) xs))

-- ---- all steps

greedy_covers : (t s n : ℕ) (left : List ℕ) → Within t left → length left ≤ n → (x : ℕ) → In x left →
    (w : ℕ) × In w (greedy t s n left) × (distance w x ≤ s)
unfolding greedy near without
greedy_covers t s zero [] h l x i = absurd (Memᴰ.not-nil i)
greedy_covers t s zero (y ∷ left) h l x i = absurd (not-suc-le-zero l)
greedy_covers t s (suc n) [] h l x i = absurd (Memᴰ.not-nil i)
greedy_covers t s (suc n) (y ∷ left) h l x i =
    go (near s w x) refl (greedy_covers t s n rest (without_within t s w (y ∷ left) h) fewer x)
  where
    w : ℕ
    w = chosen t s (y ∷ left)

    rest : List ℕ
    rest = without s w (y ∷ left)

    fewer : length rest ≤ n
    fewer = le_of_suc-le-suc (le_trans (without_less t s (y ∷ left) h y (Memᴰ.head refl)) l)

    go : (b : Bool) → near s w x ≡ b → (In x rest → (v : ℕ) × In v (greedy t s n rest) × (distance v x ≤ s)) →
        (v : ℕ) × In v (w ∷ greedy t s n rest) × (distance v x ≤ s)
    go true e below = (w, Memᴰ.head refl, leb-true _ _ e)
    go false e below = let (v, j, d) = below (in_keep _ (y ∷ left) x i (ap not e)) in (v, Memᴰ.tail j, d)

greedy_within : (t s n : ℕ) (left : List ℕ) → Within t (greedy t s n left)
unfolding greedy Within
greedy_within t s zero left w i = absurd (Memᴰ.not-nil i)
greedy_within t s (suc n) [] w i = absurd (Memᴰ.not-nil i)
greedy_within t s (suc n) (x ∷ left) w i =
    ⊎_elim (λ e. rw e (chosen_lt t s (x ∷ left))) (greedy_within t s n _ w) (Memᴰ.cases_cons i)

greedy_size : (t s n : ℕ) (left : List ℕ) → length (greedy t s n left) ≤ n
unfolding greedy
greedy_size t s zero left = zero-le
greedy_size t s (suc n) [] = zero-le
greedy_size t s (suc n) (x ∷ left) = suc-le-suc (greedy_size t s n _)

-- ---- the code

-- Every word of length t is within s of a word of the code.
pub code_covers : (t s : ℕ) → Covers t s (code t s)
unfolding Covers code words_of
code_covers t s x h =
    greedy_covers t s (2 ^ t) (words_of t) (words_within t) (le_of_eq (length_span 0 (2 ^ t))) x
    (in_span 0 (2 ^ t) x zero-le (rw zero-add h))

-- Each word of the code has length t.
pub code_within : (t s : ℕ) → Within t (code t s)
unfolding code
code_within t s = greedy_within t s (2 ^ t) (words_of t)

-- The code has at most 2 ^ t words.
pub code_size : (t s : ℕ) → length (code t s) ≤ 2 ^ t
unfolding code
code_size t s = greedy_size t s (2 ^ t) (words_of t)

-- What each step of greedy does, on what is not yet covered, every word of the code does as it joins.
pub greedy_steps : (P : List ℕ → List ℕ → Type 0) (t s : ℕ) →
    ((left : List ℕ) (x : ℕ) → Within t left → In x left → P left (without s (chosen t s left) left)) →
    (n : ℕ) (left : List ℕ) → Within t left → (k : ℕ) → k < length (greedy t s n left) →
    P (outside s (take k (greedy t s n left)) left) (outside s (take (suc k) (greedy t s n left)) left)
unfolding greedy
greedy_steps P t s step zero left h k l = absurd (not-suc-le-zero l)
greedy_steps P t s step (suc n) [] h k l = absurd (not-suc-le-zero l)
greedy_steps P t s step (suc n) (x ∷ left) h zero l =
    rw (outside_cons, outside_nil, outside_nil) (step (x ∷ left) x h (Memᴰ.head refl))
greedy_steps P t s step (suc n) (x ∷ left) h (suc k) l =
    simp outside_cons (greedy_steps P t s step n _ (without_within t s _ (x ∷ left) h) k (le_of_suc-le-suc l))

-- Each word covers a new one as it joins,
pub code_closes : (t s k : ℕ) → k < length (code t s) → uncovered t s (suc k) < uncovered t s k
unfolding uncovered code
code_closes t s k l =
    greedy_steps (λ before after. length after < length before) t s (λ left x h i. without_less t s left h x i)
    (2 ^ t) (words_of t) (words_within t) k l

-- past the last word none is left,
pub code_closed : (t s k : ℕ) → length (code t s) ≤ k → uncovered t s k ≡ 0
unfolding uncovered
code_closed t s k h = rw (take_all k (code t s) h, covers_outside t s (code t s) (code_covers t s))

-- and so in the end.
pub code_ends : (t s : ℕ) → uncovered t s (length (code t s)) ≡ 0
code_ends t s = code_closed t s _ (le_refl _)
