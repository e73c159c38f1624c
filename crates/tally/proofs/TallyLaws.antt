-- Laws of a tally: over the clauses, one after the other, it stays the tally of its assignment.
use Rattle.std.specs.Prelude.{◌≡◌, Bool, not, eqb, get_or}
use Rattle.std.proofs.Math.Path.{refl, ap₂}
use Rattle.std.proofs.Common.{sym, ap, ◌∙◌, arith}
use Rattle.std.proofs.Math.Bool.{not-not}
use mathlib.Core.List.Memᴰ
use mathlib.Core.List.{List, [], ◌∷◌, ◌++◌, map}
use Prim.Native.Nat.{ℕ, zero, suc, ◌+◌, ◌-◌, ◌≤◌}
use Rattle.std.proofs.Math.Nat.{min-eq_left}
use Rattle.std.proofs.Math.Dec.{eqb-suc-zero}
use Rattle.std.proofs.Math.ListN.{length, replicate}
use Rattle.words.specs.Lists.{In, keep, count}
use Rattle.words.specs.Bits.{toggle}
use Rattle.words.proofs.BitLaws.{digit}
use Rattle.words.proofs.CountLaws.{digit_not, count_cons, some_count}
use Rattle.formula.specs.Formula.{Clause, WellFormedClause, met, some_met, clause_limit}
use Rattle.tally.specs.Tally.{Tally, met_of, unmet_of, tally_of, moved, recounted, renumber, recount, toggled}
use Rattle.tally.proofs.NumberLaws.{moved_met}

-- ---- the number of false clauses, whatever the numbers become

-- how many of the clauses have the number 0
unfoldable zeros : List Clause → List ℕ → ℕ
zeros [] xs = 0
zeros (c ∷ cs) [] = 0
zeros (c ∷ cs) (x ∷ xs) = digit (eqb x 0) + zeros cs xs

zeros_le : (cs : List Clause) (xs : List ℕ) → zeros cs xs ≤ length cs
unfolding zeros
zeros_le [] xs = omega arith
zeros_le (c ∷ cs) [] = omega arith
zeros_le (c ∷ cs) (x ∷ xs) = omega (arith, digit_not (eqb x 0), zeros_le cs xs)

-- one clause: a others, and z of those to come
recounted_right : (x y a z : ℕ) → suc (a + z) ≤ clause_limit →
    recounted x y (a + (digit (eqb x 0) + z)) ≡ (a + digit (eqb y 0)) + z
unfolding recounted
recounted_right zero zero a z h = omega arith
recounted_right zero (suc y) a z h = rw (eqb-suc-zero y) (min-eq_left (omega arith) ∙ omega arith)
recounted_right (suc x) zero a z h = rw (eqb-suc-zero x) (min-eq_left (omega arith) ∙ omega arith)
recounted_right (suc x) (suc y) a z h = rw (eqb-suc-zero x, eqb-suc-zero y) (omega arith)

-- Where it was right it stays right; a is what the clauses before came to.
recount_right : (g : Clause → ℕ → ℕ) (cs : List Clause) (xs : List ℕ) (a : ℕ) → a + length cs ≤ clause_limit →
    recount g cs xs (a + zeros cs xs) ≡ a + zeros cs (renumber g cs xs)
unfolding recount renumber zeros
recount_right g [] xs a h = refl
recount_right g (c ∷ cs) [] a h = refl
recount_right g (c ∷ cs) (x ∷ xs) a h =
    rw (recounted_right x (g c x) a (zeros cs xs) (omega (arith, zeros_le cs xs)))
    (recount_right g cs xs (a + digit (eqb (g c x) 0)) (omega (arith, digit_not (eqb (g c x) 0))) ∙ omega arith)

-- ---- a tally that begins

zeros_none : (cs : List Clause) (n : ℕ) → length cs ≤ n → zeros cs (replicate n 0) ≡ length cs
unfolding zeros
zeros_none [] n h = refl
zeros_none (c ∷ cs) zero h = absurd (omega arith)
zeros_none (c ∷ cs) (suc n) h = omega (arith, zeros_none cs n (omega arith))

renumber_none : (f : Clause → ℕ) (cs : List Clause) (n : ℕ) → length cs ≤ n →
    renumber (λ c x. f c) cs (replicate n 0) ≡ map f cs ++ replicate (n - length cs) 0
unfolding renumber
renumber_none f [] n h = let e : n ≡ n - 0 = omega arith in ap (λ (k : ℕ). replicate k 0) e
renumber_none f (c ∷ cs) zero h = absurd (omega arith)
renumber_none f (c ∷ cs) (suc n) h =
    let e : n - length cs ≡ suc n - suc (length cs) = omega arith in
    ap (λ (xs : List ℕ). f c ∷ xs) (renumber_none f cs n (omega arith) ∙ ap (λ (k : ℕ). map f cs ++ replicate k 0) e)

-- ---- numbers of met literals

-- a clause is false where its number is 0
unmet_zero : (m : ℕ) (c : Clause) → eqb (count (met m) c) 0 ≡ not (some_met m c)
unfolding some_met
unmet_zero m c = sym (ap not (some_count (met m) c) ∙ not-not (eqb (count (met m) c) 0))

zeros_met : (m : ℕ) (cs : List Clause) (rest : List ℕ) → zeros cs (map (count (met m)) cs ++ rest) ≡ unmet_of m cs
unfolding zeros unmet_of count keep
zeros_met m [] rest = refl
zeros_met m (c ∷ cs) rest =
    ap₂ (λ (b : Bool) (k : ℕ). digit b + k) (unmet_zero m c) (zeros_met m cs rest) ∙ sym (count_cons (λ d. not (some_met m d)) c cs)

-- Where the number of false clauses was right, and the numbers become those of met literals, it is the number of false clauses.
recount_met : (g : Clause → ℕ → ℕ) (cs : List Clause) (xs : List ℕ) (u m : ℕ) (rest : List ℕ) → length cs ≤ clause_limit →
    u ≡ zeros cs xs → renumber g cs xs ≡ map (count (met m)) cs ++ rest → recount g cs xs u ≡ unmet_of m cs
recount_met g cs xs u m rest room right made =
    ap (recount g cs xs) (right ∙ omega arith)
    ∙ recount_right g cs xs 0 (omega arith)
    ∙ omega (arith, ap (zeros cs) made, zeros_met m cs rest)

-- A tally counts from nothing: every number 0, and every clause false.
module _ (m : ℕ) (cs : List Clause) (room : length cs ≤ clause_limit) where
  abbrev counted : Clause → ℕ → ℕ
  counted c x = count (met m) c

  pub count_met : renumber counted cs (replicate clause_limit 0) ≡ met_of m cs
  unfolding met_of
  count_met = renumber_none (count (met m)) cs clause_limit room

  pub count_unmet : recount counted cs (replicate clause_limit 0) (length cs) ≡ unmet_of m cs
  unfolding met_of
  count_unmet = recount_met counted cs _ _ m _ room (sym (zeros_none cs clause_limit room)) count_met

-- ---- a toggle

module _ {n : ℕ} (v : ℕ) (h : 1 ≤ v) (m : ℕ) where
  renumber_met : (cs : List Clause) → ((c : Clause) → In c cs → WellFormedClause n c) → (rest : List ℕ) →
      renumber (moved (toggle m (v - 1)) v) cs (map (count (met m)) cs ++ rest) ≡ map (count (met (toggle m (v - 1)))) cs ++ rest
  unfolding renumber
  renumber_met [] each rest = refl
  renumber_met (c ∷ cs) each rest =
      ap₂ (λ (x : ℕ) (xs : List ℕ). x ∷ xs) (moved_met c (each c (Memᴰ.head refl)) m v h)
      (renumber_met cs (λ d i. each d (Memᴰ.tail i)) rest)

  -- A toggle keeps the tally of its assignment.
  pub toggled_tally : (cs : List Clause) → ((c : Clause) → In c cs → WellFormedClause n c) → length cs ≤ clause_limit →
      toggled v cs (tally_of cs m) ≡ tally_of cs (toggle m (v - 1))
  unfolding toggled tally_of met_of
  toggled_tally cs each room =
      let rest : List ℕ = replicate (clause_limit - length cs) 0 in
      let made = renumber_met cs each rest in
      ap₂ {C = Tally} (λ (xs : List ℕ) (u : ℕ). record { assignment = toggle m (v - 1); met = xs; unmet = u }) made
      (recount_met _ cs _ _ (toggle m (v - 1)) rest room (sym (zeros_met m cs rest)) made)

-- ---- one number among the others

-- numbers past the last clause are 0, like that of a clause without literals
pub padded_at : (m : ℕ) (cs : List Clause) (k i : ℕ) →
    get_or (map (count (met m)) cs ++ replicate k 0) i 0 ≡ count (met m) (get_or cs i [])
unfolding count keep
padded_at m [] zero i = refl
padded_at m [] (suc k) zero = refl
padded_at m [] (suc k) (suc i) = padded_at m [] k i
padded_at m (c ∷ cs) k zero = refl
padded_at m (c ∷ cs) k (suc i) = padded_at m cs k i

-- a number that its clause does not move stays
pub renumber_stays : (g : Clause → ℕ → ℕ) (cs : List Clause) (xs : List ℕ) (i : ℕ) → ((x : ℕ) → g (get_or cs i []) x ≡ x) →
    get_or (renumber g cs xs) i 0 ≡ get_or xs i 0
unfolding renumber
renumber_stays g [] xs i h = refl
renumber_stays g (c ∷ cs) [] i h = refl
renumber_stays g (c ∷ cs) (x ∷ xs) zero h = h x
renumber_stays g (c ∷ cs) (x ∷ xs) (suc i) h = renumber_stays g cs xs i h
