-- Any covering codes of the blocks give centres that cover: every assignment below 2^n is within R of one of them (lemmas 4 and 5
-- of source 000). Of a code only its covering promise is cited.
use Rattle.std.specs.Prelude.{◌≡◌, refl, Bool, true, false, cond, List, [], ◌∷◌, ◌++◌, ℕ, zero, suc, ◌+◌, ◌*◌, ◌/◌, ◌%◌, ◌^◌, ◌≤◌, ◌<◌, eqb, length, get_or, replicate}
use Rattle.std.proofs.Common.{sym, ap, ◌∙◌, ⊎_elim, le_refl, mod-lt, mod-eq_of_lt, mul-le-mul, mul-le-mul_right, mul_comm, div-add-mod', add_comm, add-zero, arith, pow_pos, pow-add, shr_lt, eqb-true}
use mathlib.Core.List.Memᴰ
use Rattle.std.proofs.Math.Nat.{div-eq_of_lt, mul-add-div_right, mul-add-mod_self_right}
use Rattle.std.proofs.Math.Pow.{split}
use Rattle.words.specs.Lists.{In}
use Rattle.words.specs.Bits.{distance}
use Rattle.words.proofs.BitLaws.{distance_self, distance_blocks}
use Rattle.code.specs.Covering.{Covers, Within}
use Rattle.search.specs.Run.{Plan, Block, Code, block_of, short_block, blocks, summed_radius, centre_count, product, centre_at}

-- n: the number of variables in the blocks
unfoldable pub summed_size : List Block → ℕ
summed_size [] = 0
summed_size (b ∷ bs) = b.size + summed_size bs

-- what may be cited of a block's code
pub record Covered (b : Block) : Type 0 where
  pub covers : Covers b.size b.radius b.code
  pub within : Within b.size b.code

-- ---- words by their place

pub get_or_within : (t : ℕ) (c : List ℕ) → Within t c → (j : ℕ) → get_or c j 0 < 2 ^ t
unfolding Within
get_or_within t [] h j = pow_pos t
get_or_within t (x ∷ c) h zero = h x (Memᴰ.head refl)
get_or_within t (x ∷ c) h (suc j) = get_or_within t c (λ w i. h w (Memᴰ.tail i)) j

place_in : (x : ℕ) (c : List ℕ) → In x c → (j : ℕ) × (j < length c) × (get_or c j 0 ≡ x)
place_in x [] i = absurd (Memᴰ.not-nil i)
place_in x (y ∷ c) i =
    ⊎_elim
    (λ e. (0, omega arith, sym e))
    (λ i'. let (j, l, e) = place_in x c i' in (suc j, omega arith, e))
    (Memᴰ.cases_cons i)

covers_at : (b : Block) → Covered b → (x : ℕ) → x < 2 ^ b.size →
    (j : ℕ) × (j < length b.code) × (distance (get_or b.code j 0) x ≤ b.radius)
unfolding Covers
covers_at b h x l =
    let (u, m, near) = h.covers x l in
    let (j, jl, e) = place_in u b.code m in
    (j, jl, rw e near)

-- A code that covers has a word.
pub words_some : (b : Block) → Covered b → 0 < length b.code
words_some b h = let l = (covers_at b h 0 (pow_pos b.size)).1 in omega arith

-- a number of two digits, the low one below k and the high one below h
pub digits_lt : (h k a r : ℕ) → a < h → r < k → a * k + r < k * h
digits_lt h k a r p q = let l = mul-le-mul_right {m = suc a} k p in omega (arith, l, mul_comm k h)

-- a low block of t bits before a number, against a number with such a block
pub distance_low : (t a u w : ℕ) → u < 2 ^ t → distance (a * 2 ^ t + u) w ≡ distance a (w / 2 ^ t) + distance u (w % 2 ^ t)
distance_low t a u w l = rw (split w t) at (distance_blocks t a (w / 2 ^ t) u (w % 2 ^ t) l (mod-lt w (pow_pos t)))

-- ---- the centres

-- Every centre is an assignment of the blocks' variables.
pub centre_lt : (bs : List Block) → ((b : Block) → In b bs → Covered b) → (i : ℕ) → centre_at bs i < 2 ^ summed_size bs
unfolding centre_at summed_size
centre_lt [] each i = omega arith
centre_lt (b ∷ bs) each i =
    let rest = centre_lt bs (λ b' m. each b' (Memᴰ.tail m)) _ in
    let own = get_or_within b.size b.code (each b (Memᴰ.head refl)).within _ in
    rw (pow-add 2 b.size (summed_size bs)) (digits_lt _ (2 ^ b.size) _ _ rest own)

-- Every assignment of the blocks' variables is within R of a centre.
pub centre_near : (bs : List Block) → ((b : Block) → In b bs → Covered b) → (w : ℕ) → w < 2 ^ summed_size bs →
    (i : ℕ) × (i < centre_count bs) × (distance (centre_at bs i) w ≤ summed_radius bs)
unfolding centre_at summed_size centre_count summed_radius
centre_near [] each w l =
    let e : w ≡ 0 = omega arith in
    (0, omega arith, rw (e, distance_self) (le_refl 0))
centre_near (b ∷ bs) each w l =
    let t : ℕ = b.size in
    let k : ℕ = length b.code in
    let own : Covered b = each b (Memᴰ.head refl) in
    let (j, jl, near) = covers_at b own (w % 2 ^ t) (mod-lt w (pow_pos t)) in
    let above : w / 2 ^ t < 2 ^ summed_size bs = shr_lt (summed_size bs) t (rw (add_comm t (summed_size bs)) at l) in
    let (i, il, far) = centre_near bs (λ b' m. each b' (Memᴰ.tail m)) (w / 2 ^ t) above in
    let high : (i * k + j) / k ≡ i = mul-add-div_right (omega arith) i j ∙ ap (λ (x : ℕ). i + x) (div-eq_of_lt jl) ∙ add-zero i in
    let low : (i * k + j) % k ≡ j = mul-add-mod_self_right i k j ∙ mod-eq_of_lt jl in
    let sum = distance_low t (centre_at bs i) (get_or b.code j 0) w (get_or_within t b.code own.within j) in
    (i * k + j, digits_lt (centre_count bs) k i j il jl, rw (high, low) (omega arith))

-- ---- the blocks of a plan

-- what may be cited of a way to make codes
pub record Covering (code : Code) : Type 0 where
  pub covers : (t s : ℕ) → Covers t s (code t s)
  pub within : (t s : ℕ) → Within t (code t s)

size_whole : (k : ℕ) (b : Block) (bs : List Block) → summed_size (replicate k b ++ bs) ≡ k * b.size + summed_size bs
unfolding summed_size
size_whole zero b bs = omega arith
size_whole (suc k) b bs = let h = size_whole k b bs in omega arith

size_last : (code : Code) (t s : ℕ) → summed_size (cond (eqb t 0) [] (short_block code t s ∷ [])) ≡ t
unfolding short_block block_of summed_size
size_last code t s = go (eqb t 0) refl
  where
    go : (z : Bool) → eqb t 0 ≡ z → summed_size (cond z [] (short_block code t s ∷ [])) ≡ t
    go true e = sym (eqb-true t 0 e)
    go false e = add-zero t

-- The blocks hold n variables.
pub blocks_size : (code : Code) (p : Plan) (n : ℕ) → summed_size (blocks code p n) ≡ n
unfolding blocks block_of
blocks_size code p n =
    size_whole (n / p.size) (block_of code p.size p.radius) _
    ∙ ap (λ (x : ℕ). n / p.size * p.size + x) (size_last code (n % p.size) p.radius)
    ∙ div-add-mod' n p.size

-- What holds of a whole block, and of a last one of each length, holds of every block.
blocks_each : (P : Block → Type 0) (code : Code) (p : Plan) (n : ℕ) → P (block_of code p.size p.radius) →
    ((t : ℕ) → P (short_block code t p.radius)) → (b : Block) → In b (blocks code p n) → P b
unfolding blocks
blocks_each P code p n whole last b i =
    ⊎_elim
    (full (n / p.size))
    (end (eqb (n % p.size) 0))
    (Memᴰ.append_cases (replicate (n / p.size) (block_of code p.size p.radius)) i)
  where
    full : (k : ℕ) → In b (replicate k (block_of code p.size p.radius)) → P b
    full zero j = absurd (Memᴰ.not-nil j)
    full (suc k) j = ⊎_elim (λ e. rw e whole) (λ j'. full k j') (Memᴰ.cases_cons j)

    end : (z : Bool) → In b (cond z [] (short_block code (n % p.size) p.radius ∷ [])) → P b
    end true j = absurd (Memᴰ.not-nil j)
    end false j = rw (Memᴰ.eq_of_singleton j) (last (n % p.size))

-- With codes that cover, every block is covered.
pub blocks_covered : (code : Code) → Covering code → (p : Plan) (n : ℕ) (b : Block) → In b (blocks code p n) → Covered b
unfolding block_of short_block
blocks_covered code h p n =
    blocks_each Covered code p n
    (record { covers = h.covers _ _; within = h.within _ _ })
    (λ t. record { covers = h.covers _ _; within = h.within _ _ })

-- ---- M without the codes

centres_most : (most : ℕ → ℕ → ℕ) (bs : List Block) → ((b : Block) → In b bs → length b.code ≤ most b.size b.radius) →
    centre_count bs ≤ product most bs
unfolding centre_count product
centres_most most [] each = le_refl 1
centres_most most (b ∷ bs) each =
    mul-le-mul (each b (Memᴰ.head refl)) (centres_most most bs (λ b' m. each b' (Memᴰ.tail m)))

-- What is read of the blocks' lengths and radii alone is the same for all codes.
blocks_same : (F : List Block → ℕ) (step : ℕ → ℕ → ℕ → ℕ) →
    ((b : Block) (bs : List Block) → F (b ∷ bs) ≡ step b.size b.radius (F bs)) →
    (c d : Code) (p : Plan) (n : ℕ) → F (blocks c p n) ≡ F (blocks d p n)
unfolding blocks block_of short_block
blocks_same F step h c d p n = whole (n / p.size) (last (eqb (n % p.size) 0))
  where
    last : (z : Bool) →
        F (cond z [] (short_block c (n % p.size) p.radius ∷ [])) ≡ F (cond z [] (short_block d (n % p.size) p.radius ∷ []))
    last true = refl
    last false = h _ _ ∙ sym (h _ _)

    whole : (k : ℕ) {xs ys : List Block} → F xs ≡ F ys →
        F (replicate k (block_of c p.size p.radius) ++ xs) ≡ F (replicate k (block_of d p.size p.radius) ++ ys)
    whole zero e = e
    whole (suc k) e = h _ _ ∙ ap (step _ _) (whole k e) ∙ sym (h _ _)

pub radius_same : (c d : Code) (p : Plan) (n : ℕ) → summed_radius (blocks c p n) ≡ summed_radius (blocks d p n)
unfolding summed_radius
radius_same = blocks_same summed_radius (λ t s r. s + r) (λ b bs. refl)

-- What each code has at most of words, the product over the blocks is of centres; it reads no code, so that any will do there.
pub blocks_most : (code : Code) (most : ℕ → ℕ → ℕ) → ((t s : ℕ) → length (code t s) ≤ most t s) → (any : Code) (p : Plan) (n : ℕ) →
    centre_count (blocks code p n) ≤ product most (blocks any p n)
unfolding block_of short_block product
blocks_most code most h any p n =
    rw (blocks_same (product most) (λ t s r. most t s * r) (λ b bs. refl) any code p n)
    (centres_most most (blocks code p n)
    (blocks_each (λ b. length b.code ≤ most b.size b.radius) code p n (h _ _) (λ t. h _ _)))
