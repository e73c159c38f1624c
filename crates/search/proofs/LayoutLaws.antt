-- The blocks of a layout: R and M are sums and products of their numbers.
use Rattle.std.specs.Prelude.{◌≡◌, refl, Bool, true, false, Option, None, Some, List, [], ◌++◌, ℕ, zero, suc, ◌+◌, ◌-◌, ◌*◌, ◌^◌, ◌≤◌, ◌<◌, min, leb, length, replicate}
use Rattle.std.proofs.Math.Path.{sym}
use Rattle.std.proofs.Common.{ap, ◌∙◌, mul_assoc, mul_comm, suc-mul, mul-pos, zero-mul, zero-add, add-zero, one-mul, mul-zero, pow-suc, le-mul_of_pos_right, add-one, arith, length-take-le}
use Rattle.std.proofs.Math.Nat.{mul-one, pow-zero}
use borrow.Author.Tests.{leb-true, leb-false}
use Rattle.search.specs.declared.block_code.BlockCode.{BlockCode}
use Rattle.search.specs.declared.layout.Layout.{Layout}
use Rattle.search.specs.Run.{Block, centre_count, summed_radius}
use Rattle.search.specs.Blocks.{block_radius, block_words, reach_in, centres_in, block_in, copies, blocks_in, Coded, Laid}
use Rattle.search.specs.Machine.{most_centres}

-- ---- so many blocks of a code

pub no_copies : (o : Option BlockCode) (cells : List ℕ) → copies 0 o cells ≡ []
unfolding copies
no_copies None cells = refl
no_copies (Some b) cells = refl

words_counted : (b : BlockCode) (cells : List ℕ) → Coded b cells → length (block_in b cells).code ≡ b.count
unfolding block_in
words_counted b cells coded = length-take-le b.count cells coded.held

one_power : (k : ℕ) → 1 ^ k ≡ 1
one_power zero = rw pow-zero
one_power (suc k) = rw (pow-suc 1 k, one_power k) refl

power_some : (b k : ℕ) → 0 < b → 0 < b ^ k
power_some b zero h = rw pow-zero (omega arith)
power_some b (suc k) h = rw (pow-suc b k) (mul-pos (power_some b k h) h)

-- what k blocks add to R,
pub blocks_radius : (k : ℕ) (b : Block) (bs : List Block) → summed_radius (replicate k b ++ bs) ≡ k * b.radius + summed_radius bs
unfolding summed_radius
blocks_radius zero b bs = rw (zero-mul b.radius) (sym (zero-add _))
blocks_radius (suc k) b bs = omega (arith, blocks_radius k b bs, suc-mul k b.radius)

copies_radius : (k : ℕ) (o : Option BlockCode) (cells : List ℕ) (bs : List Block) →
    summed_radius (copies k o cells ++ bs) ≡ k * block_radius o + summed_radius bs
unfolding copies block_in block_radius
copies_radius k None cells bs = rw (mul-zero k) (sym (zero-add _))
copies_radius k (Some b) cells bs = blocks_radius k (block_in b cells) bs

-- and by what they multiply M
pub blocks_count : (k : ℕ) (b : Block) (bs : List Block) → centre_count (replicate k b ++ bs) ≡ length b.code ^ k * centre_count bs
unfolding centre_count
blocks_count zero b bs = rw pow-zero (sym (one-mul (centre_count bs)))
blocks_count (suc k) b bs =
    rw (blocks_count k b bs, pow-suc)
    (sym (mul_assoc (length b.code) _ _) ∙ ap (λ (x : ℕ). x * centre_count bs) (mul_comm (length b.code) _))

copies_count : (k : ℕ) (o : Option BlockCode) (cells : List ℕ) → ((b : BlockCode) → o ≡ Some b → Coded b cells) → (bs : List Block) →
    centre_count (copies k o cells ++ bs) ≡ block_words o ^ k * centre_count bs
unfolding copies block_words
copies_count k None cells coded bs = rw (one_power k) (sym (one-mul (centre_count bs)))
copies_count k (Some b) cells coded bs =
    blocks_count k (block_in b cells) bs ∙ rw (words_counted b cells (coded b refl)) refl

-- and one block alone
one_radius : (o : Option BlockCode) (cells : List ℕ) → summed_radius (copies 1 o cells) ≡ block_radius o
unfolding copies block_in block_radius summed_radius
one_radius None cells = refl
one_radius (Some b) cells = add-zero b.radius

one_count : (o : Option BlockCode) (cells : List ℕ) → ((b : BlockCode) → o ≡ Some b → Coded b cells) →
    centre_count (copies 1 o cells) ≡ block_words o
unfolding copies block_words centre_count
one_count None cells coded = refl
one_count (Some b) cells coded = mul-one _ ∙ words_counted b cells (coded b refl)

words_positive : (o : Option BlockCode) (cells : List ℕ) → ((b : BlockCode) → o ≡ Some b → Coded b cells) → 0 < block_words o
unfolding block_words
words_positive None cells coded = omega arith
words_positive (Some b) cells coded = (coded b refl).some

-- ---- R and M

pub reach_is : (l : Layout) (whole last : List ℕ) → reach_in l ≡ summed_radius (blocks_in l whole last)
unfolding reach_in blocks_in
reach_is l whole last =
    sym (copies_radius l.blocks l.whole whole _ ∙ ap (λ (x : ℕ). l.blocks * block_radius l.whole + x) (one_radius l.last last))

-- M is the product of the numbers of the codes' words.
pub extent_is : (l : Layout) (whole last : List ℕ) → Laid l whole last → centre_count (blocks_in l whole last) ≡ centres_in l
unfolding blocks_in centres_in
extent_is l whole last laid =
    copies_count l.blocks l.whole whole laid.wholes _
    ∙ ap (λ (x : ℕ). block_words l.whole ^ l.blocks * x) (one_count l.last last laid.lasts)

-- there is a centre
pub laid_some : (l : Layout) (whole last : List ℕ) → Laid l whole last → 0 < centre_count (blocks_in l whole last)
unfolding centres_in
laid_some l whole last laid =
    let wholes = power_some (block_words l.whole) l.blocks (words_positive l.whole whole laid.wholes) in
    rw (extent_is l whole last laid) (mul-pos wholes (words_positive l.last last laid.lasts))

-- ---- a product that is cut

-- one factor more, where all is cut at L
pub min_product : (L x b : ℕ) → min (min x L * b) L ≡ min (x * b) L
min_product L x b = go b (leb x L) refl
  where
    go : (b : ℕ) (t : Bool) → leb x L ≡ t → min (min x L * b) L ≡ min (x * b) L
    go b true h = let l = leb-true x L h in let e : min x L ≡ x = omega arith in rw e
    go zero false h = rw (mul-zero, mul-zero)
    go (suc b) false h =
        let l = leb-false x L h in
        let e : min x L ≡ L = omega arith in
        let low : L ≤ L * suc b = le-mul_of_pos_right L (omega arith) in
        let high : x ≤ x * suc b = le-mul_of_pos_right x (omega arith) in
        rw e (omega arith)

-- the same by a product that saturates
pub product_cut : (x b made s r : ℕ) → made ≡ min x most_centres → s ≡ min (made * b) (2 ^ 64 - 1) → r ≡ min s most_centres →
    r ≡ min (x * b) most_centres
product_cut x b made s r g h k =
    let cut : min (made * b) most_centres ≡ min (x * b) most_centres = rw g (min_product most_centres x b) in
    omega arith

-- The product of the words of j whole blocks, cut at the most: of one more,
module _ (l : Layout) where
  pub centres_more : (b : BlockCode) → l.whole ≡ Some b → (j made s r : ℕ) → made ≡ min (block_words l.whole ^ j) most_centres →
      s ≡ min (made * b.count) (2 ^ 64 - 1) → r ≡ min s most_centres → r ≡ min (block_words l.whole ^ (j + 1)) most_centres
  unfolding block_words
  centres_more b e j made s r g h k =
      rw e (product_cut (b.count ^ j) b.count made s r (rw e at g) h k ∙ rw (add-one, pow-suc b.count j))

  -- of all, or where there is none,
  pub centres_all : (j made : ℕ) → j ≤ l.blocks → l.blocks ≤ j → made ≡ min (block_words l.whole ^ j) most_centres →
      made ≡ min (block_words l.whole ^ l.blocks) most_centres
  centres_all j made low high g = let same : j ≡ l.blocks = omega arith in rw same at g

  pub centres_without : l.whole ≡ None → 1 ≡ min (block_words l.whole ^ l.blocks) most_centres
  unfolding block_words
  centres_without e = rw (e, one_power l.blocks) refl

  -- and with the last block, if there is one.
  pub centres_none : l.last ≡ None → (made : ℕ) → made ≡ min (block_words l.whole ^ l.blocks) most_centres →
      made ≡ min (centres_in l) most_centres
  unfolding centres_in block_words
  centres_none e made g = rw (e, mul-one) g

  pub centres_one : (b : BlockCode) → l.last ≡ Some b → (made s r : ℕ) → made ≡ min (block_words l.whole ^ l.blocks) most_centres →
      s ≡ min (made * b.count) (2 ^ 64 - 1) → r ≡ min s most_centres → r ≡ min (centres_in l) most_centres
  unfolding centres_in block_words
  centres_one b e made s r g h k = rw e (product_cut _ b.count made s r g h k)
