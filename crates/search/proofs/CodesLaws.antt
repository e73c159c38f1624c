-- A centre is put together block by block, and the codes that are made for a plan are its own.
use Rattle.std.specs.Option.{is_some}
use Rattle.std.specs.Prelude.{◌≡◌, refl, Bool, true, false, cond, eqb, Option, None, Some, List, [], ◌∷◌, ◌++◌, ℕ, zero, suc, ◌+◌, ◌-◌, ◌*◌, ◌/◌, ◌%◌, ◌^◌, ◌≤◌, ◌<◌, min, length, get_or, take, drop, replicate}
use Rattle.std.proofs.Math.Path.{sym}
use Rattle.std.proofs.Common.{ap, ap₂, ◌∙◌, subst, true≢false, div-add-mod', add-mul, mul_assoc, add_assoc, mod-lt, mul_comm, add_comm, suc-mul, mul-le-mul_right, zero-mul, zero-add, div-one, add-zero, one-mul, mul-zero, add-one, arith, length-append, get_or-take, length-take-le, div-lt_iff_lt-mul, le-div_iff_mul-le, pow-add}
use Rattle.std.proofs.Math.Nat.{div-div-eq-div-mul, sub-zero, mul-one, mul-le-mul_left, pow-zero}
use borrow.Author.Tests.{eq-eqb, ne_eqb, eqb-true}
use Rattle.std.proofs.Math.Seq.{take-append_seam}
use Rattle.words.specs.Bits.{width}
use Rattle.words.specs.Machine.{bits_of}
use Rattle.search.specs.declared.block_code.BlockCode.{BlockCode}
use Rattle.search.specs.declared.codes.Codes.{Codes}
use Rattle.search.specs.declared.partial.Partial.{Partial}
use Rattle.search.specs.declared.layout.Layout.{Layout}
use Rattle.search.specs.Run.{Plan, Block, centre_at, centre_count, block_of, short_block, blocks, summed_radius}
use Rattle.search.specs.Blocks.{block_size, block_radius, variables_in, reach_in, block_in, copies, blocks_in, Coded, Laid, Holds, HoldsPlan}
use Rattle.code.specs.Code.{code}
use Rattle.code.proofs.CodeLaws.{code_covers, code_within}
use Rattle.code.specs.Operations.{written}
use Rattle.code.specs.Machine.{Filled}
use Rattle.search.proofs.CentreLaws.{Covered, words_some, get_or_within}
use Rattle.search.proofs.LayoutLaws.{no_copies, blocks_radius, blocks_count, laid_some}
use Rattle.search.specs.Machine.{blocks_of, Joined, Towards, Midway}

-- ---- a centre

-- One block more: its word goes above the bits so far, and the rest of the number goes to the blocks after it.
centre_step : (b : Block) (bs : List Block) (i shift m count w : ℕ) → length b.code ≡ count →
    get_or b.code (i % count) 0 ≡ w →
    centre_at (b ∷ bs) i * 2 ^ shift + m ≡ centre_at bs (i / count) * 2 ^ (shift + b.size) + (w * 2 ^ shift + m)
unfolding centre_at
centre_step b bs i shift m count w e f =
    let X : ℕ = centre_at bs (i / count) in
    let powers : 2 ^ b.size * 2 ^ shift ≡ 2 ^ (shift + b.size) =
    sym (pow-add 2 b.size shift) ∙ ap (λ (y : ℕ). 2 ^ y) (add_comm b.size shift) in
    let above : X * 2 ^ b.size * 2 ^ shift ≡ X * 2 ^ (shift + b.size) =
    mul_assoc X (2 ^ b.size) (2 ^ shift) ∙ ap (λ (y : ℕ). X * y) powers in
    rw (e, f) (ap (λ (y : ℕ). y + m) (add-mul (X * 2 ^ b.size) w (2 ^ shift))
    ∙ add_assoc (X * 2 ^ b.size * 2 ^ shift) (w * 2 ^ shift) m
    ∙ ap (λ (y : ℕ). y + (w * 2 ^ shift + m)) above)

-- what is left of i after all blocks
count_step : (b : Block) (bs : List Block) (i count : ℕ) → length b.code ≡ count →
    i / centre_count (b ∷ bs) ≡ i / count / centre_count bs
unfolding centre_count
count_step b bs i count e = rw e (sym (div-div-eq-div-mul i count (centre_count bs)))

-- a word of `size` bits above m
pub join_lt : (size shift w m : ℕ) → w < 2 ^ size → m < 2 ^ shift → w * 2 ^ shift + m < 2 ^ (shift + size)
join_lt size shift w m p q =
    let all : suc w * 2 ^ shift ≤ 2 ^ size * 2 ^ shift = mul-le-mul_right (2 ^ shift) p in
    omega (arith, suc-mul w (2 ^ shift), pow-add 2 shift size, mul_comm (2 ^ shift) (2 ^ size))

pub towards_step : (all bs : List Block) (i : ℕ) (b : BlockCode) (cells : List ℕ) (p q : Partial) → Coded b cells → Joined b cells p q →
    Towards all i (block_in b cells ∷ bs) p → Towards all i bs q
unfolding block_in
towards_step all bs i b cells p q coded joined so =
    let len : length (take b.count cells) ≡ b.count = length-take-le b.count cells coded.held in
    let word : get_or (take b.count cells) (p.left % b.count) 0 ≡ get_or cells (p.left % b.count) 0 =
    get_or-take b.count cells (p.left % b.count) 0 (mod-lt p.left coded.some) in
    let step = centre_step (block_in b cells) bs p.left p.shift (bits_of p.assignment) b.count _ len word in
    record {
      total = rw (joined.left, joined.shift, joined.reads) (sym step ∙ so.total);
      left = rw joined.left (sym (count_step (block_in b cells) bs p.left b.count len) ∙ so.left);
      below = joined.below;
    }

towards_end : (all : List Block) (i : ℕ) (p : Partial) → Towards all i [] p →
    (bits_of p.assignment ≡ centre_at all i) × (p.left ≡ i / centre_count all)
unfolding centre_at centre_count
towards_end all i p so =
    let m : ℕ = bits_of p.assignment in
    let whole : 0 * 2 ^ p.shift + m ≡ m = ap (λ (x : ℕ). x + m) (zero-mul (2 ^ p.shift)) ∙ zero-add m in
    (sym whole ∙ so.total, sym (div-one p.left) ∙ so.left)

-- A centre of k blocks before others is below 2 ^ the number of all their variables.
copies_lt : (k : ℕ) (o : Option BlockCode) (cells : List ℕ) → ((b : BlockCode) → o ≡ Some b → Coded b cells) → (bs : List Block) (m : ℕ) →
    ((i : ℕ) → centre_at bs i < 2 ^ m) → (i : ℕ) → centre_at (copies k o cells ++ bs) i < 2 ^ (k * block_size o + m)
unfolding copies block_in block_size centre_at
copies_lt k None cells coded bs m low i = rw (mul-zero k, zero-add m) (low i)
copies_lt k (Some b) cells coded bs m low i = go k i
  where
    word : (j : ℕ) → get_or (take b.count cells) (j % length (take b.count cells)) 0 < 2 ^ b.size
    word j =
        let own = coded b refl in
        let inside : j % b.count < b.count = mod-lt j own.some in
        rw (length-take-le b.count cells own.held, get_or-take b.count cells (j % b.count) 0 inside) (own.below (j % b.count) inside)

    go : (k i : ℕ) → centre_at (replicate k (block_in b cells) ++ bs) i < 2 ^ (k * b.size + m)
    go zero i = rw (zero-mul b.size, zero-add m) (low i)
    go (suc k) i =
        let all : suc k * b.size + m ≡ b.size + (k * b.size + m) = omega (arith, suc-mul k b.size) in
        rw all (join_lt (k * b.size + m) b.size _ _ (go k _) (word i))

pub laid_lt : (l : Layout) (whole last : List ℕ) → Laid l whole last → (i : ℕ) → centre_at (blocks_in l whole last) i < 2 ^ variables_in l
unfolding blocks_in variables_in copies centre_at block_size
laid_lt l whole last laid i = copies_lt l.blocks l.whole whole laid.wholes (copies 1 l.last last) (block_size l.last) (one l.last laid.lasts) i
  where
    one : (o : Option BlockCode) → ((b : BlockCode) → o ≡ Some b → Coded b last) → (i : ℕ) → centre_at (copies 1 o last) i < 2 ^ block_size o
    one None coded i = rw pow-zero (omega arith)
    one (Some b) coded i =
        let size : 1 * b.size + 0 ≡ b.size = omega arith in
        rw size at (copies_lt 1 (Some b) last coded [] 0 (λ j. rw pow-zero (omega arith)) i)

-- ---- a centre of all blocks

module _ (c : Codes) where
  -- the blocks that come after the whole ones
  abbrev lasts : List Block
  lasts = copies 1 c.layout.last c.last_words

  module _ (i : ℕ) where
    pub midway_start : (p : Partial) → bits_of p.assignment ≡ 0 → p.shift ≡ 0 → p.left ≡ i → Midway c i 0 p
    unfolding blocks_in
    midway_start p e f g =
        record {
          within = omega arith;
          shift = f ∙ sym (zero-mul (block_size c.layout.whole));
          towards = record { total = rw (e, f, g, sub-zero, mul-one, add-zero); left = rw (g, sub-zero); below = rw (e, f) (omega arith) };
        }

    module _ (j : ℕ) (b : BlockCode) (h : j < c.layout.blocks) (e : c.layout.whole ≡ Some b) where
      -- there is room for one more block
      pub midway_room : (p : Partial) → Midway c i j p → p.shift + b.size ≤ width
      unfolding variables_in block_size
      midway_room p m =
          let fits = rw e at c.laid.fits in
          let shift = rw e at m.shift in
          let all : suc j * b.size ≤ c.layout.blocks * b.size = mul-le-mul_right b.size h in
          omega (arith, suc-mul j b.size, fits, shift)

      pub midway_step : (p q : Partial) → Joined b c.whole_words p q → Midway c i j p → Midway c i (j + 1) q
      unfolding copies block_size
      midway_step p q joined m =
          let k : c.layout.blocks - j ≡ suc (c.layout.blocks - (j + 1)) = omega arith in
          let here = subst (λ (k : ℕ). Towards (blocks_of c) i (copies k c.layout.whole c.whole_words ++ lasts) p) k m.towards in
          let ahead = subst (λ (o : Option BlockCode). Towards (blocks_of c) i (copies (suc (c.layout.blocks - (j + 1))) o c.whole_words ++ lasts) p) e here in
          let after = towards_step (blocks_of c) _ i b c.whole_words p q (c.laid.wholes b e) joined ahead in
          record {
            within = omega arith;
            shift = joined.shift ∙ rw (m.shift, e, add-one) (sym (suc-mul j b.size));
            towards = subst (λ (o : Option BlockCode). Towards (blocks_of c) i (copies (c.layout.blocks - (j + 1)) o c.whole_words ++ lasts) q) (sym e) after;
          }

    -- all whole blocks are done, or there is none
    pub midway_all : (j : ℕ) (p : Partial) → j ≤ c.layout.blocks → c.layout.blocks ≤ j → Midway c i j p → Midway c i c.layout.blocks p
    midway_all j p low high m = let same : j ≡ c.layout.blocks = omega arith in subst (λ (x : ℕ). Midway c i x p) same m

    pub midway_without : c.layout.whole ≡ None → (p : Partial) → Midway c i 0 p → Midway c i c.layout.blocks p
    unfolding copies block_size
    midway_without e p m =
        record {
          within = omega arith;
          shift = m.shift ∙ rw e (sym (mul-zero c.layout.blocks));
          towards = subst (λ (o : Option BlockCode). Towards (blocks_of c) i (copies (c.layout.blocks - c.layout.blocks) o c.whole_words ++ lasts) p) (sym e)
              (subst (λ (o : Option BlockCode). Towards (blocks_of c) i (copies (c.layout.blocks - 0) o c.whole_words ++ lasts) p) e m.towards);
        }

    -- After all whole blocks the last one is still to come,
    module _ (p : Partial) (m : Midway c i c.layout.blocks p) where
      ahead : Towards (blocks_of c) i lasts p
      ahead =
          let none : c.layout.blocks - c.layout.blocks ≡ 0 = omega arith in
          let here = subst (λ (k : ℕ). Towards (blocks_of c) i (copies k c.layout.whole c.whole_words ++ lasts) p) none m.towards in
          subst (λ (bs : List Block). Towards (blocks_of c) i (bs ++ lasts) p) (no_copies c.layout.whole c.whole_words) here

      -- if there is one.
      pub midway_none : c.layout.last ≡ None → Towards (blocks_of c) i [] p × (p.shift ≡ c.n)
      unfolding copies block_size variables_in
      midway_none e = (
        subst (λ (o : Option BlockCode). Towards (blocks_of c) i (copies 1 o c.last_words) p) e ahead,
        m.shift ∙ sym (add-zero _) ∙ sym (rw e at c.variables),
      )

      module _ (b : BlockCode) (e : c.layout.last ≡ Some b) where
        pub midway_rest : p.shift + b.size ≤ width
        unfolding block_size variables_in
        midway_rest = rw m.shift (rw e at c.laid.fits)

        pub midway_one : (q : Partial) → Joined b c.last_words p q → Towards (blocks_of c) i [] q × (q.shift ≡ c.n)
        unfolding copies block_size variables_in
        midway_one q joined =
            let here = subst (λ (o : Option BlockCode). Towards (blocks_of c) i (copies 1 o c.last_words) p) e ahead in (
              towards_step (blocks_of c) [] i b c.last_words p q (c.laid.lasts b e) joined here,
              joined.shift ∙ rw m.shift (sym (rw e at c.variables)),
            )

    -- What is left of i then says whether there is a centre i.
    module _ (p : Partial) (done : Towards (blocks_of c) i [] p) where
      some : 0 < centre_count (blocks_of c)
      some = laid_some c.layout c.whole_words c.last_words c.laid

      pub centre_found : p.left ≡ 0 →
          (i < centre_count (blocks_of c)) × (bits_of p.assignment ≡ centre_at (blocks_of c) i) × (bits_of p.assignment < 2 ^ c.n)
      centre_found z =
          let (reads, left) = towards_end (blocks_of c) i p done in
          let bound = (div-lt_iff_lt-mul {k = centre_count (blocks_of c)} {x = i} {y = 1} some).0 (omega arith) in (
            omega (arith, one-mul (centre_count (blocks_of c))),
            reads,
            rw (reads, c.variables) (laid_lt c.layout c.whole_words c.last_words c.laid i),
          )

      pub centre_past : (p.left ≡ 0 → ⊥) → centre_count (blocks_of c) ≤ i
      centre_past z =
          let (_, left) = towards_end (blocks_of c) i p done in
          let bound = (le-div_iff_mul-le {k = centre_count (blocks_of c)} {x = 1} {y = i} some).0 (omega arith) in
          omega (arith, one-mul (centre_count (blocks_of c)))

-- ---- the codes of a plan

covered : (t s : ℕ) → Covered (block_of code t s)
unfolding block_of
covered t s = record { covers = code_covers t s; within = code_within t s }

-- what the construction of a code leaves
pub filled_words : (t s r : ℕ) (before after : List ℕ) → Filled t s r before after →
    (r ≡ length (code t s)) × (take r after ≡ code t s)
unfolding written
filled_words t s r before after f =
    (f.count, rw (f.cells, f.count) (take-append_seam (code t s) (drop (length (code t s)) before)))

module _ (b : BlockCode) (before after : List ℕ) (f : Filled b.size b.radius b.count before after) where
  pub filled_listed : take b.count after ≡ code b.size b.radius
  filled_listed = (filled_words b.size b.radius b.count before after f).1

  pub filled_coded : 0 < b.size → Coded b after
  unfolding written block_of
  filled_coded some =
      record {
        size = some;
        some = rw f.count (words_some (block_of code b.size b.radius) (covered b.size b.radius));
        held = rw (f.cells, f.count, length-append) (omega arith);
        below = λ k h.
            let same = ap (λ (xs : List ℕ). get_or xs k 0) (sym filled_listed) ∙ get_or-take b.count after k 0 h in
            subst (λ (x : ℕ). x < 2 ^ b.size) same (get_or_within b.size (code b.size b.radius) (code_within b.size b.radius) k);
      }

pub holds_none : (t s : ℕ) (cells : List ℕ) {count : ℕ} → count ≡ 0 → Holds count t s None cells
holds_none t s cells e = record { none = λ _. e; some = λ b no. absurd (true≢false (sym (ap is_some no))) }

holds_size : (count t s : ℕ) (o : Option BlockCode) (cells : List ℕ) → Holds count t s o cells → count * block_size o ≡ count * t
unfolding block_size
holds_size count t s None cells h = rw (h.none refl, zero-mul, zero-mul)
holds_size count t s (Some b) cells h = rw (h.some b refl).0

holds_radius : (count t s : ℕ) (o : Option BlockCode) (cells : List ℕ) → Holds count t s o cells → count * block_radius o ≡ count * s
unfolding block_radius
holds_radius count t s None cells h = rw (h.none refl, zero-mul, zero-mul)
holds_radius count t s (Some b) cells h = rw (h.some b refl).1

holds_copies : (count t s : ℕ) (o : Option BlockCode) (cells : List ℕ) → Holds count t s o cells →
    copies count o cells ≡ replicate count (block_of code t s)
unfolding copies block_in block_of
holds_copies count t s None cells h = rw (h.none refl)
holds_copies count t s (Some b) cells h = let own = h.some b refl in rw (own.0, own.1, own.2)

holds_coded : (count t s : ℕ) (o : Option BlockCode) (cells : List ℕ) → Holds count t s o cells → (b : BlockCode) → o ≡ Some b → Coded b cells
holds_coded count t s o cells h b e = (h.some b e).3

-- a last block of t variables
last_size : (t s : ℕ) (o : Option BlockCode) (cells : List ℕ) → Holds t t s o cells → block_size o ≡ t
unfolding block_size
last_size t s None cells h = sym (h.none refl)
last_size t s (Some b) cells h = (h.some b refl).0

last_radius : (t s : ℕ) (o : Option BlockCode) (cells : List ℕ) → Holds t t s o cells → block_radius o ≤ s
unfolding block_radius
last_radius t s None cells h = omega arith
last_radius t s (Some b) cells h = omega (arith, (h.some b refl).1)

last_copies : (t s : ℕ) (o : Option BlockCode) (cells : List ℕ) → Holds t t s o cells →
    copies 1 o cells ≡ cond (eqb t 0) [] (block_of code t s ∷ [])
unfolding copies block_in block_of
last_copies t s None cells h = rw (eq-eqb t 0 (h.none refl))
last_copies t s (Some b) cells h =
    let own = h.some b refl in
    let some : t ≡ 0 → ⊥ = λ z. omega (arith, own.0, own.3.size) in
    rw (ne_eqb t 0 some, own.0, own.1, own.2)

-- The layout that a plan gives fits, and stands for the plan's blocks.
module _ (p : Plan) (n : ℕ) (l : Layout) (whole last : List ℕ) (e : l.blocks ≡ n / p.size)
    (w : Holds (n / p.size) p.size p.radius l.whole whole) (r : Holds (n % p.size) (n % p.size) (min p.radius (n % p.size)) l.last last) where
  pub plan_variables : n ≡ variables_in l
  unfolding variables_in
  plan_variables =
      rw e (omega (arith, holds_size _ _ _ l.whole whole w, last_size _ _ l.last last r, div-add-mod' n p.size))

  pub plan_reach : p.radius ≤ p.size → n ≤ width → reach_in l ≤ width
  unfolding reach_in
  plan_reach within small =
      let inside : n / p.size * p.radius ≤ n / p.size * p.size = mul-le-mul_left (n / p.size) within in
      rw e (omega (arith, holds_radius _ _ _ l.whole whole w, last_radius _ _ l.last last r, div-add-mod' n p.size))

  pub plan_laid : n ≤ width → Laid l whole last
  plan_laid small =
      record {
        fits = rw (← plan_variables) small;
        wholes = holds_coded _ _ _ l.whole whole w;
        lasts = holds_coded _ _ _ l.last last r;
      }

  pub plan_blocks : blocks_in l whole last ≡ blocks code p n
  unfolding blocks_in blocks short_block
  plan_blocks =
      rw e (ap₂ (λ (xs ys : List Block). xs ++ ys) (holds_copies _ _ _ l.whole whole w) (last_copies _ _ l.last last r))

  -- the codes are the plan's
  pub plan_held : HoldsPlan p n l whole last
  plan_held = record { count = e; wholes = w; lasts = r }

-- R and M of a plan
module _ (p : Plan) (n : ℕ) where
  pub plan_radius : summed_radius (blocks code p n) ≡ n / p.size * p.radius + min p.radius (n % p.size)
  unfolding blocks block_of short_block summed_radius
  plan_radius =
      blocks_radius (n / p.size) (block_of code p.size p.radius) _
      ∙ ap (λ (x : ℕ). n / p.size * p.radius + x) (last (eqb (n % p.size) 0) refl)
    where
      last : (z : Bool) → eqb (n % p.size) 0 ≡ z →
          summed_radius (cond z [] (short_block code (n % p.size) p.radius ∷ [])) ≡ min p.radius (n % p.size)
      last true e = omega (arith, eqb-true (n % p.size) 0 e)
      last false e = add-zero _

  pub plan_centres : centre_count (blocks code p n) ≡
      length (code p.size p.radius) ^ (n / p.size) * cond (eqb (n % p.size) 0) 1 (length (code (n % p.size) (min p.radius (n % p.size))))
  unfolding blocks block_of short_block centre_count
  plan_centres =
      blocks_count (n / p.size) (block_of code p.size p.radius) _
      ∙ ap (λ (x : ℕ). length (code p.size p.radius) ^ (n / p.size) * x) (last (eqb (n % p.size) 0))
    where
      last : (z : Bool) → centre_count (cond z [] (short_block code (n % p.size) p.radius ∷ [])) ≡
          cond z 1 (length (code (n % p.size) (min p.radius (n % p.size))))
      last true = refl
      last false = mul-one _
