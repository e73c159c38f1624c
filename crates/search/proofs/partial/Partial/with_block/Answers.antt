-- `Partial::with_block` meets its contract: the remainder is below the number of words, and the word's bits go where no bit
-- stands yet.
use Rattle.std.specs.Prelude.{List, ℕ, ◌+◌, ◌*◌, ◌%◌, ◌^◌, ◌<◌, get_or}
use Rattle.std.proofs.Common.{refl, ap, ◌∙◌, le_trans, mod-lt, arith}
use lib.Pow.{pow_mono}
use Rattle.words.specs.Bits.{width}
use Rattle.words.specs.Machine.{bits_of}
use Rattle.search.specs.declared.block_code.BlockCode.{BlockCode}
use Rattle.search.specs.declared.partial.Partial.{Partial}
use Rattle.search.specs.Blocks.{Coded}
use Rattle.search.proofs.CodesLaws.{join_lt}
use Rattle.search.proofs.partial.Partial.with_block.Goals as goal

-- the remainder picks a word, and the word fits above the bits so far
module _ (b : BlockCode) (cells : List ℕ) (coded : Coded b cells) (p : Partial) (low : bits_of p.assignment < 2 ^ p.shift) where
  inside : p.left % b.count < b.count
  inside = mod-lt p.left coded.some

  joined-lt : get_or cells (p.left % b.count) 0 * 2 ^ p.shift + bits_of p.assignment < 2 ^ (p.shift + b.size)
  joined-lt = join_lt b.size p.shift _ _ (coded.below (p.left % b.count) inside) low

pub nonzero_rem-at : goal.nonzero_rem-at
nonzero_rem-at c = let h = c.requires.coded.some in omega arith

pub offset_bounds-words-at : goal.offset_bounds-words-at
offset_bounds-words-at c =
    let coded = c.requires.coded in
    omega (arith, inside _ _ coded c.args.self c.requires.below, coded.held)

pub bounds-words-at : goal.bounds-words-at
bounds-words-at c =
    let coded = c.requires.coded in
    omega (arith, inside _ _ coded c.args.self c.requires.below, coded.held)

pub joined-requires : goal.joined-requires
joined-requires c =
    let coded = c.requires.coded in
    let h = joined-lt _ _ coded c.args.self c.requires.below in
    (omega (arith, coded.size, c.requires.room), c.requires.below, rw c.from-word.ensures (le_trans h (pow_mono {j = width} c.requires.room)))

pub nonzero_div-result : goal.nonzero_div-result
nonzero_div-result c = let h = c.requires.coded.some in omega arith

pub returns : goal.returns
returns c =
    let p = c.args.self in
    record {
      reads = c.joined.ensures ∙ ap (λ (w : ℕ). w * 2 ^ p.shift + bits_of p.assignment) c.from-word.ensures;
      below = rw (c.joined.ensures, c.from-word.ensures) (joined-lt _ _ c.requires.coded p c.requires.below);
      shift = refl;
      left = refl;
    }
