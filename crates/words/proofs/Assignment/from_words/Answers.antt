-- `Assignment::from_words` meets its contract: each word is joined below those above it.
use Rattle.std.specs.Prelude.{◌≡◌, ℕ, ◌*◌, ◌%◌, ◌^◌, fold, reverse}
use Rattle.std.proofs.Common.{◌∙◌, arith, rules}
use Rattle.std.specs.Int.Bits.{bit_or}
use Rattle.words.specs.Bits.{width}
use Rattle.words.proofs.WordLaws.{words_folded}
use Rattle.words.proofs.Assignment.from_words.Goals as goal

pub returns : goal.returns
returns c =
    let ws = c.args.words.now in
    let folded : c.fold.result ≡ fold (λ (m w : ℕ). bit_or (m * 2 ^ 32 % 2 ^ width) w) 0 (reverse ws) = search rules in
    folded ∙ words_folded ws c.requires (λ i. omega (arith, c.type_inv.words i))
