-- The bits of all words are the clause's mask.
use Rattle.std.proofs.Common.{rules, ◌≡◌, ◌∙◌, ◌*◌, ◌%◌, ◌^◌}
use Rattle.std.specs.List.{fold}
use Rattle.std.specs.Int.Bits.{bit_or}
use Rattle.formula.specs.Machine.{mask_bits}
use Rattle.formula.proofs.MaskLaws.{mask_words, shifted_words}
use Rattle.formula.proofs.sets.mask.Goals as goal

pub returns : goal.returns
returns c =
    let mirrored : c.fold.result ≡ fold (λ b w. bit_or b (1 * 2 ^ (w % mask_bits) % 2 ^ mask_bits)) 0 c.args.clause.now = search rules in
    mirrored ∙ shifted_words 0 c.args.clause.now ∙ mask_words c.args.clause.now
