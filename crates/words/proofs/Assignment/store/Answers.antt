-- `Assignment::store` meets its contract: each word goes to its place.
use Rattle.std.proofs.Common.{◌∙◌, ap, arith}
use Rattle.words.specs.Bits.{from_words}
use Rattle.words.proofs.WordLaws.{words_listed, words_number}
use Rattle.words.proofs.Assignment.store.Goals as goal

pub returns : goal.returns
returns c =
    let all = c.loop-i.invariant in
    ap from_words (words_listed c.loop-i.words (c.loop-i.auto.words ∙ c.requires))
    ∙ rw (all 0 (omega arith), all 1 (omega arith), all 2 (omega arith), all 3 (omega arith)) (words_number c.args.self.bits (omega arith))
