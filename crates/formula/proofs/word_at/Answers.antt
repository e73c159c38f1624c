-- `word_at` reads word i off its four bytes.
use mathlib.Core.Path.{◌∙◌, sym}
use Prim.Native.Nat.{◌<◌}
use native.Mathlib.Omega.{arith}
use lib.ListN.{length}
use Rattle.formula.specs.Sheet.{words}
use Rattle.formula.proofs.SheetLaws.{words_at, length_words, four_bytes}
use Rattle.formula.proofs.word_at.Goals as goal

pub returns : goal.returns
returns c =
    let a = c.args in
    let inside : a.i < length (words a.part.now) =
    omega (arith, length_words a.part.now, c.requires) in
    c.from_le_bytes.ensures ∙ four_bytes _ _ _ _ ∙ sym (words_at a.part.now a.i inside)
