-- `take_word` answers the value of a word of the kind due, and nothing of any other: the kinds are the numbers of the definition.
use Rattle.std.proofs.Common.{◌≡◌, refl, ◌∙◌, sym}
use borrow.Author.Tests.{eq-eqb, ne_eqb}
use denote.Enum.Declared.{tag_of}
use Rattle.formula.specs.contracts.Kind.{the_type}
use Rattle.formula.specs.declared.Kind.{Kind}
use Rattle.formula.specs.declared.Kind.TheVariants.{Literal, ClauseLength, Variables, BatchHalf}
use Rattle.formula.specs.Sheet.{kind, value}
use Rattle.formula.specs.Machine.{kind_number, word_taken}
use Rattle.formula.proofs.take_word.Goals as goal

tagged : (k : Kind) → tag_of the_type k ≡ kind_number k
unfolding kind_number
tagged Literal = refl
tagged ClauseLength = refl
tagged Variables = refl
tagged BatchHalf = refl

pub returns-then-w-due : goal.returns-then-w-due
unfolding word_taken kind value
returns-then-w-due c = rw (← c.word_at-w.ensures, eq-eqb _ _ (c.if-w-due.true ∙ tagged c.args.due))

pub returns-else-w-due : goal.returns-else-w-due
unfolding word_taken kind value
returns-else-w-due c = rw (← c.word_at-w.ensures, ne_eqb _ _ (λ e. c.if-w-due.false (e ∙ sym (tagged c.args.due))))
