-- What the machine's answer reads as.
use Rattle.words.specs.Machine.{bits_of}
use Rattle.tree.specs.declared.Found.{Found}
use Rattle.tree.specs.declared.Found.TheVariants.{Clear, None, Spent}
use Rattle.tree.specs.Budget.{Answer, clear, spent}

-- the machine's answer as the definition's
unfoldable pub answer_in : Found → Answer
answer_in (Clear a c) = clear (bits_of a) c
answer_in (None c) = Answer.none c
answer_in (Spent c) = spent c
