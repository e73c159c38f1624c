-- What the program answers to any input (paper 01, "Settled examples", the program `clearing`).
use Rattle.std.specs.Prelude.{cond, List, ℕ, ltb, length, drop}
use Rattle.decision.specs.declared.Reply.{Reply}
use Rattle.decision.specs.Answers.{reply_to, declines, BAD_PLAN}
use Rattle.search.specs.Run.{plan}
use Rattle.line.specs.Request.{word_of_input}

-- Block length, radius and budget are the first three words, and the rest is a sheet. Fewer than 12 bytes are a bad plan.
unfoldable pub program_reply : List ℕ → Reply
program_reply input =
    cond (ltb (length input) 12)
    (declines BAD_PLAN 0)
    (reply_to (plan (word_of_input input 0) (word_of_input input 1)) (word_of_input input 2) (drop 12 input))
