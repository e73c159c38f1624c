-- `centres` meets its contract: M is the product of the numbers of words.
use Rattle.search.proofs.LayoutLaws.{extent_is}
use Rattle.search.proofs.codes.Codes.centres.Goals as goal

pub returns : goal.returns
returns c =
    let codes = c.args.self.now in
    rw (extent_is codes.layout codes.whole_words codes.last_words codes.laid) c.centres.ensures
