-- `choose` meets its contract: the first clause that meets S or L, or else the first false one.
use Rattle.ball.proofs.ChoiceLaws.{found_within, selected}
use native.Mathlib.Omega.{arith}
use Rattle.ball.proofs.choice.choose.Goals as goal

pub first_lone-lone-requires : goal.first_lone-lone-requires
first_lone-lone-requires c =
    let seen = c.requires.0 in
    let few = c.next-few.ensures.by_index seen.cells _ _ seen.ready.occurs seen.shows.met seen.shows.«open» in
    (omega (arith, c.requires.1), rw c.unwrap_or-end.ensures (found_within _ _ _ _ few))

pub returns : goal.returns
returns c cells ready shows stand first =
    let inside = c.requires.1 in
    let few = c.next-few.ensures.by_index cells _ _ ready.occurs shows.met shows.«open» in
    let lone = rw c.unwrap_or-end.ensures at c.first_lone-lone.ensures cells ready shows stand first inside in
    rw (c.unwrap_or.ensures, c.or.ensures) (selected _ cells _ _ first inside _ _ few lone)
