use Rattle.std.proofs.Common.{sym}
use Rattle.desk_text.proofs.PartPlaces.{fits-at}
use Rattle.desk_text.proofs.WordList.{closed_more, open_part}
use Rattle.desk_text.proofs.place.Place.of_open_quote.Goals as goal

pub open_quote_on-requires : goal.open_quote_on-requires
open_quote_on-requires c = fits-at c.parts-part-items.result.now _ c.loop-part.part-index _ c.parts-part-items.ensures.parts c.loop-part-test.true c.parts-part-items.ensures.placed

pub returns-in-Some-clause-found : goal.returns-in-Some-clause-found
returns-in-Some-clause-found c = sym (open_part c.parts-part-items.result.now _ c.parts-part-items.ensures.parts c.loop-part.part-index _ c.loop-part-test.true (sym c.in-Some.ensures.found))

pub loop-part-preserved : goal.loop-part-preserved
loop-part-preserved c = closed_more c.parts-part-items.result.now _ c.parts-part-items.ensures.parts c.loop-part.part-index _ c.loop-part-test.true c.loop-part.invariant (sym c.in_default.ensures.found)
