use Rattle.std.proofs.Common.{subst, sym}
use Rattle.desk_text.specs.Address.{number_of}
use Rattle.page_maps.specs.Cells.{AreLeastAndMost}
use Rattle.page_maps.proofs.Spread.{spread_is}
use Rattle.page_maps.proofs.cells.cell_at.Goals as goal

pub returns : goal.returns
returns c = λ class_at tell.
    let first = number_of c.args.first in
    let last = number_of c.args.last in
    subst (AreLeastAndMost class_at first last) (sym c.spread.ensures) (spread_is class_at first last c.requires c.meeting.result.now (c.meeting.ensures class_at tell))
