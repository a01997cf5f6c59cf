-- One more place is on the line.
use Rattle.std.proofs.Common.{subst, sym}
use Rattle.std.proofs.lemmas.List.Elements.{All-push}
use Rattle.std.specs.List.{All}
use Rattle.desk_exports.specs.Places.{IsOnLine}
use Rattle.desk_exports.proofs.places.push_place.Goals as goal

pub returns : goal.returns
returns c =
    subst (All (IsOnLine c.args.line.now)) (sym c.in_ok-push.ensures.items) (All-push (IsOnLine c.args.line.now) c.args.places.now.items c.place_of.result c.requires c.place_of.ensures)
