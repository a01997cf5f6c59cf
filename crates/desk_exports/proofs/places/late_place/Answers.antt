use Rattle.std.proofs.Common.{[], ap, sym, ◌∙◌, arith}
use Rattle.desk_text.specs.Path.{is_absolute}
use Rattle.desk_exports.proofs.FirstPlaces.{first_place}
use Rattle.desk_exports.proofs.places.late_place.Goals as goal

pub returns-then-is_absolute : goal.returns-then-is_absolute
returns-then-is_absolute c =
    sym (first_place is_absolute c.args.names.now c.loop-index.index [] (omega (arith, c.loop-index-test.true, c.len-index-end.ensures)) c.loop-index.invariant
    (ap is_absolute (sym c.get.ensures) ∙ sym c.is_absolute.ensures ∙ c.if-is_absolute.true))
