use Rattle.std.proofs.Common.{[], ap, sym, ◌∙◌, arith}
use Rattle.desk_exports.specs.Rules.{is_bad_name}
use Rattle.desk_exports.proofs.FirstPlaces.{first_place}
use Rattle.desk_exports.proofs.places.bad_name_place.Goals as goal

pub returns-then-is_bad_name : goal.returns-then-is_bad_name
returns-then-is_bad_name c =
    sym (first_place is_bad_name c.args.names.now c.loop-index.index [] (omega (arith, c.loop-index-test.true, c.len-index-end.ensures)) c.loop-index.invariant
    (ap is_bad_name (sym c.get.ensures) ∙ sym c.is_bad_name.ensures ∙ c.if-is_bad_name.true))
