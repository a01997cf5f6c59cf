use Rattle.std.proofs.Common.{◌∙◌, ℕ, Option, Some, None, ap}
use Rattle.std.specs.Bool.{◌==◌}
use Rattle.std.specs.Prelude.{if◌then◌else◌}
use Rattle.std.specs.Option.{option_or}
use Rattle.desk_tables.specs.declared.users.User.{User}
use Rattle.desk_tables.proofs.IndexLemmas.{place_more}
use Rattle.desk_tables.proofs.users.places_by_uid.Goals as goal

pub loop-place-preserved : goal.loop-place-preserved
loop-place-preserved c = λ q.
    let row = c.index-rows-place.result in
    let place = c.loop-place.place in
    c.in_ok-add_first_number.ensures q
    ∙ ap (λ (o : Option ℕ). option_or o (if row.uid == q then Some place else None)) (c.loop-place.invariant q)
    ∙ place_more (λ (r : User). r.uid == q) c.args.rows.now place row c.loop-place-test.true c.index-rows-place.is
