use Rattle.std.proofs.Common.{◌∙◌, List, ℕ, Option, Some, None, ap, take}
use Rattle.std.specs.Prelude.{if◌then◌else◌}
use Rattle.std.specs.List.{position}
use Rattle.std.specs.Option.{option_or}
use Rattle.std.specs.Str.{bytes_eq}
use Rattle.desk_tables.specs.declared.users.User.{User}
use Rattle.desk_tables.proofs.IndexLemmas.{place_more}
use Rattle.desk_tables.proofs.users.places_by_name.Goals as goal

pub loop-place-preserved : goal.loop-place-preserved
loop-place-preserved c = λ q.
    let row = c.index-rows-place.result in
    let place = c.loop-place.place in
    let so_far = position (λ (r : User). bytes_eq q r.name) (take place c.args.rows.now) in
    c.in_ok-add_first.ensures q
    ∙ ap (λ (o : Option ℕ). option_or o (if bytes_eq q c.as_str.result.now then Some place else None)) (c.loop-place.invariant q)
    ∙ ap (λ (name : List ℕ). option_or so_far (if bytes_eq q name then Some place else None)) c.as_str.ensures
    ∙ place_more (λ (r : User). bytes_eq q r.name) c.args.rows.now place row c.loop-place-test.true c.index-rows-place.is
