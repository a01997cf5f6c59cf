use Rattle.std.proofs.Common.{◌∷◌, ◌∙◌, [], ap, map, refl}
use Rattle.std.specs.Prelude.{◌++◌, filter}
use Rattle.std.proofs.lemmas.List.Elements.{All-nil, All-push}
use Rattle.desk_who.specs.Runs.{run_value}
use Rattle.desk_impact.specs.Places.{Directory}
use Rattle.desk_impact.specs.Sections.{AreFoundAt, PlaceFound, has_some, place_found}
use Rattle.desk_impact.proofs.sections.found_alone.Goals as goal

pub returns : goal.returns
returns g c = λ rule of.
    let meaning = g.T.Alike.meaning in
    let at = AreFoundAt rule (g.S.Search.in_force c.args.search.now) in
    let one : PlaceFound _ = record { place = Directory c.args.dir.now; ranges = map (run_value meaning) c.in_ok-runs.runs.items } in
    record {
      found = one ∷ [];
      places = refl;
      each = All-push at [] one (All-nil at) (c.in_ok-runs.ensures rule of);
      are = c.in_ok-push_if_some.ensures ∙ ap (λ items. map (place_found meaning) items ++ filter has_some (one ∷ [])) c.new-sections.ensures.items;
    }
