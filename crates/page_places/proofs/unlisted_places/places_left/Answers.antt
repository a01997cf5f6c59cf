use Rattle.std.proofs.Common.{◌≡◌, ◌∙◌, List, ap, drop, map, sym}
use Rattle.std.proofs.lemmas.List.{drop-map}
use Rattle.std.proofs.lemmas.Result.{IfOk-weaker}
use Rattle.desk_impact.specs.Places.{place_of}
use Rattle.page_data.specs.Groups.{group_value}
use Rattle.page_data.specs.declared.groups.Group.{Group}
use Rattle.page_places.specs.ListedGroups.{most_listed, places_in}
use Rattle.page_places.proofs.unlisted_places.places_left.Goals as goal

pub returns : goal.returns
returns c =
    let groups = c.args.groups.now in
    IfOk-weaker c.places_in.result (λ places. map place_of places.items ≡ places_in (map group_value c.behind_listed.result.now))
    (λ places. map place_of places.items ≡ places_in (drop most_listed (map group_value groups)))
    (λ places is. is ∙ ap (λ (items : List Group). places_in (map group_value items)) c.behind_listed.ensures ∙ ap places_in (sym (drop-map group_value most_listed groups)))
    c.places_in.ensures
