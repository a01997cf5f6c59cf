use Rattle.std.proofs.Common.{◌≡◌, ◌++◌, ◌<◌, ◌∙◌, ltb, ℕ, List, [], ◌∷◌, Some, length, get_or, map, set, sym, ap, arith}
use Rattle.std.proofs.lemmas.Bool.{cond-true, lt-ltb}
use Rattle.std.proofs.lemmas.List.{get_or-map, length-map, map-append, map-set}
use Rattle.desk_impact.specs.Sections.{PlaceBreaches, section_value}
use Rattle.page_data.specs.Groups.{group_value}
use Rattle.page_data.specs.PrivateSections.{with_section_at}
use Rattle.page_data.proofs.groups.push_at.Goals as goal

-- the list in this place goes on
goes_on : {X : Type 0} (value_of : X → List PlaceBreaches) (groups : List X) (i : ℕ) (old new : X) (section : PlaceBreaches) → i < length groups → old ≡ get_or groups i old
    → value_of new ≡ value_of old ++ section ∷ [] → map value_of (set groups i new) ≡ with_section_at (Some i) (map value_of groups) section
goes_on value_of groups i old new section below is added =
    let values = map value_of groups in
    let there : i < length values = omega (arith, length-map groups value_of) in
    map-set value_of groups i new
    ∙ ap (set values i) (added ∙ ap (λ t. t ++ section ∷ []) (ap value_of is ∙ sym (get_or-map value_of groups i old [] below)))
    ∙ sym (cond-true (ltb i (length values)) _ _ (lt-ltb _ _ there))

pub returns-in_ok-push : goal.returns-in_ok-push
returns-in_ok-push c =
    let below : c.args.number < length c.args.groups.now.items = grind (arith, c.in-Some.ensures.variant) in
    goes_on group_value c.args.groups.now.items c.args.number c.in-Some.group.now _ _ below c.in-Some.ensures.value
    (ap (map section_value) c.in_ok-push.ensures.added ∙ map-append section_value c.in-Some.group.now.sections (c.args.section ∷ []))
