use Rattle.std.proofs.Common.{◌≡◌, ◌∙◌, All, Bool, List, ap, drop, length, map, subst, sym, take}
use Rattle.std.proofs.lemmas.List.{length-map, take-map}
use Rattle.std.proofs.lemmas.List.Elements.{All-map, All-same, All-take}
use Rattle.desk_impact.specs.Places.{place_of}
use Rattle.desk_impact.specs.declared.places.Place.{Place as LentPlace}
use Rattle.page_data.specs.Opening.{opening_section}
use Rattle.page_places.specs.Groups.{HasToldSizes}
use Rattle.page_places.specs.declared.groups.GroupPart.{GroupPart}
use Rattle.page_data.specs.Groups.{group_value}
use Rattle.page_data.specs.Tables.{CanBeTabled}
use Rattle.page_data.specs.declared.groups.Group.{Group}
use Rattle.page_places.specs.Maps.{are_drawn}
use Rattle.page_places.specs.ListedGroups.{IsPart, PartValue, directories_among, has_others, most_listed, part_value, places_in}
use Rattle.page_places.proofs.Listed.{listed_sections}
use Rattle.page_places.proofs.listing.list_groups.Goals as goal

pub parts_of-requires : goal.parts_of-requires
parts_of-requires c =
    All-same CanBeTabled (map group_value c.truncate.new.self.items) (take most_listed (map group_value c.args.groups.items))
    (ap (map group_value) c.truncate.ensures.items ∙ sym (take-map group_value most_listed c.args.groups.items)) (All-take CanBeTabled most_listed (map group_value c.args.groups.items) c.requires)

pub returns-clause-groups : goal.returns-clause-groups
returns-clause-groups c =
    let groups = c.args.groups.items in
    let parts = c.in_ok-parts.parts.items in
    let left = c.in_ok-left.left.items in
    let count : c.len-count.result ≡ length (map group_value groups) = c.len-count.ensures ∙ c.args.groups.ok.0 ∙ sym (length-map groups group_value) in
    let places : map place_of left ≡ places_in (drop most_listed (map group_value groups)) =
    c.in_ok-left.ensures ∙ ap (λ (items : List Group). places_in (drop most_listed (map group_value items))) c.as_slice.ensures.value in
    record {
      listed = ap (λ (items : List GroupPart). map (λ (part : PartValue). part.sections) (map part_value items)) c.from_vec.ensures ∙ listed_sections parts
          ∙ c.in_ok-parts.ensures.groups ∙ ap (map group_value) c.truncate.ensures.items ∙ sym (take-map group_value most_listed groups);
      parts = subst (λ (drawn : Bool). All (IsPart drawn (map opening_section c.args.openings.now)) (map part_value c.from_vec.result)) (c.are_drawn.ensures ∙ ap are_drawn count)
          (subst (λ (items : List GroupPart). All (IsPart c.are_drawn.result (map opening_section c.args.openings.now)) (map part_value items)) (sym c.from_vec.ensures)
          (All-map (IsPart c.are_drawn.result (map opening_section c.args.openings.now)) part_value parts c.in_ok-parts.ensures.parts));
      count = count;
      unlisted = c.count_directories.ensures ∙ ap (λ (items : List LentPlace). directories_among (map place_of items)) c.as_slice-2.ensures.value ∙ ap directories_among places;
      others = c.has_others.ensures ∙ ap (λ (items : List LentPlace). has_others (map place_of items)) c.as_slice-3.ensures.value ∙ ap has_others places;
    }

pub returns-clause-sizes : goal.returns-clause-sizes
returns-clause-sizes c = subst (All HasToldSizes) (sym c.from_vec.ensures) c.in_ok-parts.ensures.sizes
