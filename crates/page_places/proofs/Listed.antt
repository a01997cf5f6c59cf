-- The groups that are listed.
use Rattle.std.proofs.Common.{◌≡◌, List, [], ◌∷◌, ap, map, refl}
use Rattle.desk_impact.specs.Sections.{PlaceBreaches}
use Rattle.page_places.specs.declared.groups.GroupPart.{GroupPart}
use Rattle.page_data.specs.Groups.{group_value}
use Rattle.page_places.specs.ListedGroups.{PartValue, part_value}

pub listed_sections : (parts : List GroupPart) → map (λ (part : PartValue). part.sections) (map part_value parts) ≡ map (λ (part : GroupPart). group_value part.group) parts
listed_sections [] = refl
listed_sections (part ∷ parts) = ap (λ (rest : List (List PlaceBreaches)). group_value part.group ∷ rest) (listed_sections parts)
