use Rattle.std.proofs.Common.{map}
use Rattle.desk_impact.specs.Sections.{section_value}
use Rattle.page_data.specs.Groups.{group_value}
use Rattle.page_places.proofs.listing.listed_groups.Goals as goal

pub list_groups-requires : goal.list_groups-requires
list_groups-requires c =
    c.groups_can_be_tabled.ensures (map section_value c.args.sections.items) (map group_value c.in_ok-groups.groups.items) c.requires c.in_ok-groups.ensures
