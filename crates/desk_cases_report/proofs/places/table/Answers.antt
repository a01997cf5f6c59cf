use Rattle.std.proofs.Common.{All, map, subst, sym}
use Rattle.page_data.specs.Groups.{group_value}
use Rattle.page_data.specs.Tables.{CanBeTabled}
use Rattle.desk_cases_report.proofs.places.table.Goals as goal

pub table_in-requires : goal.table_in-requires
table_in-requires c = subst (λ some. All CanBeTabled (map group_value some)) (sym c.as_slice.ensures.value) (c.groups_can_be_tabled.ensures _ _ c.requires c.in_ok-groups.ensures)
