-- What the table of a group keeps. (this project's own)
use Rattle.std.specs.Prelude.{List}
use Rattle.desk_impact.specs.Sections.{PlaceBreaches}
use Rattle.page_data.specs.Tables.{CanBeTabled, IsTableOf, table_value}
use Rattle.page_data.specs.declared.tables.Table.{Table}
use Rattle.page_places.specs.Tables.{HasSizes, told_value}

-- No row of the table of a group has more addresses than there are, and those that are joined have no more together.
abbrev pub TablesHaveSizes : Type 0
TablesHaveSizes =
    (sections : List PlaceBreaches) (table : Table) → CanBeTabled sections → IsTableOf sections (table_value table) → HasSizes (told_value table)
