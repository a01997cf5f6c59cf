-- The five tables of a site that an exports file is read with. (this project's own)
use Rattle.desk_policy.specs.declared.per_table.PerTable.{PerTable}

-- what a function makes of what there is for each table
abbrev pub map_tables : {X Y : Type 0} → (X → Y) → PerTable X → PerTable Y
map_tables f tables = record {
  hosts = f tables.hosts;
  networks = f tables.networks;
  passwd = f tables.passwd;
  group = f tables.group;
  netgroup = f tables.netgroup;
}

-- this holds of what there is for each table
pub record EachTable {X : Type 0} (P : X → Type 0) (tables : PerTable X) : Type 0 where
  pub hosts : P tables.hosts
  pub networks : P tables.networks
  pub passwd : P tables.passwd
  pub group : P tables.group
  pub netgroup : P tables.netgroup
