-- What `check` tells of the faults of texts: each of them, at its place. (this project's own)
use Rattle.std.specs.Prelude.{◌≡◌, ◌++◌, List, None, Some, map}
use Rattle.std.specs.List.{All}
use Rattle.desk_text.specs.Lines.{IsReadable}
use Rattle.desk_tables.specs.Faults.{IsPlaced as IsPlacedInTable}
use Rattle.desk_tables.specs.Groups.{group_faults}
use Rattle.desk_tables.specs.Hosts.{host_faults}
use Rattle.desk_tables.specs.Networks.{network_faults}
use Rattle.desk_tables.specs.Rules.{TableFault}
use Rattle.desk_tables.specs.Users.{user_faults}
use Rattle.desk_tables.specs.declared.faults.PlacedFault.{PlacedFault as TablePlacedFault}
use Rattle.desk_netgroup.specs.Faults.{IsPlaced as IsPlacedInNetgroup}
use Rattle.desk_netgroup.specs.Netgroups.{netgroup_faults}
use Rattle.desk_netgroup.specs.declared.faults.PlacedFault.{PlacedFault as GroupPlacedFault}
use Rattle.desk_exports.specs.declared.faults.PlacedFault.{PlacedFault as LinePlacedFault}
use Rattle.desk_policy.specs.PerTable.{EachTable}
use Rattle.desk_policy.specs.declared.per_table.PerTable.{PerTable}
use Rattle.desk_policy.specs.declared.site_fault.SiteRule.TheVariants as site_rule
use Rattle.desk_findings.specs.Told.{Told, tell, told}
use Rattle.desk_findings.specs.declared.check_faults.Source.{Source}
use Rattle.desk_findings.specs.declared.finding.Finding.{Finding}
use Rattle.desk_findings.specs.declared.finding.Matter.TheVariants as matter

-- what is told of a fault of a table, of a netgroup file and of an exports text
abbrev pub tell_table : Source → TablePlacedFault → Told
tell_table source placed = tell source placed.place (matter.Fault (site_rule.Table placed.fault.rule) None)

abbrev pub tell_group : Source → GroupPlacedFault → Told
tell_group source placed = tell source (Some placed.place) (matter.Fault (site_rule.Group placed.fault.rule) placed.fault.other)

abbrev pub tell_line : Source → LinePlacedFault → Told
tell_line source placed = tell source (Some placed.place) (matter.Fault (site_rule.Line placed.fault.rule) None)

-- What is told are these faults, each at a place at which it may be told.
pub record Tells {P F : Type 0} (fault_of : P → F) (IsAt : P → Type 0) (tell_one : P → Told) (faults : List F) (all : List Told) : Type 0 where
  pub placed : List P
  pub same : map fault_of placed ≡ faults
  pub places : All IsAt placed
  pub are : all ≡ map tell_one placed

abbrev pub TellTable : Source → List TableFault → List Told → Type 0
TellTable source faults all = Tells (λ one. one.fault) (IsPlacedInTable source.text.now) (tell_table source) faults all

-- the faults of each of the five tables
abbrev pub TellHosts : Source → List Told → Type 0
TellHosts source all = TellTable source (host_faults source.text.now) all

abbrev pub TellNetworks : Source → List Told → Type 0
TellNetworks source all = TellTable source (network_faults source.text.now) all

abbrev pub TellPasswd : Source → List Told → Type 0
TellPasswd source all = TellTable source (user_faults source.text.now) all

abbrev pub TellGroup : Source → List Told → Type 0
TellGroup source all = TellTable source (group_faults source.text.now) all

abbrev pub TellNetgroup : Source → List Told → Type 0
TellNetgroup source all = Tells (λ one. one.fault) (IsPlacedInNetgroup source.text.now) (tell_group source) (netgroup_faults source.text.now) all

-- the faults of these tables, in the order in which they are read
pub record TellTables (sources : PerTable Source) (all : List Told) : Type 0 where
  pub hosts : List Told
  pub networks : List Told
  pub passwd : List Told
  pub group : List Told
  pub netgroup : List Told
  pub tell_hosts : TellHosts sources.hosts hosts
  pub tell_networks : TellNetworks sources.networks networks
  pub tell_passwd : TellPasswd sources.passwd passwd
  pub tell_group : TellGroup sources.group group
  pub tell_netgroup : TellNetgroup sources.netgroup netgroup
  pub are : all ≡ hosts ++ (networks ++ (passwd ++ (group ++ netgroup)))

-- findings that tell this are added
pub record Adds (TellAll : List Told → Type 0) (old new : List Finding) : Type 0 where
  pub added : List Told
  pub tell : TellAll added
  pub are : map told new ≡ map told old ++ added

-- no text of these tables is too long to be read
abbrev pub AreReadable : PerTable Source → Type 0
AreReadable sources = EachTable (λ (source : Source). IsReadable source.text.now) sources
