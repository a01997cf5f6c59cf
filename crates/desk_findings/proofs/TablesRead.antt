-- The tables that five texts write, by what is read of each of them.
use Rattle.std.proofs.Common.{◌≡◌, ◌∙◌, ℕ, List, [], Result, Ok, Err, ap, codes}
use Rattle.desk_tables.specs.Groups.{read_groups}
use Rattle.desk_tables.specs.Hosts.{read_hosts}
use Rattle.desk_tables.specs.Networks.{read_networks}
use Rattle.desk_tables.specs.Rules.{TableFault}
use Rattle.desk_tables.specs.Users.{read_users}
use Rattle.desk_tables.specs.declared.groups.Group.{Group}
use Rattle.desk_tables.specs.declared.hosts.HostRow.{HostRow}
use Rattle.desk_tables.specs.declared.networks.NetworkName.{NetworkName}
use Rattle.desk_tables.specs.declared.users.User.{User}
use Rattle.desk_netgroup.specs.Netgroups.{read_netgroups}
use Rattle.desk_netgroup.specs.declared.faults.GroupFault.{GroupFault}
use Rattle.desk_netgroup.specs.declared.group_line.GroupLine.{GroupLine}
use Rattle.desk_policy.specs.Parsing.{in_file, read_tables, then_read}
use Rattle.desk_policy.specs.SiteFault.{group_fault, table_fault}
use Rattle.desk_policy.specs.declared.parsing.SiteTables.{SiteTables}
use Rattle.desk_policy.specs.declared.per_table.PerTable.{PerTable}
use Rattle.desk_policy.specs.declared.site_fault.SiteFault.{SiteFault}

-- the tables of these answers, in the order in which they are read
abbrev tables_by : Result (List HostRow) TableFault → Result (List NetworkName) TableFault → Result (List User) TableFault → Result (List Group) TableFault → Result (List GroupLine) GroupFault → Result SiteTables SiteFault
tables_by hosts networks users groups netgroups =
    then_read (in_file (table_fault (codes "hosts")) hosts) (λ hosts.
    then_read (in_file (table_fault (codes "networks")) networks) (λ networks.
    then_read (in_file (table_fault (codes "passwd")) users) (λ users.
    then_read (in_file (table_fault (codes "group")) groups) (λ groups.
    then_read (in_file group_fault netgroups) (λ netgroups.
    Ok (record { hosts = hosts; networks = networks; users = users; groups = groups; netgroups = netgroups }))))))

-- texts of which each can be read write these tables
pub all_read : (texts : PerTable (List ℕ)) (hosts : List HostRow) (networks : List NetworkName) (users : List User) (groups : List Group) (netgroups : List GroupLine)
    → read_hosts texts.hosts ≡ Ok hosts → read_networks texts.networks ≡ Ok networks → read_users texts.passwd ≡ Ok users → read_groups texts.group ≡ Ok groups → read_netgroups texts.netgroup ≡ Ok netgroups
    → read_tables texts ≡ Ok (record { hosts = hosts; networks = networks; users = users; groups = groups; netgroups = netgroups })
all_read texts hosts networks users groups netgroups eh en eu eg eng =
    ap (λ r. tables_by r (read_networks texts.networks) (read_users texts.passwd) (read_groups texts.group) (read_netgroups texts.netgroup)) eh
    ∙ ap (λ r. tables_by (Ok hosts) r (read_users texts.passwd) (read_groups texts.group) (read_netgroups texts.netgroup)) en
    ∙ ap (λ r. tables_by (Ok hosts) (Ok networks) r (read_groups texts.group) (read_netgroups texts.netgroup)) eu
    ∙ ap (λ r. tables_by (Ok hosts) (Ok networks) (Ok users) r (read_netgroups texts.netgroup)) eg
    ∙ ap (λ r. tables_by (Ok hosts) (Ok networks) (Ok users) (Ok groups) r) eng

abbrev users_in : Result SiteTables SiteFault → Result (List User) TableFault
users_in (Ok tables) = Ok tables.users
users_in (Err fault) = Ok []

abbrev groups_in : Result SiteTables SiteFault → Result (List Group) TableFault
groups_in (Ok tables) = Ok tables.groups
groups_in (Err fault) = Ok []

people_by : (hosts : Result (List HostRow) TableFault) (networks : Result (List NetworkName) TableFault) (users : Result (List User) TableFault) (groups : Result (List Group) TableFault) (netgroups : Result (List GroupLine) GroupFault) (tables : SiteTables)
    → tables_by hosts networks users groups netgroups ≡ Ok tables → (users ≡ Ok tables.users) × (groups ≡ Ok tables.groups)
people_by (Ok hosts) (Ok networks) (Ok users) (Ok groups) (Ok netgroups) tables is = (ap users_in is, ap groups_in is)
people_by (Ok hosts) (Ok networks) (Ok users) (Ok groups) (Err fault) tables is = absurd cc
people_by (Ok hosts) (Ok networks) (Ok users) (Err fault) netgroups tables is = absurd cc
people_by (Ok hosts) (Ok networks) (Err fault) groups netgroups tables is = absurd cc
people_by (Ok hosts) (Err fault) users groups netgroups tables is = absurd cc
people_by (Err fault) networks users groups netgroups tables is = absurd cc

-- the users and the groups of tables that were read
pub people_read : (texts : PerTable (List ℕ)) (tables : SiteTables) → read_tables texts ≡ Ok tables → (read_users texts.passwd ≡ Ok tables.users) × (read_groups texts.group ≡ Ok tables.groups)
people_read texts tables is = people_by (read_hosts texts.hosts) (read_networks texts.networks) (read_users texts.passwd) (read_groups texts.group) (read_netgroups texts.netgroup) tables is
