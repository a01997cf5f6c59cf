-- What the private contracts of hosts cite.
use Rattle.std.specs.Prelude.{ℕ, List, [], ◌∷◌, if◌then◌else◌}
use Rattle.desk_netgroup.specs.declared.group_line.GroupLine.{GroupLine}
use Rattle.page_lists.specs.Hosts.{is_host_name}

-- a name, if it is that of a host
abbrev pub host_if : List GroupLine → List ℕ → List (List ℕ)
host_if netgroups name = if is_host_name netgroups name then name ∷ [] else []
