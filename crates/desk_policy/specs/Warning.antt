-- What the texts of a site are warned of: words that are accepted, but odd. (this project's own)
use Rattle.std.specs.Prelude.{ℕ, ◌==◌, List, [], ◌∷◌, Option, Some, None, codes, is_some, length, if◌then◌else◌}
use Rattle.std.specs.List.{enumerate_from, flat_map}
use Rattle.desk_text.specs.Address.{is_address, is_dotted}
use Rattle.desk_text.specs.Bytes.{is_ipv6}
use Rattle.desk_text.specs.Said.{Said, row}
use Rattle.desk_tables.specs.Hosts.{addresses_of_host}
use Rattle.desk_tables.specs.declared.filesystems.FsId.{FsId}
use Rattle.desk_tables.specs.declared.hosts.HostRow.{HostRow}
use Rattle.desk_netgroup.specs.GroupLine.{group_named}
use Rattle.desk_netgroup.specs.declared.group_line.GroupLine.{GroupLine}
use Rattle.desk_netgroup.specs.declared.group_line.Member.{Member}
use Rattle.desk_netgroup.specs.declared.group_line.Member.TheVariants.{Group, Host}
use Rattle.desk_exports.specs.declared.entry.Clients.{Clients}
use Rattle.desk_exports.specs.declared.entry.Clients.TheVariants as clients
use Rattle.desk_exports.specs.declared.entry.Entry.{Entry}
use Rattle.desk_policy.specs.Names.{is_address_like}
use Rattle.desk_policy.specs.declared.warning.Warning.{Warning}
use Rattle.desk_policy.specs.declared.warning.WarningKind.{WarningKind}
use Rattle.desk_policy.specs.declared.warning.WarningKind.TheVariants as kind

-- what is printed of a kind: its number, its name, and what is said of the word that is odd
abbrev pub said : WarningKind → Said
said kind.ClassMask = row 1 (codes "ClassMask") (codes "has neither a prefix nor a mask, so that its class counts, by its first number (/8 up to 127, /16 up to 191, /24 up to 223): write out the prefix that you mean")
said kind.Ipv6 = row 2 (codes "Ipv6") (codes "has a colon, so it counts as IPv6 and matches nobody: write IPv4, and blanks between hosts")
said kind.UnknownHost = row 3 (codes "UnknownHost") (codes "is not an address, a known host or (outside a triple) a known netgroup, and matches nobody: correct it, or give the file that has it (--hosts, --netgroup or --site)")
said kind.UnknownMember = row 4 (codes "UnknownMember") (codes "is not a netgroup of the file, and adds nobody: define it, or write a host as (HOST,,)")

abbrev pub kind_number : WarningKind → ℕ
kind_number kind = (said kind).number

abbrev pub kind_name : WarningKind → List ℕ
kind_name kind = (said kind).name

abbrev pub kind_sentence : WarningKind → List ℕ
kind_sentence kind = (said kind).sentence

-- all kinds, by their numbers
abbrev pub warning_kinds : List WarningKind
warning_kinds = kind.ClassMask ∷ kind.Ipv6 ∷ kind.UnknownHost ∷ kind.UnknownMember ∷ []

-- of a host's text: it is of IPv6; it has digits and dots alone and is not an address; or it is no name of the hosts file,
-- which gives each of its names an address
abbrev pub host_kind : List HostRow → List ℕ → Option WarningKind
host_kind hosts name =
    if is_ipv6 name then Some kind.Ipv6
    else if is_dotted name then (if is_address name then None else Some kind.UnknownHost)
    else if length (addresses_of_host hosts name) == 0 then Some kind.UnknownHost
    else None

-- of a written name, which may be a group's
abbrev pub name_kind : List GroupLine → List HostRow → List ℕ → Option WarningKind
name_kind netgroups hosts name =
    if is_address_like name then host_kind hosts name
    else if is_some (group_named netgroups name) then None
    else host_kind hosts name

-- of a member of a group: a group that is not defined, or a host's text
abbrev pub member_kind : List GroupLine → List HostRow → Member → Option WarningKind
member_kind netgroups hosts (Group name) = if is_some (group_named netgroups name) then None else Some kind.UnknownMember
member_kind netgroups hosts (Host name) = host_kind hosts name

-- the word of a member
abbrev pub member_word : Member → List ℕ
member_word (Group name) = name
member_word (Host name) = name

-- the warning of the word with this index in a line, if there is one
abbrev pub warning_if : List ℕ → ℕ → ℕ → List ℕ → Option WarningKind → List Warning
warning_if file line index word None = []
warning_if file line index word (Some kind) = record { file = file; line = line; kind = kind; index = index; word = word } ∷ []

-- the warnings of the words of a line, in order: each has its index, from 0
abbrev pub word_warnings : {X : Type 0} → List ℕ → ℕ → (X → List ℕ) → (X → Option WarningKind) → List X → List Warning
word_warnings file line word kind xs = flat_map (λ one. warning_if file line one.0 (word one.1) (kind one.1)) (enumerate_from 0 xs)

-- of a netgroup line: by its members, in order
abbrev pub group_warnings : List GroupLine → List HostRow → GroupLine → List Warning
group_warnings netgroups hosts line =
    word_warnings (codes "netgroup") line.line member_word (member_kind netgroups hosts) line.members

-- of the netgroup file
abbrev pub netgroup_warnings : List GroupLine → List HostRow → List Warning
netgroup_warnings netgroups hosts = flat_map (group_warnings netgroups hosts) netgroups

-- of the clients of a line: its names, in order; or its network, if its class counts or it is of IPv6
abbrev pub clients_warnings : List GroupLine → List HostRow → List ℕ → ℕ → Clients → List Warning
clients_warnings netgroups hosts file line (clients.Hosts names) = word_warnings file line (λ name. name) (name_kind netgroups hosts) names
clients_warnings netgroups hosts file line (clients.Net net None) = []
clients_warnings netgroups hosts file line (clients.Net net (Some value)) = warning_if file line 0 value (Some kind.ClassMask)
clients_warnings netgroups hosts file line (clients.Net6 value) = warning_if file line 0 value (Some kind.Ipv6)
clients_warnings netgroups hosts file line clients.World = []

-- of the line of an entry
abbrev pub entry_warnings : List GroupLine → List HostRow → List ℕ → Entry → List Warning
entry_warnings netgroups hosts file entry = clients_warnings netgroups hosts file entry.line entry.clients

-- of a whole exports text
abbrev pub whole_warnings : List GroupLine → List HostRow → List (FsId × Entry) → List Warning
whole_warnings netgroups hosts placed = flat_map (λ pair. entry_warnings netgroups hosts (codes "exports") pair.1) placed
