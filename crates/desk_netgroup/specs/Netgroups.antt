-- A netgroup file, and the hosts of a group: those of its triples, and those of the groups that are its members, at any
-- depth. (netgroup(5); that an empty host field adds no host is this project's own)
use Rattle.std.specs.Prelude.{◌≡◌, ℕ, zero, suc, Bool, false, List, [], ◌∷◌, ◌++◌, Option, Some, None, Result, Ok, Err, length}
use Rattle.std.specs.List.{AllPairs, cons_option, flat_map, list_any}
use Rattle.std.specs.Option.{option_map_or, option_or}
use Rattle.std.specs.Str.{bytes_eq}
use Rattle.desk_text.specs.Lines.{LogicalLine, logical_lines}
use Rattle.desk_netgroup.specs.Faults.{fault_on}
use Rattle.desk_netgroup.specs.GroupLine.{group_named, group_on, groups_on}
use Rattle.desk_netgroup.specs.declared.faults.GroupFault.{GroupFault}
use Rattle.desk_netgroup.specs.declared.group_line.GroupLine.{GroupLine}
use Rattle.desk_netgroup.specs.declared.group_line.Member.{Member}
use Rattle.desk_netgroup.specs.declared.group_line.Member.TheVariants.{Group, Host}

-- the fault of the first faulty one of these lines, which stand after others
abbrev pub first_fault : List LogicalLine → List LogicalLine → Option GroupFault
first_fault before [] = None
first_fault before (line ∷ more) = option_or (fault_on (groups_on before) line) (first_fault (before ++ line ∷ []) more)

-- a value, unless there is a fault
abbrev pub unless_fault : {X : Type 0} → X → Option GroupFault → Result X GroupFault
unless_fault value None = Ok value
unless_fault value (Some fault) = Err fault

-- the groups of a netgroup file, in the order of their lines, or the fault of its first faulty line
abbrev pub read_netgroups : List ℕ → Result (List GroupLine) GroupFault
read_netgroups text = unless_fault (groups_on (logical_lines text)) (first_fault [] (logical_lines text))

-- the group that a line adds, which has this fault or none: a faulty line adds none
abbrev pub added_group : Option GroupFault → Option GroupLine → List GroupLine
added_group None group = cons_option group []
added_group (Some fault) group = []

-- these groups, and the one that a further line defines unless it is faulty
abbrev pub with_line : List GroupLine → LogicalLine → List GroupLine
with_line earlier line = earlier ++ added_group (fault_on earlier line) (group_on line)

-- these groups, and those that further lines define, of which each faulty one defines nothing
abbrev pub with_lines : List GroupLine → List LogicalLine → List GroupLine
with_lines earlier [] = earlier
with_lines earlier (line ∷ more) = with_lines (with_line earlier line) more

-- The faults of lines that stand after these groups: each faulty line with the first rule that it breaks, after the groups
-- that the lines before it define which are not faulty.
abbrev pub faults_after : List GroupLine → List LogicalLine → List GroupFault
faults_after earlier [] = []
faults_after earlier (line ∷ more) = cons_option (fault_on earlier line) (faults_after (with_line earlier line) more)

-- the faults of a netgroup file
abbrev pub netgroup_faults : List ℕ → List GroupFault
netgroup_faults text = faults_after [] (logical_lines text)

-- a text is one of these
abbrev pub is_among : List ℕ → List (List ℕ) → Bool
is_among text texts = list_any (bytes_eq text) texts

-- the members of a group; one that is not defined has none
abbrev pub members_of : List GroupLine → List ℕ → List Member
members_of lines name = option_map_or (λ line. line.members) (group_named lines name) []

-- the hosts that a member adds, if a group adds these
abbrev pub hosts_by : (List ℕ → List (List ℕ)) → Member → List (List ℕ)
hosts_by of_group (Host name) = name ∷ []
hosts_by of_group (Group name) = of_group name

-- the hosts within so many levels of groups: none within 0; within one more those of the group's triples, and those of
-- its member groups within the levels that are left
abbrev pub hosts_within : List GroupLine → ℕ → List ℕ → List (List ℕ)
hosts_within lines zero name = []
hosts_within lines (suc levels) name = flat_map (hosts_by (hosts_within lines levels)) (members_of lines name)

-- the hosts of a group: those within as many levels as there are groups
unfoldable pub hosts_of : List GroupLine → List ℕ → List (List ℕ)
hosts_of lines name = hosts_within lines (length lines) name

-- texts of which none stands twice
abbrev pub AreDistinct : List (List ℕ) → Type 0
AreDistinct texts = AllPairs (λ text later. bytes_eq text later ≡ false) texts

-- these are the hosts of a group
abbrev pub AreHostsOf : List GroupLine → List ℕ → List (List ℕ) → Type 0
AreHostsOf lines name hosts = (host : List ℕ) → is_among host hosts ≡ is_among host (hosts_of lines name)
