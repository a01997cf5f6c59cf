-- The form of a netgroup line: a name, and members after it. (netgroup(5); that a host field that is empty or `-` adds no
-- host is this project's own)
use Rattle.std.specs.Prelude.{ℕ, List, [], ◌∷◌, ◌++◌, Option, Some, None, find, if◌then◌else◌}
use Rattle.std.specs.List.{filter_map}
use Rattle.std.specs.Option.{option_map}
use Rattle.std.specs.Str.{bytes_eq}
use Rattle.desk_text.specs.Lines.{LogicalLine, joined_text}
use Rattle.desk_netgroup.specs.Token.{tokens}
use Rattle.desk_netgroup.specs.declared.group_line.GroupLine.{GroupLine}
use Rattle.desk_netgroup.specs.declared.group_line.Member.{Member}
use Rattle.desk_netgroup.specs.declared.group_line.Member.TheVariants.{Group, Host}
use Rattle.desk_netgroup.specs.declared.token.Token.{Token}
use Rattle.desk_netgroup.specs.declared.token.Token.TheVariants.{Open, Close, Comma, Word}

-- the member that a host field adds: none if it is empty or `-`
abbrev pub host_member : List ℕ → List Member
host_member [] = []
host_member (c ∷ host) = if bytes_eq (c ∷ host) (45 ∷ []) then [] else Host (c ∷ host) ∷ []

-- members, and further ones after them
abbrev pub followed_by : List Member → Option (List Member) → Option (List Member)
followed_by first others = option_map (λ members. first ++ members) others

-- The members that tokens write: groups by name, and triples `(` host `,` user `,` domain `)`, each field empty or one
-- word, with any number of commas beside them. None if the tokens have not this form.
abbrev pub members : List Token → Option (List Member)
members [] = Some []
members (Comma ∷ more) = members more
members (Word group ∷ more) = followed_by (Group group ∷ []) (members more)
members (Open ∷ Comma ∷ Comma ∷ Close ∷ more) = members more
members (Open ∷ Comma ∷ Comma ∷ Word domain ∷ Close ∷ more) = members more
members (Open ∷ Comma ∷ Word user ∷ Comma ∷ Close ∷ more) = members more
members (Open ∷ Comma ∷ Word user ∷ Comma ∷ Word domain ∷ Close ∷ more) = members more
members (Open ∷ Word host ∷ Comma ∷ Comma ∷ Close ∷ more) = followed_by (host_member host) (members more)
members (Open ∷ Word host ∷ Comma ∷ Comma ∷ Word domain ∷ Close ∷ more) = followed_by (host_member host) (members more)
members (Open ∷ Word host ∷ Comma ∷ Word user ∷ Comma ∷ Close ∷ more) = followed_by (host_member host) (members more)
members (Open ∷ Word host ∷ Comma ∷ Word user ∷ Comma ∷ Word domain ∷ Close ∷ more) = followed_by (host_member host) (members more)
members _ = None

-- the group that the tokens of the line with this number define: a name, and members after it
abbrev pub group_of : ℕ → List Token → Option GroupLine
group_of number (Word name ∷ more) = option_map (λ members. record { line = number; name = name; members = members }) (members more)
group_of number _ = None

-- the tokens of a line; no word goes over the end of a physical line
abbrev pub tokens_of : LogicalLine → List Token
tokens_of line = tokens (joined_text line.parts)

-- the group that a line defines, if it has the form
abbrev pub group_on : LogicalLine → Option GroupLine
group_on line = group_of line.number (tokens_of line)

-- the groups that lines define
abbrev pub groups_on : List LogicalLine → List GroupLine
groups_on lines = filter_map group_on lines

-- the first of these lines that defines a group
abbrev pub group_named : List GroupLine → List ℕ → Option GroupLine
group_named lines name = find (λ line. bytes_eq name line.name) lines
