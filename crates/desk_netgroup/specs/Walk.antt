-- The order in which the hosts of a group are met. (this project's own, over netgroup(5))
use Rattle.std.specs.Prelude.{ℕ, zero, suc, not, List, [], ◌∷◌, ◌++◌, filter, length, if◌then◌else◌}
use Rattle.std.specs.List.{flat_map}
use Rattle.std.specs.Str.{bytes_eq}
use Rattle.desk_netgroup.specs.Netgroups.{is_among, members_of}
use Rattle.desk_netgroup.specs.declared.group_line.GroupLine.{GroupLine}
use Rattle.desk_netgroup.specs.declared.group_line.Member.{Member}
use Rattle.desk_netgroup.specs.declared.group_line.Member.TheVariants.{Group, Host}

-- the groups but for those of this name
abbrev pub without : List ℕ → List GroupLine → List GroupLine
without name lines = filter (λ line. not (bytes_eq name line.name)) lines

-- The hosts that a walk meets at these members: a triple's host, or first all that a member group leads to, and then what
-- comes after it. A group that was entered is no longer among the groups, so it has no members, as one that is not defined.
-- A walk takes at most so many steps.
abbrev pub hosts_met : ℕ → List GroupLine → List Member → List (List ℕ)
hosts_met zero lines members = []
hosts_met (suc steps) lines [] = []
hosts_met (suc steps) lines (Host name ∷ more) = name ∷ hosts_met steps lines more
hosts_met (suc steps) lines (Group name ∷ more) = hosts_met steps (without name lines) (members_of lines name ++ more)

-- all members of groups
abbrev pub all_members : List GroupLine → List Member
all_members lines = flat_map (λ line. line.members) lines

-- the texts that do not stand before them, each at its first place alone
abbrev pub new_texts : List (List ℕ) → List (List ℕ) → List (List ℕ)
new_texts before [] = []
new_texts before (text ∷ texts) = (if is_among text before then [] else text ∷ []) ++ new_texts (before ++ text ∷ []) texts

-- the hosts of a group in the order in which they are first met, without duplicates; a walk looks at the group, and at each member
-- at most once
unfoldable pub hosts_in_order : List GroupLine → List ℕ → List (List ℕ)
hosts_in_order lines name = new_texts [] (hosts_met (suc (length (all_members lines))) lines (Group name ∷ []))
