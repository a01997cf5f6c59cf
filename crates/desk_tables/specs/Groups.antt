-- The groups of a site. (group(5))
use Rattle.std.specs.Prelude.{ℕ, ◌==◌, Bool, false, not, Option, None, Result, Ok, is_none, List, [], ◌∷◌, find, filter, map, length, if◌then◌else◌}
use Rattle.std.specs.List.{list_any, slice_split}
use Rattle.std.specs.Option.{option_map}
use Rattle.std.specs.Str.{bytes_eq}
use Rattle.desk_tables.specs.ColonLines.{field, fields, number_in, skips_line}
use Rattle.desk_tables.specs.Rows.{text_faults, text_table}
use Rattle.desk_tables.specs.Rules.{unless_rule}
use Rattle.desk_tables.specs.Rules.{TableFault}
use Rattle.desk_tables.specs.declared.rules.TableRule.{TableRule}
use Rattle.desk_tables.specs.declared.rules.TableRule.TheVariants.{Fields, Number, Name}
use Rattle.desk_tables.specs.declared.groups.Group.{Group}
use Rattle.desk_tables.specs.declared.users.User.{User}

-- Whether a line `group:password:gid:member,member` breaks a rule: it does not have four fields; its gid is not a number;
-- its name is empty. It breaks no other rule.
abbrev pub breaks : List ℕ → TableRule → Bool
breaks line Fields = not (length (fields line) == 4)
breaks line Number = is_none (number_in (field 2 line))
breaks line Name = length (field 0 line) == 0
breaks line _ = false

-- the rules of a line, in the order in which they are checked
abbrev pub rules : List TableRule
rules = Fields ∷ Number ∷ Name ∷ []

-- the members that a text names, between its commas; empty ones are dropped
abbrev pub members_in : List ℕ → List (List ℕ)
members_in text = filter (λ member. not (length member == 0)) (slice_split (λ b. b == 44) text)

-- the group of a line; there is none if its gid is not a number
abbrev pub row_of : List ℕ → Option Group
row_of line = option_map (λ gid. record { name = field 0 line; gid = gid; members = members_in (field 3 line) }) (number_in (field 2 line))

-- what a line answers
abbrev pub line_answer : List ℕ → Result (Option Group) TableRule
line_answer line = if skips_line line then Ok None else unless_rule (find (breaks line) rules) (row_of line)

-- what a text of groups answers
abbrev pub read_groups : List ℕ → Result (List Group) TableFault
read_groups text = text_table line_answer text

-- the faults of a group file: each faulty line with the first rule that it breaks
abbrev pub group_faults : List ℕ → List TableFault
group_faults text = text_faults line_answer text

-- the group of a name: the first row that has it
abbrev pub group_of_name : List Group → List ℕ → Option Group
group_of_name groups name = find (λ g. bytes_eq name g.name) groups

-- a group that lists a member
abbrev pub has_member : List ℕ → Group → Bool
has_member name group = list_any (bytes_eq name) group.members

-- each number once, at its first place
abbrev pub distinct : List ℕ → List ℕ
distinct [] = []
distinct (n ∷ ns) = n ∷ filter (λ m. not (m == n)) (distinct ns)

-- the gids of a user: its own, then those of all groups that list its name, in the order of the table, without duplicates
abbrev pub gids_of : List Group → User → List ℕ
gids_of groups user = distinct (user.gid ∷ map (λ g. g.gid) (filter (has_member user.name) groups))
