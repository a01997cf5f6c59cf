-- The users of a site. (passwd(5))
use Rattle.std.specs.Prelude.{ℕ, ◌==◌, Bool, false, not, ◌||◌, Option, None, Result, Ok, is_none, option_and_then, List, [], ◌∷◌, find, length, if◌then◌else◌}
use Rattle.std.specs.Option.{option_map}
use Rattle.std.specs.Str.{bytes_eq}
use Rattle.desk_tables.specs.ColonLines.{field, fields, number_in, skips_line}
use Rattle.desk_tables.specs.Rows.{text_faults, text_table}
use Rattle.desk_tables.specs.Rules.{unless_rule}
use Rattle.desk_tables.specs.Rules.{TableFault}
use Rattle.desk_tables.specs.declared.rules.TableRule.{TableRule}
use Rattle.desk_tables.specs.declared.rules.TableRule.TheVariants.{Fields, Number, Name}
use Rattle.desk_tables.specs.declared.users.User.{User}

-- Whether a line `name:password:uid:gid:gecos:home:shell` breaks a rule: it does not have seven fields; its uid or its gid
-- is not a number; its name is empty. It breaks no other rule.
abbrev pub breaks : List ℕ → TableRule → Bool
breaks line Fields = not (length (fields line) == 7)
breaks line Number = is_none (number_in (field 2 line)) || is_none (number_in (field 3 line))
breaks line Name = length (field 0 line) == 0
breaks line _ = false

-- the rules of a line, in the order in which they are checked
abbrev pub rules : List TableRule
rules = Fields ∷ Number ∷ Name ∷ []

-- the user of a line; there is none if its uid or its gid is not a number
abbrev pub row_of : List ℕ → Option User
row_of line =
    option_and_then (λ uid. option_map (λ gid. record { name = field 0 line; uid = uid; gid = gid }) (number_in (field 3 line))) (number_in (field 2 line))

-- what a line answers
abbrev pub line_answer : List ℕ → Result (Option User) TableRule
line_answer line = if skips_line line then Ok None else unless_rule (find (breaks line) rules) (row_of line)

-- what a text of users answers
abbrev pub read_users : List ℕ → Result (List User) TableFault
read_users text = text_table line_answer text

-- the faults of a passwd file: each faulty line with the first rule that it breaks
abbrev pub user_faults : List ℕ → List TableFault
user_faults text = text_faults line_answer text

-- the user of a name: the first row that has it
abbrev pub user_of_name : List User → List ℕ → Option User
user_of_name users name = find (λ u. bytes_eq name u.name) users

-- the user of a number: the first row that has it, whatever its name
abbrev pub user_of_uid : List User → ℕ → Option User
user_of_uid users uid = find (λ u. u.uid == uid) users
