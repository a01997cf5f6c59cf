-- What the private contracts of the faults cite.
use Rattle.std.specs.Prelude.{◌≡◌, ℕ, ◌+◌, nat_lt, Bool, List, Some, find, length, if◌then◌else◌}
use Rattle.std.specs.List.{position_or_len}
use Rattle.desk_tables.specs.declared.hosts.HostRow.{HostRow}
use Rattle.desk_netgroup.specs.declared.group_line.GroupLine.{GroupLine}
use Rattle.desk_expect.specs.Form.{named}
use Rattle.desk_expect.specs.Meaning.{is_unknown}
use Rattle.desk_expect.specs.Names.{is_bad_address}
use Rattle.desk_expect.specs.Rules.{breaks, rules}
use Rattle.desk_expect.specs.declared.rules.Rule.{Rule}
use Rattle.desk_expect.specs.declared.rules.Rule.TheVariants as rule

-- the rule is the first that a line of these words breaks
abbrev pub IsFirst : List GroupLine → List HostRow → List (List ℕ) → Rule → Type 0
IsFirst netgroups hosts words rule = find (breaks netgroups hosts words) rules ≡ Some rule

-- the test of a name by a rule
abbrev pub test_of : List GroupLine → List HostRow → Rule → List ℕ → Bool
test_of netgroups hosts rule.BadAddress name = is_bad_address name
test_of netgroups hosts rule.OpenQuote name = is_unknown netgroups hosts name
test_of netgroups hosts rule.Form name = is_unknown netgroups hosts name
test_of netgroups hosts rule.BadAction name = is_unknown netgroups hosts name
test_of netgroups hosts rule.BadPath name = is_unknown netgroups hosts name
test_of netgroups hosts rule.UnknownName name = is_unknown netgroups hosts name
test_of netgroups hosts rule.Nobody name = is_unknown netgroups hosts name

-- the first of these names before and after `but` that passes a test
abbrev pub first_among : (List ℕ → Bool) → List (List ℕ) → List (List ℕ) → ℕ
first_among passes whom but =
    if nat_lt (position_or_len passes (named whom)) (length (named whom)) then position_or_len passes (named whom)
    else length whom + 1 + position_or_len passes but
