-- What the private contracts of the rules cite.
use Rattle.std.specs.Prelude.{◌≡◌, ℕ, Bool, false, nat_le, List, [], if◌then◌else◌}
use Rattle.std.specs.List.{flat_map}
use Rattle.desk_tables.specs.declared.credential_text.CredFault.{CredFault}
use Rattle.desk_exports.specs.Options.{has_valued}
use Rattle.desk_exports.specs.Rules.{RuleGroup, cred_has, group}
use Rattle.desk_exports.specs.Tables.{TableRows}
use Rattle.desk_exports.specs.declared.grammar.GrammarLine.{GrammarLine}
use Rattle.desk_exports.specs.declared.rules.Group as code
use Rattle.desk_exports.specs.declared.rules.Needs.{Needs}
use Rattle.desk_exports.specs.declared.rules.Needs.TheVariants.{Words, Options, Values, Credentials}
use Rattle.desk_exports.specs.declared.rules.Rule.{Rule}

-- how few lines have what is needed
abbrev pub rank : Needs → ℕ
rank Words = 0
rank Options = 1
rank Values = 2
rank Credentials = 3

-- a line that has this has what is needed
abbrev pub is_had : Needs → Needs → Bool
is_had has needs = nat_le (rank needs) (rank has)

-- a group of the code
abbrev pub group_of : code.Group → RuleGroup
group_of g = group g.needs g.rules.now

-- those of these rules that a line can break which has this
abbrev pub asked : Needs → List RuleGroup → List Rule
asked has groups = flat_map (λ g. if is_had has g.needs then g.rules else []) groups

-- a line has no more than this of what rules need
abbrev pub HasAtMost : TableRows → GrammarLine → Needs → Type 0
HasAtMost tables line Words = line.settings ≡ []
HasAtMost tables line Options = has_valued line.settings ≡ false
HasAtMost tables line Values = (fault : CredFault) → cred_has tables fault line.settings ≡ false
HasAtMost tables line Credentials = Unit {0}
