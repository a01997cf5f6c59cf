-- The rules of a line of expectations. (this project's own)
use Rattle.std.specs.Prelude.{ℕ, ◌^◌, not, Bool, false, List, [], ◌∷◌, codes, is_none}
use Rattle.std.specs.List.{list_any, range_with_len}
use Rattle.desk_text.specs.Said.{Said, row}
use Rattle.desk_tables.specs.declared.hosts.HostRow.{HostRow}
use Rattle.desk_netgroup.specs.declared.group_line.GroupLine.{GroupLine}
use Rattle.desk_expect.specs.Action.{action_of}
use Rattle.desk_expect.specs.Form as form
use Rattle.desk_expect.specs.Meaning.{Subject, is_meant, is_unknown}
use Rattle.desk_expect.specs.Names.{is_bad_address}
use Rattle.desk_expect.specs.Scope.{read_scope}
use Rattle.desk_expect.specs.declared.rules.Rule.{Rule}
use Rattle.desk_expect.specs.declared.rules.Rule.TheVariants as rule

-- what is printed of a rule: its number, its name, and what is said of the slice that breaks it, after the slice
abbrev pub said : Rule → Said
said rule.OpenQuote = row 1 (codes "OpenQuote") (codes "begins with a quote that is not closed on its physical line: close it, or write a backslash before a quote in a name")
said rule.Form = row 2 (codes "Form") (codes "is not where it belongs: write WHOM [but NAME..] may [not] ACTION DIR.., as in everybody but adm may not write /usr/...")
said rule.BadAction = row 3 (codes "BadAction") (codes "is not an action: write mount, write, root, sys, krb5, krb5i or krb5p")
said rule.BadPath = row 4 (codes "BadPath") (codes "is not a directory: one begins with /, has no component . or .., has ... after its last / alone, no NUL byte, and at most 1024 bytes before /...")
said rule.BadAddress = row 5 (codes "BadAddress") (codes "is not an address, a network or a range: write them as 10.0.0.5, 10.0.0.0/8 or 10.0.0.5-10.0.0.9")
said rule.UnknownName = row 6 (codes "UnknownName") (codes "is not a known netgroup or host: correct it, write blanks between names, or give the tables that have it")
said rule.Nobody = row 7 (codes "Nobody") (codes "is whom the line is about, and that is nobody: no address is meant")

abbrev pub rule_number : Rule → ℕ
rule_number rule = (said rule).number

abbrev pub rule_name : Rule → List ℕ
rule_name rule = (said rule).name

abbrev pub rule_sentence : Rule → List ℕ
rule_sentence rule = (said rule).sentence

-- whom a line of these words is about
abbrev pub subject_of : List (List ℕ) → Subject
subject_of words = record { everybody = form.is_everybody (form.whom words); names = form.named (form.whom words); but = form.but words }

-- none of the numbers below one passes a test
unfoldable pub none_below : ℕ → (ℕ → Bool) → Bool
none_below count passes = not (list_any passes (range_with_len 0 count))

-- no address is meant
abbrev pub is_nobody : List GroupLine → List HostRow → Subject → Bool
is_nobody netgroups hosts subject = none_below (2 ^ 32) (is_meant netgroups hosts subject)

-- A line of these words breaks a rule: it has not the form of one; its action is none; a directory cannot be read; a name is
-- written like an address, a network or a range and is none; a name is not known; or no address is meant.
abbrev pub breaks : List GroupLine → List HostRow → List (List ℕ) → Rule → Bool
breaks netgroups hosts words rule.OpenQuote = false
breaks netgroups hosts words rule.Form = not (form.has_form words)
breaks netgroups hosts words rule.BadAction = is_none (action_of (form.action words))
breaks netgroups hosts words rule.BadPath = list_any (λ dir. is_none (read_scope dir)) (form.dirs words)
breaks netgroups hosts words rule.BadAddress = list_any is_bad_address (form.names words)
breaks netgroups hosts words rule.UnknownName = list_any (is_unknown netgroups hosts) (form.names words)
breaks netgroups hosts words rule.Nobody = is_nobody netgroups hosts (subject_of words)

-- the rules of a line whose quotes close, in the order in which they are checked
abbrev pub rules : List Rule
rules = rule.Form ∷ rule.BadAction ∷ rule.BadPath ∷ rule.BadAddress ∷ rule.UnknownName ∷ rule.Nobody ∷ []
