-- What a finding tells. (this project's own)
use Rattle.std.specs.Prelude.{ℕ, ◌+◌, Bool, true, false, List, [], Option, Some, None, codes, count_by, slice_range, take}
use Rattle.std.specs.Fmt.{is_char_start}
use Rattle.std.specs.List.{All}
use Rattle.std.specs.Option.{IfSome}
use Rattle.desk_text.specs.Place.{LiesWithin}
use Rattle.desk_text.specs.declared.place.Place.{Place}
use Rattle.desk_policy.specs.SiteFault.{rule_name, rule_number}
use Rattle.desk_policy.specs.Warning.{kind_name, kind_number}
use Rattle.desk_policy.specs.declared.site_fault.SiteRule.TheVariants as rule
use Rattle.desk_remarks.specs.Remark.{remark_name, remark_number}
use Rattle.desk_findings.specs.declared.finding.Finding.{Finding}
use Rattle.desk_findings.specs.declared.finding.Matter.{Matter}
use Rattle.desk_findings.specs.declared.finding.Matter.TheVariants as matter

-- a finding about this is a fault, and not a warning
abbrev pub is_fault : Matter → Bool
is_fault (matter.Fault rule other) = true
is_fault (matter.Contradiction other address) = true
is_fault (matter.Warning kind) = false
is_fault (matter.Remark remark example) = false

-- the word for that
abbrev pub kind_word : Matter → List ℕ
kind_word (matter.Fault rule other) = codes "fault"
kind_word (matter.Contradiction other address) = codes "fault"
kind_word (matter.Warning kind) = codes "warning"
kind_word (matter.Remark remark example) = codes "warning"

-- the number of the rule, or of the kind of warning
abbrev pub number_of : Matter → ℕ
number_of (matter.Fault rule other) = rule_number rule
number_of (matter.Contradiction other address) = rule_number rule.Contradiction
number_of (matter.Warning kind) = kind_number kind
number_of (matter.Remark remark example) = remark_number remark

-- and its name
abbrev pub name_of : Matter → List ℕ
name_of (matter.Fault rule other) = rule_name rule
name_of (matter.Contradiction other address) = rule_name rule.Contradiction
name_of (matter.Warning kind) = kind_name kind
name_of (matter.Remark remark example) = remark_name remark

-- how many characters the bytes of a text begin (UTF-8: each byte but 128 to 191)
abbrev pub character_count : List ℕ → ℕ
character_count bytes = count_by is_char_start bytes

-- the number of the physical line, the column in it, in characters, and the slice: of a file as a whole 1, 1 and none
abbrev pub line_at : Option Place → ℕ
line_at None = 1
line_at (Some place) = place.line

abbrev pub column_at : List ℕ → Option Place → ℕ
column_at source None = 1
column_at source (Some place) = 1 + character_count (take place.start source)

abbrev pub slice_at : List ℕ → Option Place → List ℕ
slice_at source None = []
slice_at source (Some place) = slice_range source place.start place.end

-- The slice of the finding lies in its line.
abbrev pub HasSlice : Finding → Type 0
HasSlice finding = IfSome finding.place (LiesWithin finding.source.now)

-- so do those of all
abbrev pub HaveSlices : List Finding → Type 0
HaveSlices findings = All HasSlice findings
