-- Findings as a log of SARIF. (SARIF 2.1.0 of OASIS: section 3.27 has the result)
use Rattle.std.specs.Prelude.{ℕ, ◌+◌, Bool, true, false, List, [], Option, None, Some, codes, length, map, option_map, if◌then◌else◌}
use Rattle.std.specs.Str.{chars}
use Rattle.serde_json.specs.Data.{Data, Members, member, no_members, object, string}
use Rattle.desk_remarks.specs.Remark.{is_opinion}
use Rattle.desk_remarks.specs.declared.remark.Remark.{Remark}
use Rattle.desk_origins.specs.Origins.{own_number, own_path}
use Rattle.desk_origins.specs.declared.origins.Origin.{Origin}
use Rattle.desk_findings.specs.Finding.{slice_at}
use Rattle.desk_findings.specs.declared.finding.Finding.{Finding}
use Rattle.desk_findings.specs.declared.finding.Matter.{Matter}
use Rattle.desk_findings.specs.declared.finding.Matter.TheVariants as matter
use Rattle.desk_check.specs.FindingPrints.{message_of, number_in_file, other_of, path_of}
use Rattle.desk_check.specs.IgnoredWarnings.{is_ignored}
use Rattle.desk_sarif.specs.Logs.{line_in, list, log_text, message_data, only, place_in, single, slice_region}
use Rattle.desk_sarif.specs.SarifRules.{log_rules, rule_data, rule_id}

-- an opinion is a note, a fault is an error
abbrev pub remark_level : Remark → List ℕ
remark_level remark = if is_opinion remark then codes "note" else codes "warning"

abbrev pub level_of : Matter → List ℕ
level_of (matter.Fault rule other) = codes "error"
level_of (matter.Contradiction other address) = codes "error"
level_of (matter.Warning kind) = codes "warning"
level_of (matter.Remark remark example) = remark_level remark

-- the column behind the slice of a finding
abbrev pub end_column : Finding → ℕ
end_column finding = finding.column + length (chars (slice_at finding.source.now finding.place))

-- The region of a finding: from the column of its slice to the one behind it, in characters from 1. A file as a whole, whose
-- slice has none, is the point before its first character (section 3.30.2).
abbrev pub region_of : Finding → Data
region_of finding = slice_region (number_in_file finding) finding.column (end_column finding)

-- where a finding is
abbrev pub location_of : Finding → Data
location_of finding = only (codes "physicalLocation") (place_in (path_of finding) (region_of finding))

-- What the line is that a finding names beside its own. That of a fault comes before it; that of a remark need not.
abbrev pub other_words : Matter → List ℕ
other_words (matter.Fault rule other) = codes "the earlier line"
other_words (matter.Contradiction other address) = codes "the earlier line"
other_words (matter.Warning kind) = []
other_words (matter.Remark remark example) = codes "the other line"

-- a member for another line, if there is one, before these
abbrev pub with_other : List ℕ → List Origin → List ℕ → Option ℕ → Members → Members
with_other words origins path None members = members
with_other words origins path (Some line) members = member (codes "relatedLocations") (single (line_in words (own_path origins path line) (own_number origins line))) members

-- What is said of a result that is suppressed, by an option and not in the source, and of one that is not. (Sections 3.27.23 and 3.35: all
-- results of a run say it, or none does.)
abbrev pub suppressions : Bool → Data
suppressions true = single (only (codes "kind") (string (codes "external")))
suppressions false = list []

-- the member for it, if it is said
abbrev pub suppressions_of : Option Bool → Members
suppressions_of None = no_members
suppressions_of (Some suppressed) = member (codes "suppressions") (suppressions suppressed) no_members

-- whether a finding is suppressed, which is said if warnings of some numbers are ignored
abbrev pub is_suppressed : Option (List ℕ) → Finding → Option Bool
is_suppressed ignored finding = option_map (λ numbers. is_ignored numbers finding) ignored

-- a finding as a result
abbrev pub result_of : Option ℕ → Option Bool → Finding → List ℕ → Data
result_of other suppressed finding text = object
    (member (codes "level") (string (level_of finding.matter))
    (member (codes "locations") (single (location_of finding))
    (member (codes "message") (message_data text)
    (with_other (other_words finding.matter) finding.origins.now finding.path.now other
    (member (codes "ruleId") (string (rule_id finding.matter)) (suppressions_of suppressed))))))

abbrev pub result_data : Option (List ℕ) → Finding → Data
result_data ignored finding = result_of (other_of finding.matter) (is_suppressed ignored finding) finding (message_of finding)

-- the log of these findings as it is printed; the warnings of some numbers may be ignored
abbrev pub findings_sarif : Option (List ℕ) → List Finding → List ℕ
findings_sarif ignored findings = log_text (map rule_data log_rules) (map (result_data ignored) findings)
