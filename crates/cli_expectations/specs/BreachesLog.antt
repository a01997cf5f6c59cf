-- What breaks expectations, as a log of SARIF. (SARIF 2.1.0 of OASIS: section 3.27 has the result; what it says is this project's own)
use Rattle.std.specs.Prelude.{ℕ, ◌-◌, ◌==◌, List, [], ◌∷◌, ◌++◌, Option, None, Some, codes, length, map, slice_index_or, take, if◌then◌else◌}
use Rattle.std.specs.List.{flat_map}
use Rattle.serde_json.specs.Data.{Data, member, no_members, object, string}
use Rattle.desk_origins.specs.Origins.{own_number, own_path}
use Rattle.desk_policy.specs.Policy.{Content}
use Rattle.desk_policy.specs.Prints.{mount_text}
use Rattle.desk_policy.specs.SiteFile.{exports_file_name}
use Rattle.desk_expect.specs.ReportText.{BrokenValue, section_text}
use Rattle.desk_sarif.specs.Logs.{line_in, line_place, list, log_text, message_data, only, single}
use Rattle.cli_output.specs.ShownLines.{shown_lines}
use Rattle.cli_expectations.specs.LogRules.{log_rules, rule_data, rule_id}
use Rattle.cli_expectations.specs.NamedLines.{breaking_lines}
use Rattle.cli_expectations.specs.declared.log_rules.LogRule.TheVariants.{Broken}
use Rattle.cli_expectations.specs.declared.named_lines.NamedLine.{NamedLine}

-- the file that has a line of the exports: the exports text, or in a database that of its file system, as `exports:/usr`; of exports texts that
-- were read as one, the first
abbrev pub file_of : Option (List ℕ) → Content → NamedLine → List ℕ
file_of (Some path) content line = path
file_of None content line = exports_file_name (mount_text content line.fs.0)

-- a line of a policy as a place, given its file: if several texts were read as one, in its own text
abbrev pub place_of_line : Content → List ℕ → ℕ → Data
place_of_line content path line = line_in (codes "a line that breaks it") (own_path content.origins path line) (own_number content.origins line)

-- a line that breaks an expectation, as a place
abbrev pub line_data : Option (List ℕ) → Content → NamedLine → Data
line_data exports content line = place_of_line content (file_of exports content line) line.line

-- the line of words that are broken
abbrev pub broken_words : List ℕ → List ℕ
broken_words words = codes "broken: " ++ words ++ 10 ∷ []

-- a text without the line end at its end
abbrev pub without_line_end : List ℕ → List ℕ
without_line_end text = if slice_index_or text (length text - 1) 0 == 10 then take (length text - 1) text else text

-- what a report as text has of an expectation behind its file and its line, but for its last line end
abbrev pub broken_text : Content → BrokenValue → List ℕ
broken_text content broken = without_line_end (broken_words broken.expectation.text ++ flat_map (section_text content) broken.sections)

-- the message of an expectation: that, as it is shown
abbrev pub broken_message : Content → BrokenValue → Data
broken_message content broken = message_data (shown_lines (broken_text content broken))

-- an expectation of the file of this path as a result
abbrev pub broken_result : Option (List ℕ) → Content → List ℕ → BrokenValue → Data
broken_result exports content path broken = object
    (member (codes "level") (string (codes "error"))
    (member (codes "locations") (single (only (codes "physicalLocation") (line_place path broken.expectation.line)))
    (member (codes "message") (broken_message content broken)
    (member (codes "relatedLocations") (list (map (line_data exports content) (breaking_lines broken)))
    (member (codes "ruleId") (string (rule_id Broken)) no_members)))))

-- the log of those that are broken, in their order
abbrev pub broken_log : Option (List ℕ) → Content → List ℕ → List BrokenValue → List ℕ
broken_log exports content path broken = log_text (map rule_data log_rules) (map (broken_result exports content path) broken)
