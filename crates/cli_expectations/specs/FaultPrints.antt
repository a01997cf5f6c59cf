-- How the faults of a text of expectations are printed. (this project's own)
use Rattle.std.specs.Prelude.{ℕ, ◌+◌, List, [], ◌∷◌, ◌++◌, Some, codes, length, slice_range, take}
use Rattle.std.specs.Fmt.{decimal}
use Rattle.std.specs.List.{flat_map}
use Rattle.std.specs.Str.{chars}
use Rattle.desk_text.specs.Place.{line_at}
use Rattle.desk_text.specs.declared.place.Place.{Place}
use Rattle.desk_text.specs.declared.reading.LineFault.{LineFault}
use Rattle.desk_expect.specs.Rules.{rule_name, rule_number, rule_sentence}
use Rattle.desk_expect.specs.declared.rules.PlacedFault.{PlacedFault}
use Rattle.desk_expect.specs.declared.rules.Rule.{Rule}
use Rattle.desk_check.specs.FindingPrints.{marked_line, shown_word}
use Rattle.desk_shown.specs.ShownText.{shown_text}

-- the number of a faulty line, and the rule that it breaks
abbrev pub line_text : ℕ → List ℕ
line_text line = codes "fault expectations line " ++ decimal line

abbrev pub broken_rule : Rule → List ℕ
broken_rule rule = codes " rule " ++ decimal (rule_number rule) ++ 32 ∷ rule_name rule ++ 10 ∷ []

-- the line of a fault, as `fault expectations line 4 rule 6 UnknownName`
abbrev pub fault_line : LineFault Rule → List ℕ
fault_line fault = line_text fault.line ++ broken_rule fault.rule

-- where it is, as `promises:4:15: `
abbrev pub position_text : List ℕ → List ℕ → Place → List ℕ
position_text path line place = shown_text path ++ 58 ∷ decimal place.line ++ 58 ∷ decimal (1 + length (chars (take place.start line))) ++ codes ": "

-- which rule it breaks, as `fault 6 UnknownName: `
abbrev pub rule_text : Rule → List ℕ
rule_text rule = codes "fault " ++ decimal (rule_number rule) ++ 32 ∷ rule_name rule ++ codes ": "

-- the slice at fault, in quotes, as a word
abbrev pub slice_text : List ℕ → Place → List ℕ
slice_text line place = codes "\"" ++ shown_word (slice_range line place.start place.end) ++ codes "\""

-- what is said of it
abbrev pub said_text : Rule → List ℕ
said_text rule = 32 ∷ rule_sentence rule

-- The fault in the form in which `check` prints a finding, as `promises:4:15: fault 6 UnknownName: "freinds" is not a known netgroup or
-- host: ..`; and below it the physical line, with carets under the slice.
abbrev pub finding_text : List ℕ → List ℕ → PlacedFault → List ℕ
finding_text path line placed =
    position_text path line placed.place ++ rule_text placed.fault.rule ++ slice_text line placed.place ++ said_text placed.fault.rule ++ 10 ∷ marked_line line (Some placed.place)

-- the same of a fault of a text: the line is that of its place
abbrev pub finding_in : List ℕ → List ℕ → PlacedFault → List ℕ
finding_in path text placed = finding_text path (line_at text placed.place.line) placed

-- all of them, one after the other
abbrev pub findings_text : List ℕ → List ℕ → List PlacedFault → List ℕ
findings_text path text found = flat_map (finding_in path text) found
