-- A log of SARIF, the form that code hosts show beside a change, with its rules and its results; and their parts. (SARIF 2.1.0 of OASIS:
-- section 3.11 has the message, 3.13 the log, 3.14 the run, 3.19 the driver, 3.28 to 3.30 locations and regions)
use Rattle.std.specs.Prelude.{ℕ, ◌==◌, ◌||◌, List, [], ◌∷◌, ◌++◌, codes, if◌then◌else◌}
use Rattle.std.specs.Char.{encode_utf8}
use Rattle.std.specs.List.{flat_map}
use Rattle.std.specs.Str.{chars}
use Rattle.serde_json.specs.Data.{Data, array, item, member, no_items, no_members, number, object, string, unsigned}
use Rattle.serde_json.specs.View.{items_of}
use Rattle.serde_json.specs.Written.{compact_text}
use Rattle.desk_sarif.specs.SarifUri.{uri_of}

-- a natural number, an array of these values, and one of a single value
abbrev pub count : ℕ → Data
count n = number (unsigned n)

abbrev pub list : List Data → Data
list values = array (items_of values)

abbrev pub single : Data → Data
single value = array (item value no_items)

-- an object with one member, and one with a text
abbrev pub only : List ℕ → Data → Data
only key value = object (member key value no_members)

abbrev pub text_data : List ℕ → Data
text_data text = only (codes "text") (string text)

-- a character of a message: a brace is doubled, since a single one begins or ends a placeholder (section 3.11.5)
abbrev pub in_message : ℕ → List ℕ
in_message c = if c == 123 || c == 125 then c ∷ c ∷ [] else encode_utf8 c

abbrev pub message_text : List ℕ → List ℕ
message_text text = flat_map in_message (chars text)

-- the message that says a text
abbrev pub message_data : List ℕ → Data
message_data text = text_data (message_text text)

-- the region of a slice: its line, its column, and the column behind it, in characters from 1
abbrev pub slice_region : ℕ → ℕ → ℕ → Data
slice_region line start end = object
    (member (codes "endColumn") (count end)
    (member (codes "startColumn") (count start)
    (member (codes "startLine") (count line) no_members)))

-- a region of the file of this path
abbrev pub place_in : List ℕ → Data → Data
place_in path region = object
    (member (codes "artifactLocation") (only (codes "uri") (string (uri_of path)))
    (member (codes "region") region no_members))

-- this line, as a whole, of the file of this path
abbrev pub line_place : List ℕ → ℕ → Data
line_place path line = place_in path (only (codes "startLine") (count line))

-- the same with these words
abbrev pub line_in : List ℕ → List ℕ → ℕ → Data
line_in words path line = object
    (member (codes "message") (text_data words)
    (member (codes "physicalLocation") (line_place path line) no_members))

-- the program with these rules
abbrev pub driver_with : List Data → Data
driver_with rules = object
    (member (codes "name") (string (codes "exportdesk"))
    (member (codes "rules") (list rules)
    (member (codes "version") (string (codes "1.1.0")) no_members)))

-- the run that has these results; its columns count characters, and not the halves that UTF-16 makes of some
abbrev pub run_with : List Data → List Data → Data
run_with rules results = object
    (member (codes "columnKind") (string (codes "unicodeCodePoints"))
    (member (codes "results") (list results)
    (member (codes "tool") (only (codes "driver") (driver_with rules)) no_members)))

-- the log of these results
abbrev pub log_with : List Data → List Data → Data
log_with rules results = object
    (member (codes "$schema") (string (codes "https://docs.oasis-open.org/sarif/sarif/v2.1.0/errata01/os/schemas/sarif-schema-2.1.0.json"))
    (member (codes "runs") (single (run_with rules results))
    (member (codes "version") (string (codes "2.1.0")) no_members)))

-- the log as it is printed, on a line of its own
abbrev pub log_text : List Data → List Data → List ℕ
log_text rules results = compact_text (log_with rules results) ++ codes "\n"
