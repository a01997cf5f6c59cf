-- How findings are printed as JSON. (RFC 8259; the members are this project's own)
use Rattle.std.specs.Prelude.{ℕ, ◌/◌, ◌%◌, List, [], ◌∷◌, ◌++◌, Option, None, Some, codes, false, if◌then◌else◌}
use Rattle.std.specs.Char.{encode_utf8, is_control}
use Rattle.std.specs.Fmt.{decimal, digit_glyph}
use Rattle.std.specs.List.{flat_map}
use Rattle.std.specs.Option.{option_map}
use Rattle.std.specs.Str.{chars}
use Rattle.serde_json.specs.Data.{Data, Members, member, no_members, number, object, string, unsigned}
use Rattle.serde_json.specs.Written.{compact_text}
use Rattle.desk_text.specs.Address as addresses
use Rattle.desk_text.specs.Address.{addr_text}
use Rattle.desk_text.specs.Path.{path_text}
use Rattle.desk_text.specs.declared.address.Addr.{Addr}
use Rattle.desk_origins.specs.Origins.{origin_of, own_number}
use Rattle.desk_origins.specs.declared.origins.Origin.{Origin}
use Rattle.desk_findings.specs.Finding.{kind_word, name_of, number_of, slice_at}
use Rattle.desk_findings.specs.declared.finding.Finding.{Finding}
use Rattle.desk_findings.specs.declared.finding.Matter.{Matter}
use Rattle.desk_findings.specs.declared.finding.Matter.TheVariants as matter
use Rattle.desk_check.specs.FindingPrints.{message_of, number_in_file, other_of, path_of}

-- the address of a contradiction or a remark
abbrev pub address_of : Matter → Option Addr
address_of (matter.Fault rule other) = None
address_of (matter.Contradiction other address) = Some address
address_of (matter.Warning kind) = None
address_of (matter.Remark remark example) = option_map (λ shown. shown.address) example

-- a member for another line, for an address, and for a directory, if there is one, before these
abbrev pub with_other : List Origin → Option ℕ → Members → Members
with_other origins None members = members
with_other origins (Some line) members = member (codes "other") (number (unsigned (own_number origins line))) members

-- a member for the path of its file, if several texts were read as one, before these
abbrev pub with_path_of : Option Origin → Members → Members
with_path_of None members = members
with_path_of (Some origin) members = member (codes "other_path") (string origin.path) members

abbrev pub with_other_path : List Origin → Option ℕ → Members → Members
with_other_path origins None members = members
with_other_path origins (Some line) members = with_path_of (origin_of origins line) members

abbrev pub with_address : Option Addr → Members → Members
with_address None members = members
with_address (Some address) members = member (codes "address") (string (addr_text (addresses.number_of address))) members

abbrev pub with_directory : Option (List (List ℕ)) → Members → Members
with_directory None members = members
with_directory (Some directory) members = member (codes "directory") (string (path_text directory)) members

-- a finding as an object, its members in the byte order of their keys
abbrev pub object_of : Option Addr → Option ℕ → Finding → List ℕ → Data
object_of address other finding text = object (with_address address
    (member (codes "column") (number (unsigned finding.column))
    (with_directory finding.directory
    (member (codes "kind") (string (kind_word finding.matter))
    (member (codes "line") (number (unsigned (number_in_file finding)))
    (member (codes "name") (string (name_of finding.matter))
    (with_other finding.origins.now other
    (with_other_path finding.origins.now other
    (member (codes "path") (string (path_of finding))
    (member (codes "rule") (number (unsigned (number_of finding.matter)))
    (member (codes "text") (string text)
    (member (codes "word") (string (slice_at finding.source.now finding.place)) no_members))))))))))))

abbrev pub value_of : Finding → Data
value_of finding = object_of (address_of finding.matter) (other_of finding.matter) finding (message_of finding)

-- A character of JSON as it is shown. JSON leaves only some control characters as they are, and those in strings alone, where
-- `\u009b` says the same.
abbrev pub shown_in_json : ℕ → List ℕ
shown_in_json c =
    if is_control c then codes "\\u00" ++ digit_glyph false (c / 16) ∷ digit_glyph false (c % 16) ∷ [] else encode_utf8 c

-- a finding
abbrev pub object_text : Finding → List ℕ
object_text finding = flat_map shown_in_json (chars (compact_text (value_of finding)))

-- all findings in their order, with commas between them
abbrev pub elements_text : List Finding → List ℕ
elements_text [] = []
elements_text (finding ∷ more) = object_text finding ++ flat_map (λ later. codes "," ++ object_text later) more

-- the list of them, on a line of its own
abbrev pub findings_json : List Finding → List ℕ
findings_json findings = codes "[" ++ elements_text findings ++ codes "]\n"

-- the object that has a list of them, and how many warnings are ignored, on a line of its own
abbrev pub heard_json : ℕ → List Finding → List ℕ
heard_json ignored findings = codes "{\"findings\":[" ++ elements_text findings ++ codes "],\"ignored\":" ++ decimal ignored ++ codes "}\n"
