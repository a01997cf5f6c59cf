-- How findings are printed. (this project's own)
use Rattle.std.specs.Prelude.{ℕ, ◌==◌, ◌+◌, ◌-◌, ◌≤◌, Bool, not, List, [], ◌++◌, Option, Some, None, codes, count_by, length, min, nat_lt, slice_range, if◌then◌else◌}
use Rattle.std.specs.Fmt.{decimal}
use Rattle.std.specs.Fmt.Cut.{floor_char_boundary}
use Rattle.std.specs.List.{flat_map}
use Rattle.std.specs.Option.{option_copied, option_map}
use Rattle.std.specs.Str.{IsCharBoundary, chars}
use Rattle.desk_text.specs.Address as addresses
use Rattle.desk_text.specs.Address.{addr_text}
use Rattle.desk_text.specs.Path.{path_text}
use Rattle.desk_text.specs.declared.address.Addr.{Addr}
use Rattle.desk_text.specs.declared.place.Place.{Place}
use Rattle.desk_policy.specs.SiteFault.{rule_sentence}
use Rattle.desk_policy.specs.Warning.{kind_sentence}
use Rattle.desk_remarks.specs.Remark.{other_line_of, remark_sentence}
use Rattle.desk_remarks.specs.declared.remark.Example.{Example}
use Rattle.desk_remarks.specs.declared.remark.OtherLine.{OtherLine}
use Rattle.desk_remarks.specs.declared.remark.OtherLine.TheVariants.{First, Grants, Taken}
use Rattle.desk_remarks.specs.declared.remark.Remark.{Remark}
use Rattle.desk_origins.specs.Origins.{line_name, own_number, own_path}
use Rattle.desk_origins.specs.declared.origins.Origin.{Origin}
use Rattle.desk_findings.specs.Finding.{is_fault, kind_word, line_at, name_of, number_of, slice_at}
use Rattle.desk_findings.specs.declared.finding.Finding.{Finding}
use Rattle.desk_findings.specs.declared.finding.Matter.{Matter}
use Rattle.desk_findings.specs.declared.finding.Matter.TheVariants as matter
use Rattle.desk_check.specs.Hints.{hint}
use Rattle.desk_shown.specs.ShownText.{blanks, carets, shown_line, shown_text}
use Rattle.desk_check.specs.declared.finding_prints.Excerpt.{Excerpt}

-- how many bytes of a line are shown before the beginning of a slice, and from it on: of a line of at most 200 all
abbrev pub reach : List ℕ → ℕ
reach line = if nat_lt 200 (length line) then 100 else 200

-- the part of a line that is shown with a slice that begins there: it is cut where a character begins
abbrev pub excerpt : List ℕ → ℕ → Excerpt
excerpt line start = record {
  start = floor_char_boundary line (start - reach line);
  end = if nat_lt (start + reach line) (length line) then floor_char_boundary line (start + reach line) else length line;
}

-- how many characters of a word are cut off, as `.. (and 300 more characters)`
abbrev pub more_text : ℕ → List ℕ
more_text count = codes ".. (and " ++ decimal count ++ codes " more characters)"

-- this part of a word, from its beginning on, and how many characters are cut off behind it
abbrev pub cut_text : List ℕ → Excerpt → List ℕ
cut_text word part = shown_text (slice_range word part.start part.end) ++ more_text (length (chars (slice_range word part.end (length word))))

-- a word; or of one of more than 200 characters its beginning, as an excerpt of a line has it, and how many characters are cut off
abbrev pub shown_word : List ℕ → List ℕ
shown_word word = if nat_lt 200 (length (chars word)) then cut_text word (excerpt word 0) else shown_text word

-- what the sentence is about: the slice in quotes, as a word, or the file as a whole
abbrev pub subject : List ℕ → Option Place → List ℕ
subject source None = codes "the file"
subject source (Some place) = codes "\"" ++ shown_word (slice_at source (Some place)) ++ codes "\""

-- the earlier line of a netgroup, if there is one
abbrev pub other_text : List Origin → Option ℕ → List ℕ
other_text origins None = []
other_text origins (Some line) = codes ": line " ++ line_name origins line

-- what shows a remark: a line, and an address at which it is the first that is selected
abbrev pub shown_by : List Origin → ℕ → Addr → List ℕ
shown_by origins line address = codes ", beginning with line " ++ line_name origins line ++ codes " for " ++ addr_text (addresses.number_of address)

-- what the server lets a client mount, by its directory or by -alldirs alone; and what to write if that is meant
abbrev pub granted_text : Option (List (List ℕ)) → List ℕ
granted_text None = codes "each directory of the file system"
granted_text (Some directory) = shown_text (path_text directory)

abbrev pub remedy_of : Option (List (List ℕ)) → List ℕ
remedy_of None = codes "write -alldirs"
remedy_of (Some directory) = codes "list the directory"

-- by which line that is, and what to do about it
abbrev pub remedy_text : List Origin → ℕ → List ℕ → List ℕ
remedy_text origins line remedy =
    codes " by line " ++ line_name origins line ++ codes ": " ++ remedy ++ codes " here as well if that is meant, else keep the client out of the network of line " ++ line_name origins line
    ++ codes ", or give it a file system of its own"

-- the client of this address may mount more by this line
abbrev pub wider_text : List Origin → ℕ → Addr → Option (List (List ℕ)) → List ℕ
wider_text origins line address directory =
    codes "mountd(8) also lets " ++ addr_text (addresses.number_of address) ++ codes " mount " ++ granted_text directory ++ remedy_text origins line (remedy_of directory)

-- mountd(8) may leave a line out because of this earlier one
abbrev pub taken_text : List Origin → ℕ → List ℕ
taken_text origins line = codes "mountd(8) takes one line for a client and a file system, and may leave this one out, since line " ++ line_name origins line ++ codes " has "

-- it has a client of this address
abbrev pub repeated_text : List Origin → ℕ → Addr → List ℕ
repeated_text origins line address = taken_text origins line ++ addr_text (addresses.number_of address) ++ codes ": write the directories on one line"

-- what is said of a line, with the line, the address and the directory that show it
abbrev pub sentence_with : List Origin → OtherLine → List ℕ → ℕ → Addr → Option (List (List ℕ)) → List ℕ
sentence_with origins First sentence line address directory = sentence ++ shown_by origins line address
sentence_with origins Grants sentence line address directory = wider_text origins line address directory
sentence_with origins Taken sentence line address directory = repeated_text origins line address

abbrev pub remark_with : List Origin → Remark → ℕ → Addr → Option (List (List ℕ)) → List ℕ
remark_with origins said line address directory = sentence_with origins (other_line_of said) (remark_sentence said) line address directory

-- what is said of a line, with what shows it, if anything does
abbrev pub remark_text : List Origin → Remark → Option Example → Option (List (List ℕ)) → List ℕ
remark_text origins said None directory = remark_sentence said
remark_text origins said (Some shown) directory = remark_with origins said shown.line shown.address directory

-- the sentence, as `"-maprot" is not an option of exports(5)`
abbrev pub sentence : List Origin → List ℕ → Option Place → Matter → Option (List (List ℕ)) → List ℕ
sentence origins source place (matter.Fault rule other) directory = subject source place ++ codes " " ++ rule_sentence rule ++ other_text origins other
sentence origins source place (matter.Contradiction other address) directory = codes "line " ++ line_name origins other ++ codes " has other terms for " ++ addr_text (addresses.number_of address)
sentence origins source place (matter.Warning kind) directory = subject source place ++ codes " " ++ kind_sentence kind
sentence origins source place (matter.Remark said example) directory = remark_text origins said example directory

-- a hint, if there is one
abbrev pub hint_text : Option (List ℕ) → List ℕ
hint_text None = []
hint_text (Some words) = codes "; " ++ words

-- the sentence with its hint
abbrev pub message : List Origin → List ℕ → Option Place → Matter → Option (List (List ℕ)) → List ℕ
message origins source place matter directory = sentence origins source place matter directory ++ hint_text (hint matter (slice_at source place))

-- the message of a finding
abbrev pub message_of : Finding → List ℕ
message_of finding = message finding.origins.now finding.source.now finding.place finding.matter finding.directory

-- the path of the file that has the line of a finding, and the number of the line there
abbrev pub path_of : Finding → List ℕ
path_of finding = own_path finding.origins.now finding.path.now (line_at finding.place)

abbrev pub number_in_file : Finding → ℕ
number_in_file finding = own_number finding.origins.now (line_at finding.place)

-- where a finding is, as `exports:12:6: `
abbrev pub position_text : Finding → List ℕ
position_text finding = shown_text (path_of finding) ++ codes ":" ++ decimal (number_in_file finding) ++ codes ":" ++ decimal finding.column ++ codes ": "

-- what it is, as `fault 5 UnknownOption: `
abbrev pub matter_text : Matter → List ℕ
matter_text matter = kind_word matter ++ codes " " ++ decimal (number_of matter) ++ codes " " ++ name_of matter ++ codes ": "

-- the first line of a finding, as `exports:12:6: fault 5 UnknownOption: "-maprot" is not an option of exports(5)`
abbrev pub headline : Finding → List ℕ
headline finding = position_text finding ++ matter_text finding.matter ++ message_of finding ++ codes "\n"

-- such a part is text, with the byte where the slice begins within it or at its end
pub record IsAround (line : List ℕ) (start : ℕ) (part : Excerpt) : Type 0 where
  pub begins : IsCharBoundary line part.start
  pub ends : IsCharBoundary line part.end
  pub before : part.start ≤ start
  pub behind : start ≤ part.end

-- dots in place of what is cut off
abbrev pub dots_if : Bool → List ℕ
dots_if cut = if cut then codes "..." else []

-- that part, with dots for what is before it and behind it
abbrev pub excerpt_text : List ℕ → Excerpt → List ℕ
excerpt_text line part =
    dots_if (nat_lt 0 part.start) ++ shown_line (slice_range line part.start part.end) ++ dots_if (nat_lt part.end (length line)) ++ codes "\n"

-- a line of carets under what that part has of the slice
abbrev pub marks : List ℕ → Place → Excerpt → List ℕ
marks line place part =
    (if nat_lt 0 part.start then codes "   " else []) ++ blanks (slice_range line part.start place.start) ++ carets (slice_range line place.start (min place.end part.end)) ++ codes "\n"

-- the line of the file, or what is shown of a long one, and a line of carets under the slice; nothing for a file as a whole
abbrev pub marked_line : List ℕ → Option Place → List ℕ
marked_line source None = []
marked_line source (Some place) = excerpt_text source (excerpt source place.start) ++ marks source place (excerpt source place.start)

-- the other line, of what has one
abbrev pub other_of : Matter → Option ℕ
other_of (matter.Fault rule other) = other
other_of (matter.Contradiction other address) = Some other
other_of (matter.Warning kind) = None
other_of (matter.Remark said example) = option_map (λ shown. shown.line) example

-- a line that is shown below the marked one: its place, as `exports:4:1: the other line`, and the line
abbrev pub other_line_text : List Origin → List ℕ → ℕ → List ℕ → List ℕ
other_line_text origins path number line = shown_text (own_path origins path number) ++ codes ":" ++ decimal (own_number origins number) ++ codes ":1: the other line\n" ++ excerpt_text line (excerpt line 0)

-- the other line, if it is shown
abbrev pub beside_by : List Origin → List ℕ → Option ℕ → Option (List ℕ) → List ℕ
beside_by origins path None line = []
beside_by origins path (Some number) None = []
beside_by origins path (Some number) (Some line) = other_line_text origins path number line

abbrev pub beside_text : Finding → List ℕ
beside_text finding = beside_by finding.origins.now finding.path.now (other_of finding.matter) (option_copied finding.beside)

-- the lines of a finding: the marked one, and the other one
abbrev pub lines_text : Finding → List ℕ
lines_text finding = marked_line finding.source.now finding.place ++ beside_text finding

-- a finding
abbrev pub finding_text : Bool → Finding → List ℕ
finding_text brief finding = headline finding ++ (if brief then [] else lines_text finding)

-- so many of what this word says, as `1 fault` and `2 faults`
abbrev pub counted : ℕ → List ℕ → List ℕ
counted count word = decimal count ++ codes " " ++ word ++ (if count == 1 then [] else codes "s")

-- how many faults and warnings there are
abbrev pub fault_count : List Finding → ℕ
fault_count findings = count_by (λ finding. is_fault finding.matter) findings

abbrev pub warning_count : List Finding → ℕ
warning_count findings = count_by (λ finding. not (is_fault finding.matter)) findings

abbrev pub counts : List Finding → List ℕ
counts findings = counted (fault_count findings) (codes "fault") ++ codes ", " ++ counted (warning_count findings) (codes "warning")

-- the last line, as `2 faults, 1 warning`
abbrev pub count_line : List Finding → List ℕ
count_line findings = counts findings ++ codes "\n"

-- all findings in their order, and the last line
abbrev pub findings_text : Bool → List Finding → List ℕ
findings_text brief findings = flat_map (finding_text brief) findings ++ count_line findings

-- the last line where warnings are ignored, as `2 faults, 1 warning, 3 ignored`
abbrev pub heard_line : ℕ → List Finding → List ℕ
heard_line ignored findings = counts findings ++ codes ", " ++ decimal ignored ++ codes " ignored\n"

-- the findings that are left in their order, and the last line
abbrev pub heard_text : Bool → ℕ → List Finding → List ℕ
heard_text brief ignored findings = flat_map (finding_text brief) findings ++ heard_line ignored findings
