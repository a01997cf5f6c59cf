-- Why a line stands out, as parts of the page. (this project's own)
use Rattle.std.specs.Prelude.{ℕ, ◌==◌, Bool, List, [], ◌∷◌, ◌++◌, Option, None, Some, codes, drop, length, map, take, if◌then◌else◌}
use Rattle.desk_text.specs.Path.{path_text}
use Rattle.desk_text.specs.declared.address.Addr.{Addr}
use Rattle.desk_exports.specs.Flavours.{flavour_word}
use Rattle.desk_exports.specs.declared.entry.Flavour.{Flavour}
use Rattle.desk_exports.specs.declared.entry.Mapping.{Mapping}
use Rattle.desk_exports.specs.declared.entry.Mapping.TheVariants.{All, Root}
use Rattle.desk_exports.specs.declared.entry.Terms.{Terms}
use Rattle.page_data.specs.ReasonValues.{Another, GrantsMore, ReasonValue, WiderValue, reason_value, wider_value}
use Rattle.page_data.specs.Reasons.{level_of_all}
use Rattle.page_data.specs.declared.reasons.Level.{Level}
use Rattle.page_data.specs.declared.reasons.Reason.{Reason}
use Rattle.page_data.specs.declared.reasons.Reason.TheVariants as reasons
use Rattle.desk_server.specs.declared.repeated_client.RepeatedClient.{RepeatedClient as Repeated}
use Rattle.page_html.specs.declared.ranges.Span.{Span}
use Rattle.page_html.specs.Items.{AndMore, Code, Item, LineLink, Own, Range, Word, Words}
use Rattle.page_findings.specs.Joining.{comma, joined}
use Rattle.page_findings.specs.declared.finding_words.Finding.{Finding}

-- a line that stands out by value: its file system, its number, its level, its reasons, and what their words tell: its terms, whether it
-- writes a network of IPv4 that does not have every address, and the lines that decide in its place
pub record FindingValue : Type 0 where
  pub fs : ℕ
  pub line : ℕ
  pub level : Level
  pub reasons : List ReasonValue
  pub terms : Terms
  pub is_for_network : Bool
  pub deciding : List ℕ

abbrev pub finding_value : Finding → FindingValue
finding_value finding = record {
  fs = finding.fs.0;
  line = finding.line;
  level = level_of_all finding.reasons.now;
  reasons = map reason_value finding.reasons.now;
  terms = finding.terms.now;
  is_for_network = finding.is_for_network;
  deciding = finding.deciding.now;
}

-- what stands between two flavours
abbrev pub colon : Item (List ℕ)
colon = Own (Words (codes ":"))

-- the names of flavours, as a line writes them
abbrev pub flavour_item : Flavour → List (Item (List ℕ))
flavour_item flavour = Own (Words (flavour_word flavour)) ∷ []

abbrev pub flavour_items : List Flavour → List (Item (List ℕ))
flavour_items flavours = joined flavour_item colon flavours

-- a line is for everybody
abbrev pub for_everybody : List ℕ → Terms → List (Item (List ℕ))
for_everybody access terms =
    Own (Words (codes "for everybody, ")) ∷ Own (Words access) ∷ Own (Words (codes ", sec=")) ∷ flavour_items terms.flavours

-- whose root is kept, and whether that is so for a network
abbrev pub root_words : Mapping → List ℕ
root_words (Root cred) = codes "root stays root"
root_words (All cred) = codes "every user acts as root"

abbrev pub network_words : Bool → List ℕ
network_words is_for_network = if is_for_network then codes " for a whole network" else []

abbrev pub root_kept : Terms → Bool → List (Item (List ℕ))
root_kept terms is_for_network = Own (Words (root_words terms.map)) ∷ Own (Words (network_words is_for_network)) ∷ []

-- links to lines of a file system: 6 at the most, and how many more there are
abbrev pub line_item : ℕ → ℕ → List (Item (List ℕ))
line_item fs line = Own (LineLink fs line) ∷ []

abbrev pub line_items : ℕ → List ℕ → List (Item (List ℕ))
line_items fs lines = joined (line_item fs) comma lines

abbrev pub some_lines : ℕ → List ℕ → List (Item (List ℕ))
some_lines fs lines = line_items fs (take 6 lines) ++ Own (AndMore (length (drop 6 lines))) ∷ []

-- which lines decide in place of one that never does
abbrev pub decide_words : ℕ → List ℕ
decide_words count = if count == 1 then codes " decides for all its clients" else codes " decide for all its clients"

abbrev pub deciding : ℕ → List ℕ → List (Item (List ℕ))
deciding fs lines = Own (Words (codes "never decides: ")) ∷ some_lines fs lines ++ Own (Words (decide_words (length lines))) ∷ []

-- what another line lists more: a directory; or it has -alldirs, and lists every directory
abbrev pub listed : Option (List (List ℕ)) → List (Item (List ℕ))
listed (Some directory) = Own (Words (codes " lists ")) ∷ Code (path_text directory) ∷ Own (Words (codes " too")) ∷ []
listed None =
    Own (Words (codes " lists every directory of the file system (")) ∷ Own (Word (codes "-alldirs")) ∷ Own (Words (codes ")")) ∷ []

-- the range of one address
abbrev pub only : Addr → Span
only address = record { first = address; last = address }

-- to whom the server grants more, by which line, and what that lists
abbrev pub wider : ℕ → WiderValue → List (Item (List ℕ))
wider fs found =
    Own (Words (codes "mountd(8) grants more: to ")) ∷ Own (Range (only found.address)) ∷ Own (Words (codes " ")) ∷ Own (LineLink fs found.other)
    ∷ listed found.directory

-- that the server may leave the line out, since an earlier one has a client of it
abbrev pub repeated : ℕ → Repeated → List (Item (List ℕ))
repeated fs found =
    Own (Words (codes "mountd(8) may leave this line out: ")) ∷ Own (LineLink fs found.other) ∷ Own (Words (codes " has "))
    ∷ Own (Range (only found.address)) ∷ []

-- a reason why a line stands out, and the same by value
abbrev pub reason_items : FindingValue → Reason → List (Item (List ℕ))
reason_items finding reasons.NoClient = Own (Words (codes "matches nobody")) ∷ []
reason_items finding reasons.NeverDecides = deciding finding.fs finding.deciding
reason_items finding reasons.ForEverybodyReadOnly = for_everybody (codes "read-only") finding.terms
reason_items finding reasons.ForEverybodyReadWrite = for_everybody (codes "read-write") finding.terms
reason_items finding reasons.Wide = Own (Words (codes "wide: over 65,536 addresses")) ∷ []
reason_items finding reasons.RootKeptForNetworks = root_kept finding.terms finding.is_for_network
reason_items finding reasons.RootKeptForNames = root_kept finding.terms finding.is_for_network
reason_items finding (reasons.ServerGrantsMore found) = wider finding.fs (wider_value found)
reason_items finding (reasons.RepeatedClient found) = repeated finding.fs found

abbrev pub value_items : FindingValue → ReasonValue → List (Item (List ℕ))
value_items finding (GrantsMore found) = wider finding.fs found
value_items finding (Another reason) = reason_items finding reason

-- reasons with commas between them, and all reasons why a line stands out
abbrev pub reasons_items : FindingValue → List Reason → List (Item (List ℕ))
reasons_items finding reasons = joined (reason_items finding) comma reasons

abbrev pub finding_items : FindingValue → List (Item (List ℕ))
finding_items finding = joined (value_items finding) comma finding.reasons
