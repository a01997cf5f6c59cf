-- The lines of a site that stand out, as the words of the page tell them. (this project's own)
use Rattle.std.specs.Prelude.{ℕ, ◌==◌, ◌∷◌, [], not, Bool, false, List, filter, if◌then◌else◌, map, slice_index_or}
use Rattle.desk_exports.specs.declared.entry.Clients.{Clients}
use Rattle.desk_exports.specs.declared.entry.Clients.TheVariants.{Hosts, Net, Net6, World}
use Rattle.page_findings.specs.Deciding.{DecidedFor, deciding_of}
use Rattle.page_findings.specs.FindingWords.{FindingValue, finding_value}
use Rattle.page_findings.specs.Findings.{level_of_line, stands_out}
use Rattle.page_findings.specs.Lines.{KnownLine, LineValue, known_line}
use Rattle.page_data.specs.declared.reasons.Level.{Level}
use Rattle.page_summary.specs.declared.site_finding.SiteFinding.{SiteFinding}

-- a line that stands out by value, for whom it is, and to how many addresses it grants something
pub record SiteFindingValue : Type 0 where
  pub finding : FindingValue
  pub clients : Clients
  pub count : ℕ

abbrev pub site_finding_value : SiteFinding → SiteFindingValue
site_finding_value one = record { finding = finding_value one.finding; clients = one.clients.now; count = one.count }

-- clients are a network of IPv4 that does not have every address
abbrev pub is_for_network : Clients → Bool
is_for_network (Hosts names) = false
is_for_network (Net net noted) = not (net.prefix == 0)
is_for_network (Net6 value) = false
is_for_network World = false

-- the lines that decide for the clients of a line, given those of each file system: none if nothing is told of it
abbrev pub deciding_for : List (List DecidedFor) → ℕ → ℕ → List ℕ
deciding_for decided fs line = deciding_of line (slice_index_or decided fs [])

-- what is told of a line of this level
abbrev pub finding_at : List (List DecidedFor) → Level → KnownLine → SiteFindingValue
finding_at decided level line = record {
  finding = record {
    fs = line.fs;
    line = line.row.entry.line;
    level = level;
    reasons = line.reasons;
    terms = line.row.entry.terms;
    is_for_network = is_for_network line.row.entry.clients;
    deciding = deciding_for decided line.fs line.row.entry.line;
  };
  clients = line.row.entry.clients;
  count = line.count;
}

-- What is told of a line that stands out.
abbrev pub finding_of : List (List DecidedFor) → LineValue → SiteFindingValue
finding_of decided line = finding_at decided (level_of_line line) (known_line line)

-- a line, if it stands out
abbrev pub finding_if : List (List DecidedFor) → LineValue → List SiteFindingValue
finding_if decided line = if stands_out line then finding_of decided line ∷ [] else []

-- Of those of the lines that stand out, in their order.
abbrev pub findings_among : List (List DecidedFor) → List LineValue → List SiteFindingValue
findings_among decided lines = map (finding_of decided) (filter stands_out lines)
