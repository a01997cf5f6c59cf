-- Findings by value: what is told of a text, and where. (this project's own)
use Rattle.std.specs.Prelude.{◌≡◌, ℕ, ◌-◌, Bool, true, false, List, [], None, Option, Some, if◌then◌else◌, slice_index_or, take}
use Rattle.std.specs.Option.{option_copied, option_map}
use Rattle.std.specs.Str.Lines.{lines}
use Rattle.desk_text.specs.declared.place.Place.{Place}
use Rattle.desk_origins.specs.declared.origins.Origin.{Origin}
use Rattle.desk_remarks.specs.Remark.{other_line_of}
use Rattle.desk_remarks.specs.declared.remark.OtherLine.{OtherLine}
use Rattle.desk_remarks.specs.declared.remark.OtherLine.TheVariants.{First, Grants, Taken}
use Rattle.desk_remarks.specs.declared.remark.Remark.{Remark}
use Rattle.desk_findings.specs.Finding.{character_count, column_at}
use Rattle.desk_findings.specs.declared.check_faults.Front.{Front}
use Rattle.desk_findings.specs.declared.check_faults.Source.{Source}
use Rattle.desk_findings.specs.declared.finding.Finding.{Finding}
use Rattle.desk_findings.specs.declared.finding.Matter.{Matter}
use Rattle.desk_findings.specs.declared.finding.Matter.TheVariants as matter

-- a finding by value
pub record Told : Type 0 where
  pub path : List ℕ
  pub origins : List Origin
  pub source : List ℕ
  pub place : Option Place
  pub column : ℕ
  pub matter : Matter
  pub beside : Option (List ℕ)
  pub directory : Option (List (List ℕ))

abbrev pub told : Finding → Told
told finding = record {
  path = finding.path.now;
  origins = finding.origins.now;
  source = finding.source.now;
  place = finding.place;
  column = finding.column;
  matter = finding.matter;
  beside = option_copied finding.beside;
  directory = finding.directory;
}

-- the number of the physical line that a finding shows: that of its place, or the first
abbrev pub shown_line : Option Place → ℕ
shown_line None = 1
shown_line (Some place) = place.line

-- the other line of a remark is shown beside its own: mountd(8) grants by it, or takes it alone
abbrev pub is_by_server : OtherLine → Bool
is_by_server First = false
is_by_server Grants = true
is_by_server Taken = true

abbrev pub shows_other : Remark → Bool
shows_other remark = is_by_server (other_line_of remark)

-- the number of the line that is shown beside that of a matter, if one is
abbrev pub other_line : Matter → Option ℕ
other_line (matter.Fault rule other) = None
other_line (matter.Contradiction other address) = None
other_line (matter.Warning kind) = None
other_line (matter.Remark remark None) = None
other_line (matter.Remark remark (Some shown)) = if shows_other remark then Some shown.line else None

-- the physical line of that number
abbrev pub beside_in : List (List ℕ) → Matter → Option (List ℕ)
beside_in lines matter = option_map (λ number. slice_index_or lines (number - 1) []) (other_line matter)

-- what is told of a matter at a place of a text of these lines, and of a directory or none
abbrev pub tell_in : Source → List (List ℕ) → Option Place → Matter → Option (List (List ℕ)) → Told
tell_in text lines place matter directory = record {
  path = text.path.now;
  origins = text.origins.now;
  source = slice_index_or lines (shown_line place - 1) [];
  place = place;
  column = column_at (slice_index_or lines (shown_line place - 1) []) place;
  matter = matter;
  beside = beside_in lines matter;
  directory = directory;
}

-- what is told of a matter at a place of a text, and of a directory or none
abbrev pub tell_about : Source → Option Place → Matter → Option (List (List ℕ)) → Told
tell_about source place matter directory = tell_in source (lines source.text.now) place matter directory

-- the same of no directory
abbrev pub tell : Source → Option Place → Matter → Told
tell source place matter = tell_about source place matter None

-- the characters of the front of one of these lines are counted
abbrev pub IsFront : List (List ℕ) → Front → Type 0
IsFront lines front = front.characters ≡ character_count (take front.bytes (slice_index_or lines (front.line - 1) []))
