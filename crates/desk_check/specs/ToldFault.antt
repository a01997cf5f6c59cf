-- The finding that standard error tells beside the fault of a text: the one that `check` prints. (this project's own)
use Rattle.std.specs.Prelude.{◌≡◌, ℕ, false, List, [], Option, map, option_to_list, slice_get}
use Rattle.std.specs.List.{find}
use Rattle.std.specs.Option.{option_map_or}
use Rattle.desk_tables.specs.declared.filesystems.Mount.{Mount}
use Rattle.desk_split.specs.declared.split_fault.SplitFault.{SplitFault}
use Rattle.desk_policy.specs.declared.site_fault.SiteFault.{SiteFault}
use Rattle.desk_findings.specs.CheckText.{Gathers}
use Rattle.desk_findings.specs.OneFault.{TellSplit, is_about}
use Rattle.desk_findings.specs.Told.{Told, told}
use Rattle.desk_findings.specs.declared.check_faults.Source.{Source}
use Rattle.desk_findings.specs.declared.check_text.Gathered.{Gathered}
use Rattle.desk_findings.specs.declared.check_text.WholeSources.{WholeSources}
use Rattle.desk_findings.specs.declared.finding.Finding.{Finding}
use Rattle.desk_check.specs.FindingJson.{findings_json}
use Rattle.desk_check.specs.FindingPrints.{finding_text}

-- a finding as `check` prints it, with its line and carets; nothing if there is none
abbrev pub told_text : Option Finding → List ℕ
told_text finding = option_map_or (finding_text false) finding []

-- What is told of a fault: of what `check` finds in the same texts, with these file systems, the first finding about the fault.
pub record TellsOf (sources : WholeSources) (table : List Mount) (fault : SiteFault) (text : List ℕ) : Type 0 where
  pub gathered : Gathered
  pub gathers : Gathers false sources table gathered
  pub are : text ≡ told_text (find (λ finding. is_about fault finding.matter) gathered.findings)

-- The same finding is listed as `check --json` lists it: it alone, or the empty list if there is none.
pub record ListsFault (sources : WholeSources) (table : List Mount) (fault : SiteFault) (text : List ℕ) : Type 0 where
  pub gathered : Gathered
  pub gathers : Gathers false sources table gathered
  pub are : text ≡ findings_json (option_to_list (find (λ finding. is_about fault finding.matter) gathered.findings))

-- The first of the findings that tell this, as `check` prints it; nothing if there is none.
pub record TellsFirst (TellAll : List Told → Type 0) (text : List ℕ) : Type 0 where
  pub findings : List Finding
  pub tell : TellAll (map told findings)
  pub are : text ≡ told_text (slice_get findings 0)

-- The same finding is listed as `check --json` lists it: it alone, or the empty list if there is none.
pub record ListsFirst (TellAll : List Told → Type 0) (text : List ℕ) : Type 0 where
  pub findings : List Finding
  pub tell : TellAll (map told findings)
  pub are : text ≡ findings_json (option_to_list (slice_get findings 0))

-- What is told of a fault of `split`: the first finding of what is so told.
abbrev pub TellsOfSplit : Source → Source → SplitFault → List ℕ → Type 0
TellsOfSplit file filesystems fault text = TellsFirst (TellSplit file filesystems fault) text

-- The same, listed.
abbrev pub ListsSplitFault : Source → Source → SplitFault → List ℕ → Type 0
ListsSplitFault file filesystems fault text = ListsFirst (TellSplit file filesystems fault) text
