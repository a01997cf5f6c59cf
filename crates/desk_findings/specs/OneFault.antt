-- The finding of one fault of a text. (this project's own)
use Rattle.std.specs.Prelude.{◌≡◌, ℕ, ◌==◌, ◌&&◌, Bool, false, List, [], ◌∷◌, Option, Some, None, Result, Ok, Err}
use Rattle.std.specs.List.{find}
use Rattle.desk_text.specs.Address.{number_of}
use Rattle.desk_text.specs.declared.address.Addr.{Addr}
use Rattle.desk_text.specs.declared.reading.LineFault.{LineFault}
use Rattle.desk_tables.specs.FileSystemsText.{read_filesystems}
use Rattle.desk_tables.specs.Rules.{TableFault}
use Rattle.desk_tables.specs.declared.filesystems.Mount.{Mount}
use Rattle.desk_exports.specs.Faults.{IsPlaced}
use Rattle.desk_exports.specs.Files.{text_faults}
use Rattle.desk_exports.specs.Rules as lines
use Rattle.desk_exports.specs.Tables.{TableRows}
use Rattle.desk_exports.specs.declared.files.Scope.{Scope}
use Rattle.desk_exports.specs.declared.files.Scope.TheVariants.{Whole}
use Rattle.desk_exports.specs.declared.profile.Profile.TheVariants.{Two}
use Rattle.desk_exports.specs.declared.rules.Rule.{Rule}
use Rattle.desk_split.specs.declared.split_fault.SplitFault.{SplitFault}
use Rattle.desk_split.specs.declared.split_fault.SplitFault.TheVariants.{FileSystems, Exports}
use Rattle.desk_policy.specs.Parsing.{no_tables, rows_with}
use Rattle.desk_policy.specs.SiteFault.{rule_number}
use Rattle.desk_policy.specs.declared.site_fault.SiteFault.{SiteFault}
use Rattle.desk_policy.specs.declared.site_fault.SiteRule.TheVariants as site_rule
use Rattle.desk_findings.specs.CheckFaults.{Tells, tell_line}
use Rattle.desk_findings.specs.CheckOdd.{OddLine, TellInOrder, odd_line}
use Rattle.desk_findings.specs.CheckSite.{TellFileSystems}
use Rattle.desk_findings.specs.Told.{Told}
use Rattle.desk_findings.specs.declared.check_faults.Source.{Source}
use Rattle.desk_findings.specs.declared.finding.Matter.{Matter}
use Rattle.desk_findings.specs.declared.finding.Matter.TheVariants as matter

-- a contradiction with this earlier line at this address
abbrev pub is_clash : ℕ → Addr → Option ℕ → Option Addr → Bool
is_clash other address (Some line) (Some least) = (other == line) && (number_of address == number_of least)
is_clash other address line least = false

-- A finding about this is about the fault: it has the number of its rule, and of a contradiction the earlier line and the
-- address.
abbrev pub is_about : SiteFault → Matter → Bool
is_about fault (matter.Fault rule other) = rule_number rule == rule_number fault.rule
is_about fault (matter.Contradiction other address) = is_clash other address fault.other fault.address
is_about fault (matter.Warning kind) = false
is_about fault (matter.Remark remark example) = false

-- this fault of an exports text, by its line and the number of its rule
abbrev pub is_same : LineFault Rule → LineFault Rule → Bool
is_same fault one = (one.line == fault.line) && (lines.rule_number one.rule == lines.rule_number fault.rule)

-- a fault by its line and what it is about
abbrev pub odd_of_fault : LineFault Rule → OddLine
odd_of_fault fault = odd_line fault.line (matter.Fault (site_rule.Line fault.rule) None)

-- one fault is told at its place
abbrev pub TellIfSame : Source → LineFault Rule → Option (LineFault Rule) → List Told → Type 0
TellIfSame source fault (Some same) all = Tells (λ one. one.fault) (IsPlaced source.text.now) (tell_line source) (same ∷ []) all
TellIfSame source fault None all = TellInOrder source (odd_of_fault fault ∷ []) all

-- One fault of an exports text is told: as `check` tells it, if it is among these faults; else on its line.
abbrev pub TellOneOf : Source → LineFault Rule → List (LineFault Rule) → List Told → Type 0
TellOneOf source fault faults all = TellIfSame source fault (find (is_same fault) faults) all

-- those are the faults of the text, whose lines are read in this scope with this profile and these tables
abbrev pub TellOneWith : Source → LineFault Rule → Scope → TableRows → List Told → Type 0
TellOneWith source fault scope tables all = TellOneOf source fault (text_faults tables scope source.text.now) all

-- the same of a whole text, by profile 2, with the file systems that a text lists, and no other table
abbrev pub TellOne : Source → LineFault Rule → Result (List Mount) TableFault → List Told → Type 0
TellOne source fault (Ok table) all = TellOneWith source fault Whole (rows_with Two table no_tables) all
TellOne source fault (Err bad) all = all ≡ []

-- what is told of a fault of one of the two texts of `split`
abbrev pub TellSplit : Source → Source → SplitFault → List Told → Type 0
TellSplit file filesystems (FileSystems fault) all = TellFileSystems filesystems all
TellSplit file filesystems (Exports fault) all = TellOne file fault (read_filesystems filesystems.text.now) all
