-- The entries so far were added.
use Rattle.std.proofs.Common.{◌≡◌, ◌++◌, take}
use Rattle.std.specs.List.{flat_map}
use Rattle.std.specs.String.{string_bytes}
use Rattle.page_findings.specs.FindingWords.{finding_value}
use Rattle.page_filesystem.specs.Findings.{entry}
use Rattle.page_filesystem.proofs.findings.push_entries.Given as goal

abbrev pub invariant-loop-finding : goal.invariant-loop-finding
invariant-loop-finding l =
    string_bytes l.page ≡ string_bytes l.initial.page ++ flat_map (λ finding. entry (finding_value finding)) (take l.finding-index l.findings)
