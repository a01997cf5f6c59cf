use Rattle.std.proofs.Common.{◌++◌, ◌∙◌, List, ap, ℕ}
use Rattle.std.specs.String.{string_bytes}
use Rattle.page_findings.specs.FindingWords.{finding_value}
use Rattle.page_findings.specs.declared.finding_words.Finding.{Finding}
use Rattle.page_filesystem.specs.Findings.{entry}
use Rattle.page_html.proofs.Gathered.{writes}
use Rattle.page_filesystem.proofs.findings.push_entries.Goals as goal

abbrev entry_of : Finding → List ℕ
entry_of finding = entry (finding_value finding)

pub loop-finding-preserved : goal.loop-finding-preserved
loop-finding-preserved c =
    let now = string_bytes c.loop-finding.page in
    writes c.args.findings.now c.loop-finding.finding-index c.finding-item.result entry_of (string_bytes c.args.page.now) now
    (string_bytes c.push_entry.new.page) c.loop-finding-test.true c.loop-finding.invariant
    (c.in_ok-push_entry.ensures ∙ ap (λ one. now ++ entry_of one) c.finding-item.is)
