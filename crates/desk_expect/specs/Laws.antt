-- What is reported of a line, in the words of the line. (this project's own)
use Rattle.std.specs.Prelude.{◌≡◌, ◌↔◌, ℕ, All, List, [], Ok}
use Rattle.desk_tables.specs.declared.hosts.HostRow.{HostRow}
use Rattle.desk_netgroup.specs.declared.group_line.GroupLine.{GroupLine}
use Rattle.desk_policy.specs.Policy.{Content}
use Rattle.desk_expect.specs.Expectation.{Holds, IsExpectationOf, Promise}
use Rattle.desk_expect.specs.Judging.{PlaceJudged}
use Rattle.desk_expect.specs.Reading.{AreExpectationsOf, read_promises}
use Rattle.desk_expect.specs.Report.{AreBroken, IsTestReport, IsTested}
use Rattle.desk_expect.specs.ReportText.{BrokenValue}
use Rattle.desk_expect.specs.declared.expectation.Expectation.{Expectation}
use Rattle.desk_expect.specs.declared.report.TestReport.{TestReport}

-- A line of which nothing is reported holds; and nothing is reported of a line that holds.
abbrev pub UnreportedLinesHold : Type 0
UnreportedLinesHold =
    (netgroups : List GroupLine) (hosts : List HostRow) (content : Content) (promise : Promise) (expectation : Expectation) (sections : List PlaceJudged)
    → IsExpectationOf netgroups hosts promise expectation → IsTested content expectation sections
    → (sections ≡ []) ↔ Holds netgroups hosts content promise

-- None of the expectations of a text is broken exactly if each line of the text holds.
abbrev pub NoBrokenIsAllHold : Type 0
NoBrokenIsAllHold =
    (netgroups : List GroupLine) (hosts : List HostRow) (text : List ℕ) (promises : List Promise) (expectations : List Expectation) (content : Content) (broken : List BrokenValue)
    → read_promises netgroups hosts text ≡ Ok promises → AreExpectationsOf netgroups hosts promises expectations → AreBroken content expectations broken
    → (broken ≡ []) ↔ All (Holds netgroups hosts content) promises

-- A report of the expectations of a text counts none as broken exactly if each line of the text holds.
abbrev pub NoneBrokenIsAllHold : Type 0
NoneBrokenIsAllHold =
    (netgroups : List GroupLine) (hosts : List HostRow) (text : List ℕ) (promises : List Promise) (expectations : List Expectation) (content : Content) (file : List ℕ) (report : TestReport)
    → read_promises netgroups hosts text ≡ Ok promises → AreExpectationsOf netgroups hosts promises expectations → IsTestReport content file expectations report
    → (report.broken ≡ 0) ↔ All (Holds netgroups hosts content) promises
