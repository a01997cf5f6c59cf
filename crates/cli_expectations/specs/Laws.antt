-- What the exit status says of expectations, in the words of their lines. (this project's own)
use Rattle.std.specs.Prelude.{◌≡◌, ◌↔◌, All, List, Ok}
use Rattle.desk_policy.specs.Policy.{Content}
use Rattle.desk_policy.specs.declared.parsing.SiteTables.{SiteTables}
use Rattle.desk_expect.specs.Expectation.{Holds, Promise}
use Rattle.desk_expect.specs.Reading.{read_promises}
use Rattle.cli_output.specs.declared.printed.Printed.{Printed}
use Rattle.cli_expectations.specs.TestedPolicy.{Expected, PrintsTested}

-- What is printed of a text of expectations has the status 0 exactly if each line of the text holds.
abbrev pub StatusZeroIsAllHold : Type 0
StatusZeroIsAllHold =
    (tables : SiteTables) (content : Content) (expected : Expected) (printed : Printed) (promises : List Promise) → PrintsTested tables content expected printed
    → read_promises tables.netgroups tables.hosts expected.text ≡ Ok promises
    → (printed.status ≡ 0) ↔ All (Holds tables.netgroups tables.hosts content) promises
