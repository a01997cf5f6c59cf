-- The broken expectations so far are written.
use Rattle.std.proofs.Common.{◌≡◌, [], ◌++◌, take}
use Rattle.std.specs.List.{flat_map}
use Rattle.std.specs.String.{string_bytes}
use Rattle.desk_expect.specs.Report.{broken_value}
use Rattle.desk_expect.specs.ReportText.{broken_text}
use Rattle.desk_expect.specs.declared.report.Broken.{Broken}
use Rattle.desk_expect.proofs.report_text.report_text.Given as goal

abbrev pub invariant-loop-one : goal.invariant-loop-one
invariant-loop-one l = string_bytes l.text ≡ [] ++ flat_map (λ (one : Broken). broken_text l.policy l.file (broken_value one)) (take l.one-index l.broken)
