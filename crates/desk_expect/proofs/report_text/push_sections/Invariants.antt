-- The sections so far are written.
use Rattle.std.proofs.Common.{◌≡◌, ◌++◌, take}
use Rattle.std.specs.List.{flat_map}
use Rattle.std.specs.String.{string_bytes}
use Rattle.desk_expect.specs.Judging.{judged_section}
use Rattle.desk_impact.specs.declared.sections.Section.{Section}
use Rattle.desk_expect.specs.declared.judging.Judged.{Judged}
use Rattle.desk_expect.specs.ReportText.{section_text}
use Rattle.desk_expect.proofs.report_text.push_sections.Given as goal

abbrev pub invariant-loop-section : goal.invariant-loop-section
invariant-loop-section l =
    string_bytes l.text ≡ string_bytes l.fn.text ++ flat_map (λ (section : Section Judged). section_text l.policy (judged_section section)) (take l.section-index l.section-items)
