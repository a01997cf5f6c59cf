use Rattle.std.proofs.Common.{◌∙◌, ◌++◌, ap, map, sym}
use Rattle.std.specs.List.{flat_map}
use Rattle.std.specs.String.{string_bytes}
use Rattle.std.proofs.lemmas.List.{append-nil, take_all}
use Rattle.desk_expect.specs.Judging.{judged_section}
use Rattle.desk_impact.specs.declared.sections.Section.{Section}
use Rattle.desk_expect.specs.declared.judging.Judged.{Judged}
use Rattle.desk_expect.specs.ReportText.{section_text}
use Rattle.desk_expect.proofs.Written.{by_values, writes_next}
use Rattle.desk_expect.proofs.report_text.push_sections.Goals as goal

pub loop-section-init : goal.loop-section-init
loop-section-init c = sym (append-nil (string_bytes c.args.text.now))

pub loop-section-preserved : goal.loop-section-preserved
loop-section-preserved c =
    writes_next (λ (section : Section Judged). section_text c.args.policy.now (judged_section section)) c.as_slice-section-items.result.now c.loop-section.section-index c.section-item.result c.loop-section-test.true c.section-item.is
    (string_bytes c.args.text.now) (string_bytes c.loop-section.text) (string_bytes c.push_section.new.text)
    c.loop-section.invariant c.in_ok-push_section.ensures

pub returns : goal.returns
returns c =
    let start = string_bytes c.args.text.now in
    let write = section_text c.args.policy.now in
    let items = c.as_slice-section-items.result.now in
    c.loop-section.invariant
    ∙ ap (λ sections. start ++ flat_map (λ (section : Section Judged). write (judged_section section)) sections) (take_all c.loop-section.section-index items c.loop-section-test.false ∙ c.as_slice-section-items.ensures)
    ∙ ap (λ t. start ++ t) (by_values judged_section write c.args.broken.now.sections)
