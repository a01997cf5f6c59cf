use Rattle.std.proofs.Common.{◌++◌, ◌∙◌, List, ap, map, subst, sym}
use Rattle.std.specs.List.{flat_map}
use Rattle.std.proofs.lemmas.List.{append-nil, take_all}
use Rattle.std.proofs.lemmas.List.Folds.{flat_map-map}
use Rattle.desk_text.specs.Address.{number_of}
use Rattle.desk_policy.specs.declared.verdict.Verdict.{Verdict}
use Rattle.desk_who.specs.Who.{range_value}
use Rattle.desk_who.specs.declared.runs.Run.{Run}
use Rattle.desk_impact.specs.Sections.{PlaceBreaches, Section, section_value}
use Rattle.page_findings.specs.PrivateDeciding.{AreInOrder, lines_at}
use Rattle.page_data.proofs.Gathered.{writes}
use Rattle.page_findings.proofs.Searched.{in_order}
use Rattle.page_findings.proofs.naming.push_between.Goals as goal

pub loop-section-init : goal.loop-section-init
loop-section-init c = sym (append-nil c.args.lines.now.items)

pub push_at-requires : goal.push_at-requires
push_at-requires c =
    subst (λ (ranges : List (Run Verdict)). AreInOrder (map range_value ranges)) (sym c.as_slice.ensures)
    (in_order c.args.sections.now c.requires c.loop-section.section-index c.section-item.result c.loop-section-test.true c.section-item.is)

pub loop-section-preserved : goal.loop-section-preserved
loop-section-preserved c =
    let first = number_of c.args.first in
    let last = number_of c.args.last in
    writes c.args.sections.now c.loop-section.section-index c.section-item.result c.loop-section-test.true c.section-item.is (λ (section : Section). lines_at first last (map range_value section.ranges))
    c.args.lines.now.items c.loop-section.lines.items c.push_at.new.lines.items c.loop-section.invariant
    (c.in_ok-push_at.ensures ∙ ap (λ ranges. c.loop-section.lines.items ++ lines_at first last (map range_value ranges)) c.as_slice.ensures)

pub returns : goal.returns
returns c =
    let first = number_of c.args.first in
    let last = number_of c.args.last in
    let start = c.args.lines.now.items in
    c.loop-section.invariant
    ∙ ap (λ sections. start ++ flat_map (λ (section : Section). lines_at first last (map range_value section.ranges)) sections) (take_all c.loop-section.section-index c.args.sections.now c.loop-section-test.false)
    ∙ sym (ap (λ lines. start ++ lines) (flat_map-map (λ (section : PlaceBreaches). lines_at first last section.ranges) section_value c.args.sections.now))
