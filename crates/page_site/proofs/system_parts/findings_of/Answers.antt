use Rattle.std.proofs.Common.{◌++◌, ◌∙◌, [], ◌∷◌, ap, map, sym, take, take_all}
use Rattle.std.proofs.lemmas.List.{map_more}
use Rattle.page_findings.specs.declared.finding_words.Finding.{Finding}
use Rattle.page_summary.specs.declared.site_finding.SiteFinding.{SiteFinding}
use Rattle.page_site.proofs.system_parts.findings_of.Goals as goal

abbrev finding_in : SiteFinding → Finding
finding_in one = one.finding

pub loop-one-preserved : goal.loop-one-preserved
loop-one-preserved c =
    let counted = c.args.counted.now in
    let i = c.loop-one.one-index in
    c.in_ok-push.ensures.items ∙ ap (λ some. some ++ c.one-item.result.finding ∷ []) c.loop-one.invariant
    ∙ ap (λ one. map finding_in (take i counted) ++ finding_in one ∷ []) c.one-item.is ∙ sym (map_more finding_in counted i c.one-item.result c.loop-one-test.true)

pub returns : goal.returns
returns c = c.loop-one.invariant ∙ ap (map finding_in) (take_all c.loop-one.one-index c.args.counted.now c.loop-one-test.false)
