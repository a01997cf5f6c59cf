use Rattle.std.proofs.Common.{true, map, subst}
use Rattle.std.proofs.lemmas.Result.{IfOk-weaker}
use Rattle.desk_impact.specs.Sections.{AreFoundIn, section_value}
use Rattle.page_data.specs.Sections.{AreSections}
use Rattle.page_data.proofs.Told.{all_told, is_rule, verdict_rule}
use Rattle.page_data.proofs.sections.sections_of_site.Goals as goal

pub returns : goal.returns
returns g c =
    let content = g.V.PolicyView.in_force c.args.view.now in
    IfOk-weaker c.found_in.result _ (λ sections. AreSections content (map section_value sections.items))
    (λ sections are. all_told c.runs_exist.ensures c.runs_pass_tests.ensures c.runs_with_value_are_unique.ensures c.verdicts_are_discrete.ensures content (map section_value sections.items)
    (subst (λ dir. AreFoundIn verdict_rule content dir true (map section_value sections.items)) c.requires (are verdict_rule (is_rule content _ c.new.ensures))))
    c.found_in.ensures
