use Rattle.std.proofs.Common.{true, map, subst}
use Rattle.std.proofs.lemmas.Result.{IfOk-weaker}
use Rattle.desk_impact.specs.Sections.{AreFoundIn}
use Rattle.page_data.specs.Opening.{AreOpenings, opening_rule, opening_section}
use Rattle.page_data.proofs.OpeningsFound.{is_rule}
use Rattle.page_data.proofs.opening.openings_of_site.Goals as goal

pub returns : goal.returns
returns c =
    let content = c.args.index.now in
    IfOk-weaker c.found_in.result _ (λ sections. AreOpenings content (map opening_section sections.items))
    (λ sections are. subst (λ dir. AreFoundIn opening_rule content dir true (map opening_section sections.items)) c.requires (are opening_rule (is_rule content _ c.new.ensures)))
    c.found_in.ensures
