use Rattle.std.specs.String.{string_bytes}
use Rattle.std.proofs.lemmas.Result.{on_ok_weaker}
use Rattle.page_site.proofs.Pieces.{gains_section, gains_warnings}
use Rattle.page_summary.specs.declared.sections.Section.TheVariants.{Warnings}
use Rattle.page_site.proofs.sections.push_warnings_list.Goals as goal

pub returns : goal.returns
returns c =
    let begun = string_bytes c.push_section_start.new.page in
    let told = string_bytes c.push_warnings_of.new.page in
    on_ok_weaker c.push_section_end.result
    (gains_section Warnings (string_bytes c.args.page.now) begun told (string_bytes c.push_section_end.new.page) c.in_ok-push_section_start.ensures
    (gains_warnings c.args.policy.now begun told c.in_ok-push_warnings_of.ensures))
    c.push_section_end.ensures
