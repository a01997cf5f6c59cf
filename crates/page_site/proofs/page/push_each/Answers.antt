use Rattle.std.specs.String.{string_bytes}
use Rattle.std.proofs.lemmas.Result.{on_ok_weaker}
use Rattle.page_summary.specs.declared.sections.Section.TheVariants.{Each}
use Rattle.page_site.proofs.Pieces.{gains_section}
use Rattle.page_site.proofs.page.push_each.Goals as goal

pub returns : goal.returns
returns g c =
    on_ok_weaker c.push_section_end.result
    (gains_section Each (string_bytes c.args.page.now) (string_bytes c.push_section_start.new.page) (string_bytes c.push_systems.new.page)
    (string_bytes c.push_section_end.new.page) c.in_ok-push_section_start.ensures c.in_ok-push_systems.ensures)
    c.push_section_end.ensures
