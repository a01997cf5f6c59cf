use Rattle.std.specs.String.{string_bytes}
use Rattle.std.proofs.lemmas.Result.{on_ok_weaker}
use Rattle.page_site.proofs.Pieces.{gains_section}
use Rattle.page_summary.specs.declared.sections.Section.TheVariants.{Files}
use Rattle.page_site.proofs.sections.push_files_list.Goals as goal

pub returns : goal.returns
returns c =
    let begun = string_bytes c.push_section_start.new.page in
    let told = string_bytes c.push_files.new.page in
    on_ok_weaker c.push_section_end.result
    (gains_section Files (string_bytes c.args.page.now) begun told (string_bytes c.push_section_end.new.page) c.in_ok-push_section_start.ensures
    c.in_ok-push_files.ensures)
    c.push_section_end.ensures
