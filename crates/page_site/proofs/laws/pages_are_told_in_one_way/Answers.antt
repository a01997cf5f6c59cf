use Rattle.page_site.proofs.UniquePage.{pages_are_told_in_one_way}
use Rattle.page_site.proofs.laws.pages_are_told_in_one_way.Goals as goal

pub returns : goal.returns
returns c =
    pages_are_told_in_one_way c.lists_are_told_in_one_way.ensures c.summary_is_told_in_one_way.ensures c.lines_are_told_in_one_way.ensures
    c.networks_are_told_in_one_way.ensures c.systems_are_told_in_one_way.ensures c.what_is_found_is_unique.ensures
    c.read_lines_have_few_flavours.ensures
