use Rattle.std.specs.String.{string_bytes}
use Rattle.std.proofs.lemmas.Result.{on_ok_weaker}
use Rattle.page_html.proofs.Gaining.{five_pieces}
use Rattle.page_html.specs.Blocks.{element_html, tag_html}
use Rattle.page_html.specs.declared.blocks.Element.TheVariants.{Up}
use Rattle.page_html.specs.declared.blocks.Tag.TheVariants.{SectionEnd}
use Rattle.page_places.specs.Groups.{groups_text}
use Rattle.page_places.specs.Lists.{groups_start, not_listed}
use Rattle.page_filesystem.specs.Parts.{way_back}
use Rattle.page_filesystem.proofs.parts.push_groups_part.Goals as goal

pub returns : goal.returns
returns c =
    let part = c.args.part.now in
    on_ok_weaker c.push_tag.result
    (five_pieces (string_bytes c.args.page.now) (string_bytes c.push_groups_start.new.page) (string_bytes c.push_groups.new.page)
    (string_bytes c.push_not_listed.new.page) (string_bytes c.push_element.new.page) (string_bytes c.push_tag.new.page)
    (groups_start part.group_count) (groups_text part.fs.0 part.groups.now) (not_listed part.unlisted part.has_unlisted_others)
    (element_html Up way_back) (tag_html SectionEnd) c.in_ok-push_groups_start.ensures c.in_ok-push_groups.ensures
    c.in_ok-push_not_listed.ensures c.in_ok-push_element.ensures)
    c.push_tag.ensures
