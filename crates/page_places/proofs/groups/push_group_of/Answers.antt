use Rattle.std.specs.String.{string_bytes}
use Rattle.std.proofs.lemmas.Result.{on_ok_weaker}
use Rattle.page_html.proofs.Gaining.{five_pieces}
use Rattle.page_html.specs.Blocks.{tag_html}
use Rattle.page_html.specs.declared.blocks.Tag.TheVariants.{PlaceStart, SectionEnd}
use Rattle.page_places.specs.Groups.{who_block}
use Rattle.page_places.specs.Names.{heading, members_value}
use Rattle.page_places.specs.Openings.{openings_text}
use Rattle.page_places.specs.Tables.{told_value}
use Rattle.page_places.proofs.groups.push_group_of.Goals as goal

pub returns : goal.returns
returns c =
    let members = members_value c.args.members.now in
    on_ok_weaker c.push_tag-2.result
    (five_pieces (string_bytes c.args.page.now) (string_bytes c.push_tag.new.page) (string_bytes c.push_heading.new.page) (string_bytes c.push_who.new.page)
    (string_bytes c.push_openings.new.page) (string_bytes c.push_tag-2.new.page) (tag_html PlaceStart) (heading members)
    (who_block c.args.fs.0 members c.args.maps.now (told_value c.args.table.now)) (openings_text c.args.fs.0 c.args.openings.now) (tag_html SectionEnd)
    c.in_ok-push_tag.ensures c.in_ok-push_heading.ensures c.in_ok-push_who.ensures c.in_ok-push_openings.ensures)
    c.push_tag-2.ensures
