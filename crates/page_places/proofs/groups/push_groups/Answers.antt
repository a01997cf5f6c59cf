use Rattle.std.proofs.Common.{◌++◌, ◌∙◌, List, ap, subst, sym, ℕ}
use Rattle.std.specs.String.{string_bytes}
use Rattle.page_data.specs.Groups.{group_value}
use Rattle.page_places.specs.Groups.{HasToldSizes, group_block, group_text}
use Rattle.page_places.specs.Tables.{told_value}
use Rattle.page_places.specs.declared.openings.PlaceOpening.{PlaceOpening}
use Rattle.page_html.proofs.Gathered.{writes_item}
use Rattle.page_places.proofs.groups.push_groups.Goals as goal

pub push_group-requires : goal.push_group-requires
push_group-requires c = subst HasToldSizes (sym c.part-item.is) (c.requires c.loop-part.part-index c.part-item.result c.loop-part-test.true)

pub loop-part-preserved : goal.loop-part-preserved
loop-part-preserved c =
    let groups = c.args.groups.now in
    let fs = c.args.fs.0 in
    let part = c.part-item.result in
    let now = string_bytes c.loop-part.page in
    writes_item groups c.loop-part.part-index part (group_text fs) (string_bytes c.args.page.now) now (string_bytes c.push_group.new.page)
    c.loop-part-test.true c.part-item.is c.loop-part.invariant
    (c.in_ok-push_group.ensures
    ∙ ap (λ (maps : List ℕ). now ++ group_block fs (group_value part.group) maps (told_value part.table) c.as_slice.result.now) c.as_str.ensures.value
    ∙ ap (λ (openings : List PlaceOpening). now ++ group_block fs (group_value part.group) (string_bytes part.maps) (told_value part.table) openings) c.as_slice.ensures)
