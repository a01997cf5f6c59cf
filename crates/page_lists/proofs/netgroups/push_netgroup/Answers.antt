use Rattle.std.proofs.Common.{◌≡◌, ◌++◌, ◌∙◌, ap, map}
use Rattle.std.specs.String.{string_bytes}
use Rattle.page_html.specs.Parts.{items_of}
use Rattle.page_html.specs.Tables.{row_html}
use Rattle.page_lists.specs.Netgroups.{cells, netgroup_frame, row_value}
use Rattle.page_lists.proofs.netgroups.push_netgroup.Goals as goal

pub returns : goal.returns
returns c =
    let told : map (λ cell. items_of cell.now) c.seven_cells.result ≡ cells (row_value c.args.row.now) =
    c.seven_cells.ensures ∙ cc (
      c.as_str.ensures,
      c.number_of.ensures,
      c.as_slice.ensures.value,
      c.as_slice-2.ensures.value,
      c.in_ok-members.ensures,
      c.stands_for.ensures,
      c.as_slice-3.ensures.value,
      c.as_slice-4.ensures.value,
      c.in_ok-uses.ensures,
    ) in
    c.in_ok-push_row.ensures ∙ ap (λ cells. string_bytes c.args.page.now ++ row_html netgroup_frame cells) told
