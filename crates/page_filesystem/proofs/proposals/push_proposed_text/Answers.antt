use Rattle.std.proofs.Common.{[], ◌∷◌, codes}
use Rattle.std.specs.String.{string_bytes}
use Rattle.std.specs.Str.Lines.{lines}
use Rattle.std.proofs.lemmas.Result.{on_ok_weaker}
use Rattle.page_html.proofs.Gaining.{three_pieces}
use Rattle.page_html.specs.Blocks.{tag_html}
use Rattle.page_html.specs.Tables.{table_start}
use Rattle.page_html.specs.Titles.{Named, Said}
use Rattle.page_html.specs.declared.blocks.Tag.TheVariants.{TableEnd}
use Rattle.page_filesystem.specs.Proposals.{frame, proposed_rows}
use Rattle.page_filesystem.proofs.proposals.push_proposed_text.Goals as goal

pub returns : goal.returns
returns c =
    on_ok_weaker c.push_tag.result
    (three_pieces (string_bytes c.args.page.now) (string_bytes c.push_table_start.new.page) (string_bytes c.push_proposed_rows.new.page)
    (string_bytes c.push_tag.new.page) (table_start frame (Said (codes "Proposed text of ") ∷ Named c.args.name.now ∷ []))
    (proposed_rows (lines c.args.in_force.now) 0 (lines c.args.text.now)) (tag_html TableEnd)
    c.in_ok-push_table_start.ensures
    (c.in_ok-push_proposed_rows.ensures (lines c.args.in_force.now) c.in_ok-known.ensures))
    c.push_tag.ensures
