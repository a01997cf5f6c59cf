use Rattle.std.proofs.Common.{◌++◌, ◌∙◌, ap, map, refl}
use Rattle.std.specs.String.{string_bytes}
use Rattle.std.proofs.lemmas.Result.{on_ok_weaker}
use Rattle.page_html.specs.Blocks.{facts_html}
use Rattle.page_html.specs.Parts.{item_of}
use Rattle.page_html.proofs.Gathered.{cell_before, part_before}
use Rattle.page_filesystem.specs.Facts.{frame}
use Rattle.page_filesystem.proofs.facts.push_facts.Goals as goal

pub returns : goal.returns
returns c =
    on_ok_weaker c.push_facts.result
    (λ added. added ∙ ap (λ cells. string_bytes c.args.page.now ++ facts_html frame cells)
    (c.four_cells.ensures ∙ cell_before _ _ _ _ (ap (map item_of) c.as_slice.ensures.value ∙ c.in_ok-revision.ensures)
    (cell_before _ _ _ _ refl (part_before _ _ _ _ c.guarded_part.ensures
    (cell_before _ _ _ _ (ap (map item_of) c.as_slice-2.ensures.value ∙ c.in_ok-may_mount.ensures) refl)))))
    c.push_facts.ensures
