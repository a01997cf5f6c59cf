use Rattle.std.proofs.Common.{◌++◌, ◌∙◌, [], ap, cond, sym}
use Rattle.std.specs.String.{string_bytes}
use Rattle.std.proofs.lemmas.Result.{on_ok_weaker}
use Rattle.page_html.proofs.Gaining.{three_pieces}
use Rattle.page_html.specs.Blocks.{tag_html}
use Rattle.page_html.specs.declared.blocks.Tag.TheVariants.{FindingsStart, ListEnd}
use Rattle.page_filesystem.specs.Findings.{entries}
use Rattle.page_filesystem.proofs.findings.push_findings.Goals as goal

pub returns : goal.returns
returns c =
    let page = string_bytes c.args.page.now in
    let list = tag_html FindingsStart ++ entries c.args.findings.now ++ tag_html ListEnd in
    on_ok_weaker c.push_tag-2.result
    (λ added. three_pieces page (string_bytes c.push_tag.new.page) (string_bytes c.push_entries.new.page) (string_bytes c.push_tag-2.new.page)
    (tag_html FindingsStart) (entries c.args.findings.now) (tag_html ListEnd) c.in_ok-push_tag.ensures c.in_ok-push_entries.ensures added
    ∙ ap (λ b. page ++ cond b [] list) (sym (sym c.is_empty.ensures ∙ c.if-is_empty.false)))
    c.push_tag-2.ensures
