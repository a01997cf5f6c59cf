use Rattle.std.proofs.Common.{◌≡◌, ◌∙◌, ap, map, rules}
use Rattle.std.specs.List.{dedup}
use Rattle.std.proofs.lemmas.Fn.{dedup_same}
use Rattle.page_lists.specs.NameIndex.{is_of_name, same_line, written_value}
use Rattle.page_lists.proofs.Mapped.{dedup_mapped, filter_mapped}
use Rattle.page_lists.proofs.name_index.lines_with.Goals as goal

pub returns : goal.returns
returns c =
    let index = c.args.index.now in
    let given = c.in_ok-lines.lines.items in
    let kept = c.dedup_by.new.self.items in
    let once : kept ≡ dedup (λ one other. same_line (written_value one) (written_value other)) given =
    dedup_same _ (λ one other. same_line (written_value one) (written_value other)) _ (λ x y b f x' y' k. search rules) given kept c.dedup_by.ensures.filtered in
    ap (map written_value) once ∙ dedup_mapped written_value same_line given
    ∙ ap (dedup same_line) (ap (map written_value) c.in_ok-lines.ensures ∙ filter_mapped written_value (is_of_name c.args.name.now) index)
