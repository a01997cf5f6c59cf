use Rattle.std.proofs.Common.{◌≡◌, ◌∙◌, Bool, ap, arith, map, refl, rules}
use Rattle.std.specs.Prelude.{count_by, filter}
use Rattle.std.specs.List.{dedup}
use Rattle.std.proofs.lemmas.Fn.{filter_same}
use Rattle.std.proofs.lemmas.List.{length-map}
use Rattle.desk_tables.specs.declared.filesystems.FsId.{FsId}
use Rattle.page_findings.specs.Flavours.{lines_with, same_flavours, same_number}
use Rattle.page_findings.specs.Lines.{LineValue, flavours_of, is_read_write, line_value}
use Rattle.page_findings.specs.declared.lines.SiteLine.{SiteLine}
use Rattle.page_findings.proofs.Mapped.{filter_mapped}
use Rattle.page_findings.proofs.Using.{use_is}
use Rattle.page_findings.proofs.flavours.use_of.Goals as goal

pub returns : goal.returns
returns c =
    let given = c.args.lines.now in
    let flavours = c.args.flavours.now in
    let kept = c.retain.new.self.items in
    let test : SiteLine → Bool = λ line. same_flavours (flavours_of (line_value line)) flavours in
    let just : kept ≡ filter test given = filter_same _ test _ (λ x b f' k. search rules) _ _ c.retain.ensures.filtered ∙ ap (filter test) c.in_ok-own.ensures.items in
    let own : map line_value kept ≡ lines_with flavours (map line_value given) = ap (map line_value) just ∙ filter_mapped line_value (λ line. same_flavours (flavours_of line) flavours) given in
    use_is _ (map line_value given) (map line_value kept) flavours own refl (let same = length-map kept line_value in omega (arith, c.len.ensures))
    (c.count_read_write.ensures ∙ ap (λ items. count_by is_read_write (map line_value items)) c.as_slice-2.ensures.value)
    (ap (map (λ (fs : FsId). fs.0)) c.from_vec.ensures ∙ c.in_ok-filesystems.ensures ∙ ap (λ items. dedup same_number (map (λ (line : LineValue). line.fs) (map line_value items))) c.as_slice.ensures.value)
