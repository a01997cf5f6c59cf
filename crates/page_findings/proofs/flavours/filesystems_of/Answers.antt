use Rattle.std.proofs.Common.{◌≡◌, ◌∙◌, ℕ, ap, map, rules, sym}
use Rattle.std.specs.List.{dedup}
use Rattle.std.proofs.lemmas.Fn.{dedup_same}
use Rattle.std.proofs.lemmas.List.{take_all}
use Rattle.desk_tables.specs.declared.filesystems.FsId.{FsId}
use Rattle.page_findings.specs.Flavours.{same_number}
use Rattle.page_findings.specs.Lines.{LineValue, line_value}
use Rattle.page_findings.specs.declared.lines.SiteLine.{SiteLine}
use Rattle.page_findings.proofs.Mapped.{dedup_mapped, map_twice}
use Rattle.page_findings.proofs.flavours.filesystems_of.Goals as goal

abbrev number : FsId → ℕ
number fs = fs.0

pub returns : goal.returns
returns c =
    let lines = c.args.lines.now in
    let given = c.loop-line.filesystems.items in
    let kept = c.dedup_by.new.self.items in
    let once : kept ≡ dedup (λ fs other. same_number (number fs) (number other)) given = dedup_same _ (λ fs other. same_number (number fs) (number other)) _ (λ x y b f x' y' k. search rules) given kept c.dedup_by.ensures.filtered in
    let all : given ≡ map (λ (line : SiteLine). line.fs) lines = c.loop-line.invariant ∙ ap (map (λ (line : SiteLine). line.fs)) (take_all c.loop-line.line-index lines c.loop-line-test.false) in
    ap (map number) once ∙ dedup_mapped number same_number given
    ∙ ap (dedup same_number) (ap (map number) all ∙ map_twice (λ (line : SiteLine). line.fs) number lines ∙ sym (map_twice line_value (λ (line : LineValue). line.fs) lines))
