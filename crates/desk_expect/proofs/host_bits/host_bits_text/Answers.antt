use Rattle.std.proofs.Common.{◌≡◌, ◌∙◌, [], List, ap}
use Rattle.std.specs.List.{flat_map}
use Rattle.std.specs.String.{string_bytes}
use Rattle.std.proofs.lemmas.List.{take_all}
use Rattle.desk_text.specs.Lines.{LogicalLine, logical_lines}
use Rattle.desk_expect.specs.HostBits.{told_line}
use Rattle.desk_expect.proofs.Written.{writes_next}
use Rattle.desk_expect.proofs.host_bits.host_bits_text.Goals as goal

pub loop-line-preserved : goal.loop-line-preserved
loop-line-preserved c =
    writes_next (told_line c.args.file.now) c.deref-line-items.result.now c.loop-line.line-index c.line-item.result c.loop-line-test.true c.line-item.is
    [] (string_bytes c.loop-line.told) (string_bytes c.push_line.new.told) c.loop-line.invariant c.in_ok-push_line.ensures

pub returns : goal.returns
returns c =
    let ls : List LogicalLine = c.deref-line-items.result.now in
    let text : ls ≡ logical_lines c.args.text.now = c.deref-line-items.ensures.value ∙ c.in_ok-lines.ensures.lines in
    c.loop-line.invariant ∙ ap (flat_map (told_line c.args.file.now)) (take_all c.loop-line.line-index ls c.loop-line-test.false ∙ text)
