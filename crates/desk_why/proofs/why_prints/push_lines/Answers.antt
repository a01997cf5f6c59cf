use Rattle.std.proofs.Common.{◌≡◌, ◌<◌, ◌∙◌, ap, arith, length, map, sym}
use Rattle.std.specs.String.{string_bytes}
use Rattle.std.proofs.lemmas.List.{get_or-map, length-map}
use Rattle.desk_text.specs.Address.{number_of}
use Rattle.desk_why.specs.WhyPrints.{row_line}
use Rattle.desk_why.proofs.Gathered.{writes}
use Rattle.desk_why.proofs.why_prints.push_lines.Goals as goal

pub loop-row-preserved : goal.loop-row-preserved
loop-row-preserved c =
    let asked = c.args.asked in
    let items = c.args.rows.now in
    let rows = map (λ row. row.now) items in
    let i = c.loop-row.row-index in
    let row = c.row-item.result.now in
    let few : length rows ≡ length items = length-map items (λ row. row.now) in
    let below : i < length items = c.loop-row-test.true in
    let within : i < length rows = omega arith in
    writes rows i row within (ap (λ row. row.now) c.row-item.is ∙ sym (get_or-map (λ row. row.now) items i c.row-item.result row below))
    (row_line asked.netgroups.now asked.hosts.now (number_of asked.address) asked.path.now c.args.named.origins.now c.args.named.line c.first_weight-greatest.result)
    (string_bytes c.args.text.now) (string_bytes c.loop-row.text) (string_bytes c.push_line.new.text) c.loop-row.invariant c.in_ok-push_line.ensures
