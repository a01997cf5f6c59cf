use Rattle.std.proofs.Common.{◌≡◌, ap, ◌∙◌, arith, length, drop}
use Rattle.desk_http_messages.proofs.ByteLemmas.{slice_range-drop, length-slice_range}
use Rattle.desk_http_messages.proofs.buffer.Buffer.consume.Goals as goal

pub returns : goal.returns
returns c =
    let b = c.self.inside in
    let fits : length b.bytes.items ≡ 73728 = omega (arith, b.bytes.ok.0) in
    let long = length-slice_range b.bytes.items b.start b.end (omega arith) in
    let same = ap length c.self.view_is in
    slice_range-drop b.bytes.items b.start c.args.count b.end (omega (arith, long, same)) ∙ ap (drop c.args.count) c.self.view_is
