use Rattle.std.proofs.Common.{◌<◌, arith, length}
use Rattle.std.specs.String.{string_bytes}
use Rattle.std.proofs.lemmas.Result.{on_ok_weaker}
use Rattle.page_html.specs.Ranges.{left_out, range_list}
use Rattle.page_html.proofs.Gaining.{split_pieces}
use Rattle.page_html.proofs.ranges.push_listed.Goals as goal

pub returns : goal.returns
returns c =
    let all = c.args.ranges.now in
    let many : 248 < length all = omega (arith, c.if-ranges-le-MOST.false) in
    let parts = c.split_at.result in
    on_ok_weaker c.push_left_out.result
    (split_pieces all parts.0.now parts.1.now 248 range_list range_list (λ others. left_out (length others)) (string_bytes c.args.page.now) (string_bytes c.push_list-2.new.page) (string_bytes c.push_left_out.new.page)
    many c.split_at.ensures.front c.split_at.ensures.back c.in_ok-push_list.ensures)
    c.push_left_out.ensures
