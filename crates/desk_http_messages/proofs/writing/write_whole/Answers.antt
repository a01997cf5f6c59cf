use Rattle.std.proofs.Common.{arith, length-drop}
use Rattle.std.proofs.lemmas.List.{take_rest}
use Rattle.desk_http_messages.specs.declared.transport.Failed.{Failed}
use Rattle.desk_http_messages.proofs.ByteLemmas.{Appends_more, took_some}
use Rattle.desk_http_messages.proofs.writing.write_whole.Goals as goal

pub loop-done-preserved : goal.loop-done-preserved
loop-done-preserved g c =
    let text = c.args.text.now in
    let behind = take_rest text c.loop-done.done in
    let ensured = c.in-Ok.ensures in
    let count = rw behind at ensured.count in
    record {
      in_range = omega (arith, count, length-drop c.loop-done.done text);
      written = Appends_more _ _ _ text c.loop-done.done c.in-Ok.count c.loop-done.invariant.written (rw behind at ensured.bytes);
      good = took_some Failed _ _ _ _ c.loop-done.invariant.good c.if-count-gt0.true ensured.failed;
    }
