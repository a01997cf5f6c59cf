use Rattle.std.proofs.Common.{◌≡◌, ◌+◌, ◌-◌, ap, ◌∙◌, arith, length, drop, take, slice_range}
use Rattle.std.proofs.lemmas.List.{with_items_is}
use Rattle.desk_http_messages.proofs.ByteLemmas.{refilled, length-refilled}
use Rattle.desk_http_messages.proofs.buffer.Buffer.read_from.Goals as goal

pub returns-clause-ok : goal.returns-clause-ok
returns-clause-ok g c =
    let b = c.self.inside in
    let bytes = c.refill-result.new.bytes in
    let n = c.in_ok-count.count in
    let k = b.end - b.start in
    let ensured = c.in_ok-count.ensures in
    let same = c.deref_mut.ensures.value in
    let stays = ensured.stays ∙ ap (λ l. slice_range l b.start b.end) same in
    let long : length bytes ≡ b.bytes.len = omega (arith, c.refill-result.auto.bytes, ap length same, b.bytes.ok.0) in (
      take n (drop k bytes),
      length-refilled bytes k n (omega (arith, ensured.count, long, ap length same, b.bytes.ok.0)),
      ap (λ l. slice_range l 0 (k + n)) (with_items_is b.bytes bytes long)
          ∙ refilled b.bytes.items bytes c.args.self.now b.start b.end n c.self.view_is stays,
      ensured.ok,
    )
