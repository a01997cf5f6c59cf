use Rattle.std.proofs.Common.{◌<◌, ◌+◌, length, drop, arith, ap, sym, ◌∙◌, length-take, length-drop}
use Rattle.desk_http_messages.specs.Head.{headers_of, body_length, asks_to_close}
use Rattle.desk_http_messages.proofs.StreamLemmas.{HasHead-append, head_found, head_fault, open_with_head, short_body, unfaulted_with_head}
use Rattle.desk_http_messages.proofs.FrontLemmas.{message_found, ends_then, ends_else}
use Rattle.desk_http_messages.proofs.framing.after_head.Goals as goal

pub overflow_sub-bytes : goal.overflow_sub-bytes
overflow_sub-bytes c = omega (arith, c.requires.within.section.len_fits, ap length c.requires.window ∙ length-take 8192 c.args.bytes.now)

pub overflow_add-result : goal.overflow_add-result
overflow_add-result c =
    let h = c.requires.parsed.0 in
    let at = c.requires.parsed.1 in
    let few = short_body (headers_of h) c.in-Ok.body (sym (ap body_length at.fields) ∙ sym c.body_length.ensures ∙ c.in-Ok.is) in
    omega (arith, few, c.requires.within.section.len_fits, ap length c.requires.window ∙ length-take 8192 c.args.bytes.now)

pub returns-in-Err : goal.returns-in-Err
returns-in-Err c = λ more.
    let h = c.requires.parsed.0 in
    let at = c.requires.parsed.1 in
    let x = head_found c.args.bytes.now c.args.window.now c.args.headers.now c.args.head h c.requires.window c.requires.lines c.requires.within at in
    let e = sym (ap body_length at.fields) ∙ sym c.body_length.ensures ∙ c.in-Err.is in
    head_fault _ h _ c.in-Err.fault (HasHead-append _ h _ more x) e

pub returns-in-Ok : goal.returns-in-Ok
returns-in-Ok c =
    let h = c.requires.parsed.0 in
    let at = c.requires.parsed.1 in
    let bytes = c.args.bytes.now in
    let rest = drop c.args.head.len bytes in
    let x = head_found bytes c.args.window.now c.args.headers.now c.args.head h c.requires.window c.requires.lines c.requires.within at in
    let e = sym (ap body_length at.fields) ∙ sym c.body_length.ensures ∙ c.in-Ok.is in
    let cut : length rest < c.in-Ok.body = omega (arith, c.if-bytes-head.true, length-drop c.args.head.len bytes) in
    let few = short_body (headers_of h) c.in-Ok.body e in
    record {
      ends = (λ k d below. absurd (omega (arith, below)), (h, rest, c.in-Ok.body, x, e, cut));
      is_open = open_with_head bytes h rest c.in-Ok.body x e cut;
      unfaulted = unfaulted_with_head bytes h rest c.in-Ok.body x e;
      unfinished = λ none. absurd (none h rest x);
      room = omega (arith, cut, few, length-drop c.args.head.len bytes, x.is_head.short, at.len);
      pends = (h, rest, c.in-Ok.body, x, e, ap (λ l. l + c.in-Ok.body) at.len);
    }

pub returns-then-head-eq0 : goal.returns-then-head-eq0
returns-then-head-eq0 c =
    let h = c.requires.parsed.0 in
    let at = c.requires.parsed.1 in
    let e = sym (ap body_length at.fields) ∙ sym c.body_length.ensures ∙ c.in-Ok.is in
    message_found c.args.bytes.now c.args.window.now c.args.headers.now _ h c.requires.window c.requires.lines c.requires.within at e (omega (arith, c.if-bytes-head.false, c.requires.within.section.len_fits, ap length c.requires.window ∙ length-take 8192 c.args.bytes.now)) (ends_then c.args.head.version h.minor (asks_to_close (headers_of h)) at.version c.if-head-eq0.true)

pub returns-else-head-eq0 : goal.returns-else-head-eq0
returns-else-head-eq0 c =
    let h = c.requires.parsed.0 in
    let at = c.requires.parsed.1 in
    let e = sym (ap body_length at.fields) ∙ sym c.body_length.ensures ∙ c.in-Ok.is in
    message_found c.args.bytes.now c.args.window.now c.args.headers.now _ h c.requires.window c.requires.lines c.requires.within at e (omega (arith, c.if-bytes-head.false, c.requires.within.section.len_fits, ap length c.requires.window ∙ length-take 8192 c.args.bytes.now)) (ends_else c.args.head.version h.minor (asks_to_close (headers_of h)) c.asks_to_close.result at.version c.if-head-eq0.false (c.asks_to_close.ensures ∙ ap asks_to_close at.fields))
