use Rattle.std.proofs.Common.{[], Err, arith, inl, inr, length, sym, ◌∙◌, subst, eqb-true, append-nil, refl, ap}
use Rattle.std.proofs.lemmas.List.{take_all}
use Rattle.desk_http_messages.specs.Stream.{HasNoHead}
use Rattle.httparse.specs.Grammar.{HasNoRequest, MayBecomeRequest, NeverHasRequest}
use Rattle.httparse.specs.Spans.{RequestExceeds, RequestOverflows}
use Rattle.desk_http_messages.proofs.StreamLemmas.{never_head, over_head, full_head, short_head, some_bytes}
use Rattle.desk_http_messages.proofs.FrontLemmas.{empty_open, some_there}
use Rattle.desk_http_messages.proofs.framing.look_at.Goals as goal

pub returns-then-is_empty : goal.returns-then-is_empty
returns-then-is_empty c = empty_open c.args.bytes.now (eqb-true _ 0 (sym c.is_empty.ensures ∙ c.if-is_empty.true))

pub without_head-requires-clause-none : goal.without_head-requires-clause-none
without_head-requires-clause-none c = λ short.
    let none = short_head c.args.bytes.now (subst HasNoRequest c.window_of-window.ensures (rw c.in-Ok-Partial.field-0-is at c.in-Ok-Partial.ensures.partial)) short in
    let all = c.window_of-window.ensures ∙ take_all 8192 c.args.bytes.now (omega arith) in
    let may = subst MayBecomeRequest all (rw c.in-Ok-Partial.field-0-is at c.in-Ok-Partial.ensures.unfinished) in
    (none, (short, inl may), may, refl)

pub without_head-requires-clause-never : goal.without_head-requires-clause-never
without_head-requires-clause-never c = λ full.
    full_head c.args.bytes.now (subst HasNoRequest c.window_of-window.ensures (rw c.in-Ok-Partial.field-0-is at c.in-Ok-Partial.ensures.partial)) full

pub without_head-requires-in-TooManyHeaders-clause-none : goal.without_head-requires-in-TooManyHeaders-clause-none
without_head-requires-in-TooManyHeaders-clause-none c = λ short.
    let over = rw c.requires.lines at (subst (RequestOverflows (length c.args.headers.now)) c.window_of-window.ensures c.in-Err.ensures.no_room) in
    let all = c.window_of-window.ensures ∙ take_all 8192 c.args.bytes.now (omega arith) in
    let many = rw c.requires.lines at (subst (RequestExceeds (length c.args.headers.now)) all (c.in-Err.ensures.too_many (ap Err c.in-TooManyHeaders.is))) in
    (subst HasNoHead (append-nil c.args.bytes.now) (over_head c.args.bytes.now over []), (short, inr many), (many, over_head c.args.bytes.now over), refl)

pub without_head-requires-in-TooManyHeaders-clause-never : goal.without_head-requires-in-TooManyHeaders-clause-never
without_head-requires-in-TooManyHeaders-clause-never c = λ full.
    over_head c.args.bytes.now (rw c.requires.lines at (subst (RequestOverflows (length c.args.headers.now)) c.window_of-window.ensures c.in-Err.ensures.no_room))

pub returns-in-Ok-Partial : goal.returns-in-Ok-Partial
returns-in-Ok-Partial c = c.without_head.ensures _

pub returns-in-TooManyHeaders : goal.returns-in-TooManyHeaders
returns-in-TooManyHeaders c = c.without_head-in-TooManyHeaders.ensures _

pub returns-in_default : goal.returns-in_default
returns-in_default c = λ more. (some_bytes c.args.bytes.now more (some_there _ (sym c.is_empty.ensures ∙ c.if-is_empty.false)), never_head c.args.bytes.now (subst NeverHasRequest c.window_of-window.ensures (c.in-Err.ensures.invalid c.in_default.not-TooManyHeaders)) more)
