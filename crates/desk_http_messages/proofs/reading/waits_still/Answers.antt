use Rattle.std.proofs.Common.{ℕ, List, arith, eqb-true, length, sym, subst, take}
use Rattle.std.proofs.lemmas.Bool.{ltb-true}
use Rattle.std.proofs.lemmas.List.{take_all}
use Rattle.desk_http_messages.specs.Front.{IsWaiting}
use Rattle.desk_http_messages.proofs.WaitLemmas.{waits_body, waits_without}
use Rattle.desk_http_messages.proofs.reading.waits_still.Goals as goal

pub returns-in-Message-clause-still : goal.returns-in-Message-clause-still
returns-in-Message-clause-still c = λ same.
    let bytes = c.args.bytes.now in
    let all = eqb-true (length bytes) c.args.seen same in
    subst (λ (l : List ℕ). IsWaiting l c.args.pending) (take_all c.args.seen bytes (omega (arith, all))) c.requires.waiting

pub returns-in-NoHead-clause-still : goal.returns-in-NoHead-clause-still
returns-in-NoHead-clause-still c = λ yes.
    let before = subst (IsWaiting (take c.args.seen c.args.bytes.now)) c.in-NoHead.is c.requires.waiting in
    subst (IsWaiting c.args.bytes.now) (sym c.in-NoHead.is) (waits_without c.args.bytes.now c.args.seen before (ltb-true _ _ yes))

pub returns-in-Body-clause-still : goal.returns-in-Body-clause-still
returns-in-Body-clause-still c = λ yes.
    let before = subst (IsWaiting (take c.args.seen c.args.bytes.now)) c.in-Body.is c.requires.waiting in
    subst (IsWaiting c.args.bytes.now) (sym c.in-Body.is) (waits_body c.args.bytes.now c.args.seen c.in-Body.whole before (ltb-true _ _ yes))
